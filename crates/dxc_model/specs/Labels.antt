-- Labels of connections.
use Rattle.std.specs.Prelude.{ℕ, Bool, not, ◌&&◌, ◌==◌, nat_lt, List, length, Option, Some, None, if◌then◌else◌}
use Rattle.std.specs.Int.{is_in_range}
use Rattle.std.specs.List.{list_all}

-- a byte of ASCII text that a quoted parameter may hold: 0x20 to 0x7E, without the quote
abbrev pub is_label_byte : ℕ → Bool
is_label_byte b = is_in_range 32 126 b && not (b == 34)

abbrev pub are_label_bytes : List ℕ → Bool
are_label_bytes text = list_all is_label_byte text

-- at most 24 such bytes
abbrev pub is_label : List ℕ → Bool
is_label text = not (nat_lt 24 (length text)) && are_label_bytes text

-- the text, where it is a label
abbrev pub as_label : List ℕ → Option (List ℕ)
as_label text = if is_label text then Some text else None
