-- Bytes of a text by the bits of a mask.
use Rattle.std.specs.Prelude.{ℕ, Bool, not, List, map}
use Rattle.std.specs.Char.{is_ascii_alphanumeric}
use Rattle.std.specs.Simd.Lanes.{mask_l}
use Rattle.tl1_text.specs.Grammar.{is_plain}

-- a byte that isn't plain
abbrev pub is_stop : ℕ → Bool
is_stop b = not (is_plain b)

-- a byte that is in no word of a code
abbrev pub is_break : ℕ → Bool
is_break b = not (is_ascii_alphanumeric b)

-- a bit for each byte, the first one's the lowest: set where the byte is of the class
abbrev pub mask_of : (ℕ → Bool) → List ℕ → ℕ
mask_of class bytes = mask_l (map class bytes)
