-- Correlation tags and source identifiers.
use Rattle.std.specs.Prelude.{◌≢◌, ℕ, Bool, false, List, [], ◌∷◌, length, nat_lt, not, ◌&&◌, ◌||◌, ◌==◌, if◌then◌else◌, Option, Some, None}
use Rattle.std.specs.Option.{option_map, option_and_then}
use Rattle.std.specs.List.{list_all}
use Rattle.std.specs.Char.{is_ascii_alphabetic, is_ascii_alphanumeric}

-- there are this many or fewer, and one at least
abbrev pub is_short : ℕ → List ℕ → Bool
is_short most [] = false
is_short most (b ∷ bs) = not (nat_lt most (length (b ∷ bs)))

abbrev pub is_alphanumeric : List ℕ → Bool
is_alphanumeric text = list_all is_ascii_alphanumeric text

abbrev pub is_zeros : List ℕ → Bool
is_zeros text = list_all (λ b. b == 48) text

-- one to six letters and digits that aren't all 0
abbrev pub is_ctag : List ℕ → Bool
is_ctag text = is_short 6 text && (is_alphanumeric text && not (is_zeros text))

-- the text, where it is a CTAG
abbrev pub as_ctag : List ℕ → Option (List ℕ)
as_ctag text = if is_ctag text then Some text else None

-- whether a quote stands open after one byte more
abbrev pub flip : Bool → ℕ → Bool
flip quoted b = if b == 34 then not quoted else quoted

-- the bytes before the first colon outside quotes, or all of them
abbrev pub before_colon : Bool → List ℕ → List ℕ
before_colon quoted [] = []
before_colon quoted (b ∷ bs) = if not quoted && (b == 58) then [] else b ∷ before_colon (flip quoted b) bs

-- the bytes after it, where there is one
abbrev pub behind_colon : Bool → List ℕ → Option (List ℕ)
behind_colon quoted [] = None
behind_colon quoted (b ∷ bs) = if not quoted && (b == 58) then Some bs else behind_colon (flip quoted b) bs

abbrev pub next_block : Option (List ℕ) → Option (List ℕ)
next_block text = option_and_then (behind_colon false) text

-- the fourth block, cut at colons outside quotes, where it is a CTAG
unfoldable pub ctag_of : List ℕ → Option (List ℕ)
ctag_of text = option_and_then as_ctag (option_map (before_colon false) (next_block (next_block (next_block (Some text)))))

-- a letter, a digit or -
abbrev pub is_name_byte : ℕ → Bool
is_name_byte b = is_ascii_alphanumeric b || (b == 45)

abbrev pub are_name_bytes : List ℕ → Bool
are_name_bytes text = list_all is_name_byte text

-- 1 to 20 letters, digits and -, of which the first is a letter
abbrev pub is_sid : List ℕ → Bool
is_sid [] = false
is_sid (b ∷ bs) = is_short 20 (b ∷ bs) && (is_ascii_alphabetic b && are_name_bytes (b ∷ bs))

-- the text, where it is a SID
abbrev pub as_sid : List ℕ → Option (List ℕ)
as_sid text = if is_sid text then Some text else None

-- none of these bytes is a colon or a quote
abbrev pub IsUnparted : List ℕ → Type 0
IsUnparted [] = Unit {0}
IsUnparted (b ∷ bs) = (b ≢ 58) × (b ≢ 34) × IsUnparted bs
