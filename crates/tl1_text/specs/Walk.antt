-- A text of the grammar, read from its first byte to its last.
use Rattle.std.specs.Prelude.{◌≡◌, ℕ, ◌≤◌, ◌<◌, Bool, true, false, List, [], ◌∷◌, ◌-◌, length, slice_index, nat_le, nat_lt, ◌==◌, ◌&&◌, if◌then◌else◌, Option, Some, None}
use Rattle.std.specs.Option.{option_map, option_map_or, option_and_then}
use Rattle.std.specs.List.{list_all}
use Rattle.std.specs.Char.{is_ascii_alphanumeric}
use Rattle.tl1_text.specs.Places.{Place, Start, Plain, Quoted, Closed}
use Rattle.tl1_text.specs.Grammar.{is_plain, is_inner, Block, are_few, code_of}

-- the place is outside quotes, where a mark parts
abbrev pub is_outside : Place → Bool
is_outside Start = true
is_outside Plain = true
is_outside Quoted = false
is_outside Closed = true

-- a place at which plain bytes may stand
abbrev pub takes_plain : Place → Bool
takes_plain Start = true
takes_plain Plain = true
takes_plain Quoted = false
takes_plain Closed = false

-- the bytes from a place up to another are plain
abbrev pub ArePlain : List ℕ → ℕ → ℕ → Type 0
ArePlain text from end = (k : ℕ) → from ≤ k → k < end → is_plain (slice_index text k) ≡ true

-- the place in a parameter after one byte more, where the byte may stand here
abbrev pub after : Place → ℕ → Option Place
after Start b = if b == 34 then Some Quoted else if is_plain b then Some Plain else None
after Plain b = if is_plain b then Some Plain else None
after Quoted b = if b == 34 then Some Closed else if is_inner b then Some Quoted else None
after Closed b = None

-- what is left of a text: of the block in hand its text, of the parameter in hand its value, then further values and blocks
pub record Rest : Type 0 where
  pub text : List ℕ
  pub value : List ℕ
  pub values : List (List ℕ)
  pub others : List Block

abbrev pub nothing : Rest
nothing = record { text = []; value = []; values = []; others = [] }

-- the block in hand, and the further ones
abbrev pub all_blocks : Rest → List Block
all_blocks r = record { text = r.text; values = r.value ∷ r.values } ∷ r.others

-- the same with one byte more before it: a colon, a comma, or another
abbrev pub with_colon : Rest → Rest
with_colon r = record { text = []; value = []; values = []; others = all_blocks r }

abbrev pub with_comma : Rest → Rest
with_comma r = record { text = 44 ∷ r.text; value = []; values = r.value ∷ r.values; others = r.others }

abbrev pub with_byte : ℕ → Rest → Rest
with_byte b r = record { text = b ∷ r.text; value = if b == 34 then r.value else b ∷ r.value; values = r.values; others = r.others }

-- what is left, by the place in a parameter
abbrev pub walk : Place → List ℕ → Option Rest
walk place [] = if is_outside place then Some nothing else None
walk place (b ∷ bs) =
    if is_outside place && (b == 58) then option_map with_colon (walk Start bs)
    else if is_outside place && (b == 44) then option_map with_comma (walk Start bs)
    else option_and_then (λ p. option_map (λ r. with_byte b r) (walk p bs)) (after place b)

-- at most so many words of letters and digits, joined by -; the first has a byte already, or not
abbrev pub are_words : ℕ → Bool → List ℕ → Bool
are_words n begun [] = begun
are_words n begun (b ∷ bs) = if b == 45 then begun && nat_lt 1 n && are_words (n - 1) false bs else is_ascii_alphanumeric b && are_words n true bs

-- four to ten blocks of few parameters, the first of them a code of at most three words
abbrev pub are_command : List Block → Bool
are_command bs = nat_le 4 (length bs) && nat_le (length bs) 10 && list_all are_few bs && are_words 3 false (code_of bs)

abbrev pub if_command : List Block → Option (List Block)
if_command bs = if are_command bs then Some bs else None

-- the blocks of a command's text
unfoldable pub blocks_of : List ℕ → Option (List Block)
blocks_of text = option_and_then if_command (option_map all_blocks (walk Start text))

-- the values of a block's parameters
unfoldable pub values_of : List ℕ → List (List ℕ)
values_of text = option_map_or (λ r. r.value ∷ r.values) (walk Start text) []
