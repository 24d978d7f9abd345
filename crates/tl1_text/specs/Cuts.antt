-- A unit that is being cut into blocks.
use Rattle.std.specs.Prelude.{◌≡◌, ◌≢◌, ℕ, ◌+◌, ◌≤◌, ◌<◌, Bool, true, false, List, ◌∷◌, ◌++◌, length, map, drop, slice_index, slice_range, nat_lt, ◌==◌, ◌||◌, Option, Some}
use Rattle.std.specs.Option.{option_map}
use Rattle.std.specs.List.{All, list_all}
use Rattle.tl1_text.specs.Places.{Place, Start}
use Rattle.tl1_text.specs.declared.span.Span.{Span}
use Rattle.tl1_text.specs.Grammar.{Block, are_few}
use Rattle.tl1_text.specs.Walk.{is_outside, takes_plain, ArePlain, Rest, all_blocks, walk, are_words}
use Rattle.tl1_text.specs.Spans.{IsIn, text_at}

-- all blocks: those that are done, the one in hand with what it has already, and the further ones
abbrev pub resumed : List Block → List ℕ → List (List ℕ) → List ℕ → Rest → List Block
resumed done text values value r = done ++ record { text = text ++ r.text; values = values ++ (value ++ r.value) ∷ r.values } ∷ r.others

-- the unit's blocks, where it is all read
abbrev pub reading : List ℕ → Option (List Block)
reading unit = option_map all_blocks (walk Start unit)

-- the spans of the blocks that are done, and where the one in hand starts, how many parameters it has so far, and the place in the last of them
pub record Cutting : Type 0 where
  pub found : List Span
  pub start : ℕ
  pub params : ℕ
  pub place : Place

-- the unit is cut as far as a place in it
pub record IsCutTo (unit : List ℕ) (at : ℕ) (c : Cutting) : Type 0 where
  pub done : List Block
  pub values : List (List ℕ)
  pub value : List ℕ
  pub goes_on : reading unit ≡ option_map (resumed done (slice_range unit c.start at) values value) (walk c.place (drop at unit))
  pub texts : map (text_at unit) c.found ≡ map (λ (b : Block). b.text) done
  pub few : list_all are_few done ≡ true
  pub count : length values + 1 ≡ c.params
  pub most : c.params ≤ 8
  pub forwards : c.start ≤ at
  pub within : at ≤ length unit
  pub each : All (IsIn unit) c.found

-- the unit is cut into at most ten blocks of few parameters
pub record IsCut (unit : List ℕ) (spans : List Span) : Type 0 where
  pub blocks : List Block
  pub is_read : reading unit ≡ Some blocks
  pub texts : map (text_at unit) spans ≡ map (λ (b : Block). b.text) blocks
  pub few : list_all are_few blocks ≡ true
  pub each : All (IsIn unit) spans

-- a byte that parts outside quotes: a colon or a comma
abbrev pub is_mark : ℕ → Bool
is_mark b = (b == 58) || (b == 44)

-- words of a code stand in front of a place, the last of them from a place on; with it there may be so many more
pub record IsCodeTo (unit : List ℕ) (at word left : ℕ) : Type 0 where
  pub plain : ArePlain unit 0 at
  pub words : (t : List ℕ) → are_words 3 false (slice_range unit 0 at ++ t) ≡ are_words left (nat_lt word at) t
  pub some : 1 ≤ left
  pub behind : word ≤ at

-- a code stands in front of a colon
pub record IsCode (unit : List ℕ) (end : ℕ) : Type 0 where
  pub plain : ArePlain unit 0 end
  pub some : 0 < end
  pub within : end < length unit
  pub colon : slice_index unit end ≡ 58
  pub words : are_words 3 false (slice_range unit 0 end) ≡ true

-- how far the cutting of a unit has come: the spans of the blocks that are done, where the one in hand starts, and how many parameters it has so far
pub record Headway : Type 0 where
  pub found : List Span
  pub start : ℕ
  pub params : ℕ

-- after its code the unit is cut as far as a place outside quotes, which the byte before it tells
pub record IsCutOn (unit : List ℕ) (code at : ℕ) (found : List Span) (start params : ℕ) : Type 0 where
  pub place : Place
  pub cut : IsCutTo unit at (record { found = found; start = start; params = params; place = place })
  pub outside : is_outside place ≡ true
  pub before : ℕ
  pub is_before : before + 1 ≡ at
  pub starts : is_mark (slice_index unit before) ≡ true → place ≡ Start
  pub begun : is_mark (slice_index unit before) ≡ false → place ≢ Start
  pub closed : takes_plain place ≡ false → at < length unit → is_mark (slice_index unit at) ≡ true
  pub further : List Span
  pub found_is : found ≡ record { start = 0; end = code } ∷ further
  pub room : length found ≤ 9

-- the same, with what is cut so far as one thing
abbrev pub IsCutSoFar : List ℕ → ℕ → ℕ → Headway → Type 0
IsCutSoFar unit code at so_far = IsCutOn unit code at so_far.found so_far.start so_far.params
