-- The first parameter of a block, the further ones, and all of them.
use Rattle.std.specs.Prelude.{◌≡◌, ◌≤◌, ℕ, Bool, true, false, List, [], ◌∷◌, ◌++◌, ◌==◌, length, map, Option, Some, None, IfSome}
use Rattle.std.specs.List.{All, list_all}
use Rattle.tl1_text.specs.Places.{Place, Start, Plain, Quoted, Closed}
use Rattle.tl1_text.specs.declared.span.Span.{Span}
use Rattle.tl1_text.specs.declared.values.Param.{Param}
use Rattle.tl1_text.specs.Grammar.{is_plain, is_inner}
use Rattle.tl1_text.specs.Walk.{values_of}
use Rattle.tl1_text.specs.Spans.{IsIn, IsBlockIn, text_at}

-- the place that a text leads to in a parameter, with the value so far
pub data Leads : Place → List ℕ → List ℕ → Type 0 where
  at_start : Leads Start [] []
  in_plain : (v : List ℕ) → list_all is_plain v ≡ true → Leads Plain v v
  in_quotes : (v : List ℕ) → list_all is_inner v ≡ true → Leads Quoted (34 ∷ v) v
  behind_quotes : (v : List ℕ) → list_all is_inner v ≡ true → Leads Closed (34 ∷ v ++ 34 ∷ []) v

abbrev pub begins_quoted : List ℕ → Bool
begins_quoted [] = false
begins_quoted (b ∷ bs) = b == 34

-- the values of the parameters after one
abbrev pub values_behind : List ℕ → Option Span → List (List ℕ)
values_behind unit None = []
values_behind unit (Some s) = values_of (text_at unit s)

-- the parameter is the block's first
pub record IsFirst (unit : List ℕ) (block : Span) (p : Param) : Type 0 where
  pub values : values_of (text_at unit block) ≡ text_at unit p.value ∷ values_behind unit p.others
  pub value_in : IsIn unit p.value
  pub others_in : IfSome p.others (IsBlockIn unit)

-- these are the block's parameters, but for those of a block that is left
pub record AreFound (unit : List ℕ) (block : Span) (found : List Span) (left : Option Span) : Type 0 where
  pub values : values_of (text_at unit block) ≡ map (text_at unit) found ++ values_behind unit left
  pub few : length (values_of (text_at unit block)) ≤ 8
  pub found_in : All (IsIn unit) found
  pub left_in : IfSome left (IsBlockIn unit)
