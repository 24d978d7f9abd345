-- One order of the entries of two turnstiles, in which those of each place come as it made them.
use Rattle.std.specs.Prelude.{◌≡◌, ℕ, Bool, List, [], ◌∷◌, ◌++◌, map, filter, length, ◌⊎◌}
use mathlib.Core.Logic.{inl, inr}
use Rattle.turnstile.specs.Dating.{IsOwnAbove, Stamp}

module _ {A B : Type 0} where
  -- those of the one among entries of both, and those of the other
  abbrev pub at_one : List (A ⊎ B) → List A
  at_one [] = []
  at_one (inl a ∷ m) = a ∷ at_one m
  at_one (inr b ∷ m) = at_one m

  abbrev pub at_other : List (A ⊎ B) → List B
  at_other [] = []
  at_other (inl a ∷ m) = at_other m
  at_other (inr b ∷ m) = b ∷ at_other m

  -- one order of two histories
  pub record IsOrder (h : List A) (g : List B) (order : List (A ⊎ B)) : Type 0 where
    pub one : at_one order ≡ h
    pub other : at_other order ≡ g

  -- What a place has seen of two histories, as stamps and entries, and the entries of both that it used, as it took them: in its turns with the one its own
  -- entries have higher dates than its own in what it had seen of the other.
  pub data TakesTurns (used : A ⊎ B → Bool) (place : ℕ) : List Stamp → List A → List Stamp → List B → List (A ⊎ B) → Type 0 where
    no_turns : TakesTurns used place [] [] [] [] []
    turns_of_one : (ss more : List Stamp) (h es : List A) (ts : List Stamp) (g : List B) (us : List (A ⊎ B))
        → length more ≡ length es → IsOwnAbove place ts more
        → TakesTurns used place ss h ts g us → TakesTurns used place (ss ++ more) (h ++ es) ts g (us ++ filter used (map inl es))
    turns_of_other : (ss : List Stamp) (h : List A) (ts more : List Stamp) (g es : List B) (us : List (A ⊎ B))
        → length more ≡ length es → IsOwnAbove place ss more
        → TakesTurns used place ss h ts g us → TakesTurns used place ss h (ts ++ more) (g ++ es) (us ++ filter used (map inr es))
