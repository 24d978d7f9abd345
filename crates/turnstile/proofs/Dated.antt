-- Entries with their dates, and what a place took of two histories.
use Rattle.std.proofs.Common.{ℕ, ◌<◌, Bool, List, [], ◌∷◌, ◌++◌, filter, ◌⊎◌, inl, inr}
use Rattle.turnstile.specs.Dating.{Stamp}
use Rattle.turnstile.specs.Turning.{Each}

-- An entry with its date
pub record Dated (A : Type 0) : Type 0 where
  pub date : ℕ
  pub entry : A

abbrev pub dated : {A : Type 0} → ℕ → A → Dated A
dated d a = record { date = d; entry = a }

-- the entries alone
abbrev pub bare : {A : Type 0} → List (Dated A) → List A
bare [] = []
bare (x ∷ xs) = x.entry ∷ bare xs

-- entries with the dates of their stamps
abbrev pub with_dates : {A : Type 0} → List Stamp → List A → List (Dated A)
with_dates [] es = []
with_dates (s ∷ ss) [] = []
with_dates (s ∷ ss) (e ∷ es) = dated s.date e ∷ with_dates ss es

-- each date is higher than those before it
abbrev pub AreHigher : {A : Type 0} → List (Dated A) → Type 0
AreHigher [] = Unit {0}
AreHigher (x ∷ xs) = Each (λ y. x.date < y.date) xs × AreHigher xs

module _ {A B : Type 0} where
  -- entries of the one, or of the other, as entries of both
  abbrev pub of_one : List (Dated A) → List (Dated (A ⊎ B))
  of_one [] = []
  of_one (x ∷ xs) = dated x.date (inl x.entry) ∷ of_one xs

  abbrev pub of_other : List (Dated B) → List (Dated (A ⊎ B))
  of_other [] = []
  of_other (y ∷ ys) = dated y.date (inr y.entry) ∷ of_other ys

  module _ (used : A ⊎ B → Bool) where
    abbrev pub used_of : List (Dated (A ⊎ B)) → List (Dated (A ⊎ B))
    used_of = filter (λ z. used z.entry)

    -- each of these that is used has a higher date than all of those
    abbrev pub AreAbove : List (Dated (A ⊎ B)) → List (Dated (A ⊎ B)) → Type 0
    AreAbove zs more = Each (λ u. Each (λ z. z.date < u.date) zs) (used_of more)

    -- What a place has seen of two histories, and the entries of both that it used, as it took them, with higher and higher dates.
    pub data Takes : List (Dated A) → List (Dated B) → List (Dated (A ⊎ B)) → Type 0 where
      takes_none : Takes [] [] []
      takes_of_one : (xs more : List (Dated A)) (ys : List (Dated B)) (us : List (Dated (A ⊎ B)))
          → AreAbove us (of_one more) → Takes xs ys us → Takes (xs ++ more) ys (us ++ used_of (of_one more))
      takes_of_other : (xs : List (Dated A)) (ys more : List (Dated B)) (us : List (Dated (A ⊎ B)))
          → AreAbove us (of_other more) → Takes xs ys us → Takes xs (ys ++ more) (us ++ used_of (of_other more))
