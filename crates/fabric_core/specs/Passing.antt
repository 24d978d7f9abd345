-- What the looks at one worker tell: whether the frames that ran before them are over.
use Rattle.std.specs.Prelude.{◌≡◌, ◌≢◌, ◌⊎◌, ℕ, ◌%◌, ◌==◌, if◌then◌else◌, List, [], ◌∷◌, Bool, true, false}
use mathlib.Core.Option.{some}
use lib.ListN.{get_elem?}
use Rattle.fabric_core.specs.declared.seen.Seen.{Seen}

-- the first odd number among g and then f, or 0
abbrev pub next_first : ℕ → ℕ → ℕ
next_first g f = (if g == 0 then (if f % 2 == 1 then f else 0) else g)

abbrev pub first_from : ℕ → List ℕ → ℕ
first_from g [] = g
first_from g (f ∷ fs) = first_from (next_first g f) fs

-- the first odd number, or 0
abbrev pub first_seen : List ℕ → ℕ
first_seen fs = first_from 0 fs

-- one of the looks gave an even number, or an odd one other than the first odd one
abbrev pub Passed : List ℕ → Type 0
Passed fs = (i : ℕ) × (f : ℕ) × (get_elem? fs i ≡ some f) × ((f % 2 ≡ 0) ⊎ (f ≢ first_seen fs))

-- the same as a test, look by look: g is the first odd number so far, p says whether the worker has passed
abbrev pub gone : ℕ → Bool → ℕ → Bool
gone g p f = (if p then true else (if f % 2 == 0 then true else (if g == 0 then false else (if f == g then false else true))))

abbrev pub passed_from : ℕ → Bool → List ℕ → Bool
passed_from g p [] = p
passed_from g p (f ∷ fs) = passed_from (next_first g f) (gone g p f) fs

abbrev pub has_passed : List ℕ → Bool
has_passed fs = passed_from 0 false fs

-- what the looks tell so far, and after one more
abbrev pub seen_of : List ℕ → Seen
seen_of fs = record { first = first_seen fs; passed = has_passed fs }

abbrev pub seen_after : Seen → ℕ → Seen
seen_after s f = record { first = next_first s.first f; passed = gone s.first s.passed f }
