-- What is kept of the looks at each worker, as one more is noted.
use Rattle.std.proofs.Common.{◌≡◌, ◌≢◌, ℕ, zero, suc, ◌%◌, ◌<◌, List, [], ◌∷◌, length, get_or, set, replicate, sym, refl, ap, ◌∙◌, arith, Bool, true, false, if◌then◌else◌, eq-eqb, ne_eqb}
use mathlib.Core.Logic.{dite}
use native.Mathlib.Decide.{ℕ_discrete}
use Rattle.fabric_core.specs.declared.seen.Seen.{Seen}
use Rattle.fabric_core.specs.Passing.{seen_of, seen_after, next_first, gone}
use Rattle.fabric_words.specs.Looks.{known}

abbrev nothing : Seen
nothing = seen_of []

pub known_none : (n : ℕ) (fs : List ℕ) → length fs ≡ n → known (replicate n false) fs (replicate n false) ≡ replicate n nothing
known_none zero fs e = refl
known_none (suc n) [] e = absurd (omega arith)
known_none (suc n) (f ∷ fs) e = ap (λ (ss : List Seen). nothing ∷ ss) (known_none n fs (omega arith))

pub known_length : (os : List Bool) (fs : List ℕ) (ps : List Bool) → length os ≡ length ps → length fs ≡ length ps → length (known os fs ps) ≡ length ps
known_length [] fs [] eo ef = refl
known_length [] fs (p ∷ ps) eo ef = absurd (omega arith)
known_length (o ∷ os) fs [] eo ef = absurd (omega arith)
known_length (o ∷ os) [] (p ∷ ps) eo ef = absurd (omega arith)
known_length (o ∷ os) (f ∷ fs) (p ∷ ps) eo ef = let e = known_length os fs ps (omega arith) (omega arith) in omega arith

-- the parts of what is known of a worker
pub passed_at : (os : List Bool) (fs : List ℕ) (ps : List Bool) (w : ℕ) (b : Bool) → length os ≡ length ps → length fs ≡ length ps → w < length ps → get_or ps w b ≡ (get_or (known os fs ps) w nothing).passed
passed_at os fs [] w b eo ef low = absurd (omega arith)
passed_at [] fs (p ∷ ps) w b eo ef low = absurd (omega arith)
passed_at (o ∷ os) [] (p ∷ ps) w b eo ef low = absurd (omega arith)
passed_at (o ∷ os) (f ∷ fs) (p ∷ ps) zero b eo ef low = refl
passed_at (o ∷ os) (f ∷ fs) (p ∷ ps) (suc w) b eo ef low = passed_at os fs ps w b (omega arith) (omega arith) (omega arith)

pub first_at : (os : List Bool) (fs : List ℕ) (ps : List Bool) (w : ℕ) (b : Bool) (n : ℕ) → length os ≡ length ps → length fs ≡ length ps → w < length ps
    → (if get_or os w b then get_or fs w n else 0) ≡ (get_or (known os fs ps) w nothing).first
first_at os fs [] w b n eo ef low = absurd (omega arith)
first_at [] fs (p ∷ ps) w b n eo ef low = absurd (omega arith)
first_at (o ∷ os) [] (p ∷ ps) w b n eo ef low = absurd (omega arith)
first_at (o ∷ os) (f ∷ fs) (p ∷ ps) zero b n eo ef low = refl
first_at (o ∷ os) (f ∷ fs) (p ∷ ps) (suc w) b n eo ef low = first_at os fs ps w b n (omega arith) (omega arith) (omega arith)

-- one of them is written
pub passes : (os : List Bool) (fs : List ℕ) (ps : List Bool) (w : ℕ) → length os ≡ length ps → length fs ≡ length ps → w < length ps
    → known os fs (set ps w true) ≡ set (known os fs ps) w (record { first = (get_or (known os fs ps) w nothing).first; passed = true })
passes os fs [] w eo ef low = absurd (omega arith)
passes [] fs (p ∷ ps) w eo ef low = absurd (omega arith)
passes (o ∷ os) [] (p ∷ ps) w eo ef low = absurd (omega arith)
passes (o ∷ os) (f ∷ fs) (p ∷ ps) zero eo ef low = refl
passes (o ∷ os) (f ∷ fs) (p ∷ ps) (suc w) eo ef low = ap (λ (ss : List Seen). record { first = (if o then f else 0); passed = p } ∷ ss) (passes os fs ps w (omega arith) (omega arith) (omega arith))

pub begins_odd : (os : List Bool) (fs : List ℕ) (ps : List Bool) (w n : ℕ) → length os ≡ length ps → length fs ≡ length ps → w < length ps
    → known (set os w true) (set fs w n) ps ≡ set (known os fs ps) w (record { first = n; passed = (get_or (known os fs ps) w nothing).passed })
begins_odd os fs [] w n eo ef low = absurd (omega arith)
begins_odd [] fs (p ∷ ps) w n eo ef low = absurd (omega arith)
begins_odd (o ∷ os) [] (p ∷ ps) w n eo ef low = absurd (omega arith)
begins_odd (o ∷ os) (f ∷ fs) (p ∷ ps) zero n eo ef low = refl
begins_odd (o ∷ os) (f ∷ fs) (p ∷ ps) (suc w) n eo ef low = ap (λ (ss : List Seen). record { first = (if o then f else 0); passed = p } ∷ ss) (begins_odd os fs ps w n (omega arith) (omega arith) (omega arith))

-- what a look makes of what is known
even_gone : (g : ℕ) (p : Bool) (f : ℕ) → f % 2 ≡ 0 → gone g p f ≡ true
even_gone g true f even = refl
even_gone g false f even = rw (eq-eqb (f % 2) 0 even)

first_gone : (g : ℕ) (p : Bool) (f : ℕ) → f % 2 ≢ 0 → g ≡ 0 → gone g p f ≡ p
first_gone g true f odd none = refl
first_gone g false f odd none = rw (ne_eqb (f % 2) 0 odd, eq-eqb g 0 none)

other_gone : (g : ℕ) (p : Bool) (f : ℕ) → f % 2 ≢ 0 → g ≢ 0 → f ≢ g → gone g p f ≡ true
other_gone g true f odd some other = refl
other_gone g false f odd some other = rw (ne_eqb (f % 2) 0 odd, ne_eqb g 0 some, ne_eqb f g other)

even_first : (g f : ℕ) → f % 2 ≡ 0 → next_first g f ≡ g
even_first g f even = dite (ℕ_discrete g 0)
    (λ e. let is : next_first g f ≡ 0 = rw (eq-eqb g 0 e, ne_eqb (f % 2) 1 (omega arith)) in is ∙ sym e)
    (λ e. rw (ne_eqb g 0 e))

none_first : (g f : ℕ) → f % 2 ≢ 0 → g ≡ 0 → next_first g f ≡ f
none_first g f odd none = rw (eq-eqb g 0 none, eq-eqb (f % 2) 1 (omega arith))

some_first : (g f : ℕ) → g ≢ 0 → next_first g f ≡ g
some_first g f some = rw (ne_eqb g 0 some)

pub even_after : (s : Seen) (f : ℕ) → f % 2 ≡ 0 → seen_after s f ≡ record { first = s.first; passed = true }
even_after s f even = λ i. record { first = even_first s.first f even i; passed = even_gone s.first s.passed f even i }

pub first_after : (s : Seen) (f : ℕ) → f % 2 ≢ 0 → s.first ≡ 0 → seen_after s f ≡ record { first = f; passed = s.passed }
first_after s f odd none = λ i. record { first = none_first s.first f odd none i; passed = first_gone s.first s.passed f odd none i }

pub other_after : (s : Seen) (f : ℕ) → f % 2 ≢ 0 → s.first ≢ 0 → f ≢ s.first → seen_after s f ≡ record { first = s.first; passed = true }
other_after s f odd some other = λ i. record { first = some_first s.first f some i; passed = other_gone s.first s.passed f odd some other i }
