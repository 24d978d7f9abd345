-- The test of `Passed`, look by look.
use Rattle.std.proofs.Common.{◌≡◌, ◌≢◌, ◌⊎◌, ℕ, zero, suc, ◌+◌, ◌%◌, ◌<◌, take, length, get_or, List, [], ◌∷◌, ◌++◌, sym, refl, ap, ◌∙◌, inl, inr, subst, ⊎_elim, arith, Bool, true, false, true≢false, eq-eqb, ne_eqb}
use mathlib.Core.Option.{some, some-injective, some-ne-none}
use mathlib.Core.Logic.{dite}
use native.Mathlib.Decide.{ℕ_discrete}
use lib.ListN.{get_elem?}
use Rattle.std.proofs.Math.Seq.{take-suc}
use Rattle.fabric_core.specs.Passing.{next_first, first_from, Passed, gone, passed_from, has_passed, seen_of, seen_after}

first_kept : (g : ℕ) (fs : List ℕ) → g ≢ 0 → first_from g fs ≡ g
first_kept g [] h = refl
first_kept g (f ∷ fs) h = let e : next_first g f ≡ g = rw (ne_eqb g 0 h) in ap (λ (n : ℕ). first_from n fs) e ∙ first_kept g fs h

gone_kept : (g : ℕ) (fs : List ℕ) → passed_from g true fs ≡ true
gone_kept g [] = refl
gone_kept g (f ∷ fs) = gone_kept (next_first g f) fs

-- the state after one more look
pub first_more : (g : ℕ) (fs : List ℕ) (f : ℕ) → first_from g (fs ++ f ∷ []) ≡ next_first (first_from g fs) f
first_more g [] f = refl
first_more g (x ∷ fs) f = first_more (next_first g x) fs f

pub passed_more : (g : ℕ) (p : Bool) (fs : List ℕ) (f : ℕ) → passed_from g p (fs ++ f ∷ []) ≡ gone (first_from g fs) (passed_from g p fs) f
passed_more g p [] f = refl
passed_more g p (x ∷ fs) f = passed_more (next_first g x) (gone g p x) fs f

Shows : ℕ → List ℕ → ℕ → ℕ → Type 0
Shows g fs i f = (get_elem? fs i ≡ some f) × ((f % 2 ≡ 0) ⊎ (f ≢ first_from g fs))

why : (g : ℕ) (p : Bool) (f : ℕ) (fs : List ℕ) → gone g p f ≡ true → (p ≡ true) ⊎ ((f % 2 ≡ 0) ⊎ (f ≢ first_from g (f ∷ fs)))
why g true f fs h = inl refl
why g false f fs h = dite (ℕ_discrete (f % 2) 0) (λ e. inr (inl e)) (λ odd. dite (ℕ_discrete g 0)
    (λ e. let is : gone g false f ≡ false = rw (ne_eqb (f % 2) 0 odd, eq-eqb g 0 e) in absurd (true≢false (sym h ∙ is)))
    (λ some_first. dite (ℕ_discrete f g)
    (λ e. let is : gone g false f ≡ false = rw (ne_eqb (f % 2) 0 odd, ne_eqb g 0 some_first, eq-eqb f g e) in absurd (true≢false (sym h ∙ is)))
    (λ other. inr (inr (λ e. other (e ∙ (first_kept g (f ∷ fs) some_first)))))))

pub passed_is : (g : ℕ) (p : Bool) (fs : List ℕ) → passed_from g p fs ≡ true → (p ≡ true) ⊎ ((i : ℕ) × (f : ℕ) × (get_elem? fs i ≡ some f) × ((f % 2 ≡ 0) ⊎ (f ≢ first_from g fs)))
passed_is g p [] h = inl h
passed_is g p (f ∷ fs) h = ⊎_elim
    (λ (e : gone g p f ≡ true). ⊎_elim (λ (q : p ≡ true). inl q) (λ (q : (f % 2 ≡ 0) ⊎ (f ≢ first_from g (f ∷ fs))). inr (0, f, refl, q)) (why g p f fs e))
    (λ (e : (i : ℕ) × (u : ℕ) × (get_elem? fs i ≡ some u) × ((u % 2 ≡ 0) ⊎ (u ≢ first_from (next_first g f) fs))). inr (suc e.0, e.1, e.2, e.3))
    (passed_is (next_first g f) (gone g p f) fs h)

here : (g : ℕ) (p : Bool) (f : ℕ) (fs : List ℕ) → (f % 2 ≡ 0) ⊎ (f ≢ first_from g (f ∷ fs)) → gone g p f ≡ true
here g true f fs h = refl
here g false f fs (inl even) = rw (eq-eqb (f % 2) 0 even)
here g false f fs (inr other) = dite (ℕ_discrete (f % 2) 0) (λ e. rw (eq-eqb (f % 2) 0 e)) (λ odd. dite (ℕ_discrete g 0)
    (λ e. let is : next_first g f ≡ f = rw (eq-eqb g 0 e, eq-eqb (f % 2) 1 (omega arith)) in absurd (other (sym (ap (λ (n : ℕ). first_from n fs) is ∙ first_kept f fs (λ z. odd (ap (λ (n : ℕ). n % 2) z))))))
    (λ e. let is : first_from g (f ∷ fs) ≡ g = first_kept g (f ∷ fs) e in rw (ne_eqb (f % 2) 0 odd, ne_eqb g 0 e, ne_eqb f g (λ q. other (q ∙ sym is)))))

pub is_passed : (g : ℕ) (p : Bool) (fs : List ℕ) (i f : ℕ) → get_elem? fs i ≡ some f → (f % 2 ≡ 0) ⊎ (f ≢ first_from g fs) → passed_from g p fs ≡ true
is_passed g p [] i f at h = absurd (some-ne-none f (sym at))
is_passed g p (x ∷ fs) zero f at h = let same : x ≡ f = some-injective x f at in
    let now : gone g p x ≡ true = here g p x fs (subst (λ (u : ℕ). (u % 2 ≡ 0) ⊎ (u ≢ first_from g (x ∷ fs))) (sym same) h) in
    ap (λ (b : Bool). passed_from (next_first g x) b fs) now ∙ gone_kept (next_first g x) fs
is_passed g p (x ∷ fs) (suc i) f at h = is_passed (next_first g x) (gone g p x) fs i f at h

pub passed_test : (fs : List ℕ) → has_passed fs ≡ true → Passed fs
passed_test fs h = ⊎_elim (λ (e : false ≡ true). absurd (true≢false (sym e))) (λ (e : Passed fs). e) (passed_is 0 false fs h)

pub test_passed : (fs : List ℕ) → Passed fs → has_passed fs ≡ true
test_passed fs (i, f, at, h) = is_passed 0 false fs i f at h

pub seen_more : (fs : List ℕ) (f : ℕ) → seen_of (fs ++ f ∷ []) ≡ seen_after (seen_of fs) f
seen_more fs f = λ i. record { first = first_more 0 fs f i; passed = passed_more 0 false fs f i }

-- the looks up to the next one
pub seen_next : (fs : List ℕ) (i f : ℕ) → i < length fs → get_or fs i 0 ≡ f → seen_of (take (i + 1) fs) ≡ seen_after (seen_of (take i fs)) f
seen_next fs i f low is = let e : i + 1 ≡ suc i = omega arith in ap (λ (k : ℕ). seen_of (take k fs)) e ∙ (ap seen_of (take-suc fs i 0 low) ∙ (seen_more (take i fs) (get_or fs i 0) ∙ ap (seen_after (seen_of (take i fs))) is))
