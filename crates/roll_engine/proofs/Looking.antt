-- Looks, one list after the other.
use Rattle.std.proofs.Common.{◌≡◌, ◌≢◌, ℕ, ◌+◌, ◌%◌, ◌<◌, List, [], ◌∷◌, ◌++◌, Bool, true, false, true≢false, length, sym, refl, ap, ◌∙◌, subst, arith, length-set, get_or-set_same, eq-eqb, ne_eqb}
use mathlib.Core.Logic.{dite}
use native.Mathlib.Decide.{ℕ_discrete}
use Rattle.fabric_core.specs.declared.size.Size.{Size}
use Rattle.fabric_core.specs.declared.mover.Mover.{Mover}
use Rattle.fabric_core.specs.Passing.{first_from, first_seen, gone, has_passed, next_first, Passed}
use Rattle.fabric_core.specs.State.{looks_of}
use Rattle.fabric_core.specs.Moving.{AllPassed, looked}
use Rattle.fabric_core.proofs.Passing as passing
use Rattle.fabric_core.proofs.Passing.{passed_test}
use Rattle.roll_engine.specs.Writes.{Looks}
use Rattle.roll_engine.specs.Answers.{IsSeen}

pub looks_join : (z : Size) (fs gs : List (ℕ × ℕ)) (m a b : Mover) → Looks z fs m a → Looks z gs a b → Looks z (fs ++ gs) m b
looks_join z [] gs m a b h k = subst (λ (x : Mover). Looks z gs x b) (sym h) k
looks_join z (f ∷ fs) gs m a b (low, h) k = (low, looks_join z fs gs (looked f.0 f.1 m) a b h k)

pub one_look : (z : Size) (m m' : Mover) (w f : ℕ) → w < z.workers → m' ≡ looked w f m → (fs : List (ℕ × ℕ)) × Looks z fs m m'
one_look z m m' w f low e = ((w, f) ∷ [], (low, sym e))

abbrev pub with_looks : List (List ℕ) → Mover → Mover
with_looks ls m = record { registers = m.registers; legs = m.legs; phase = m.phase; written = m.written; log = m.log; looks = ls }

-- looks change nothing but what was looked at
pub looks_only : (z : Size) (fs : List (ℕ × ℕ)) (m a : Mover) → Looks z fs m a → a ≡ with_looks a.looks m
looks_only z [] m a h = subst (λ (x : Mover). x ≡ with_looks x.looks m) h refl
looks_only z (f ∷ fs) m a (low, h) = looks_only z fs (looked f.0 f.1 m) a h

-- looks keep a list of them for each worker
pub looks_length : (z : Size) (fs : List (ℕ × ℕ)) (m a : Mover) → Looks z fs m a → length a.looks ≡ length m.looks
looks_length z [] m a h = ap (λ (x : Mover). length x.looks) (sym h)
looks_length z (f ∷ fs) m a (low, h) = looks_length z fs (looked f.0 f.1 m) a h ∙ length-set m.looks f.0 (looks_of m f.0 ++ f.1 ∷ [])

-- the workers below n have passed
abbrev pub HavePassed : ℕ → Mover → Type 0
HavePassed n m = (w : ℕ) → w < n → Passed (looks_of m w)

pub passed_more : (n : ℕ) (m m' : Mover) → HavePassed n m → ((u : ℕ) → u ≢ n → looks_of m' u ≡ looks_of m u) → Passed (looks_of m' n) → HavePassed (n + 1) m'
passed_more n m m' h same now w low = dite (ℕ_discrete w n) (λ e. subst (λ (i : ℕ). Passed (looks_of m' i)) (sym e) now) (λ other. subst Passed (sym (same w other)) (h w (omega arith)))

pub all_passed : (z : Size) (n : ℕ) (m : Mover) → n ≡ z.workers → HavePassed n m → AllPassed z m
all_passed z n m e h w low = h w (omega arith)

-- a look after which the worker hasn't passed
not_gone : (g f : ℕ) (p : Bool) → gone g p f ≡ false → (f % 2 ≡ 1) × (f ≡ next_first g f)
not_gone g f true h = absurd (true≢false h)
not_gone g f false h = dite (ℕ_discrete (f % 2) 0)
    (λ e. let is : gone g false f ≡ true = rw (eq-eqb (f % 2) 0 e) in absurd (true≢false (sym is ∙ h)))
    (λ odd. (
      omega arith,
      dite (ℕ_discrete g 0)
          (λ e. let is : next_first g f ≡ f = rw (eq-eqb g 0 e, eq-eqb (f % 2) 1 (omega arith)) in sym is)
          (λ some_first. let is : next_first g f ≡ g = rw (ne_eqb g 0 some_first) in dite (ℕ_discrete f g) (λ e. e ∙ sym is)
          (λ other. let was : gone g false f ≡ true = rw (ne_eqb (f % 2) 0 odd, ne_eqb g 0 some_first, ne_eqb f g other) in absurd (true≢false (sym was ∙ h)))),
    ))

never_true : (b : Bool) → (b ≡ true → ⊥) → b ≡ false
never_true true none = absurd (none refl)
never_true false none = refl

pub seen_look : (z : Size) (m m' : Mover) (w f : ℕ) → w < z.workers → length m.looks ≡ z.workers → m' ≡ looked w f m → (Passed (looks_of m' w) → ⊥) → IsSeen z m m' f
seen_look z m m' w f low full e still =
    let h : has_passed (looks_of m' w) ≡ false = never_true (has_passed (looks_of m' w)) (λ is. still (passed_test (looks_of m' w) is)) in
    let is : looks_of m' w ≡ looks_of m w ++ f ∷ [] = ap (λ (p : Mover). looks_of p w) e ∙ get_or-set_same m.looks w (looks_of m w ++ f ∷ []) [] (omega arith) in
    let more = passing.passed_more 0 false (looks_of m w) f in
    let first = passing.first_more 0 (looks_of m w) f in
    let k = not_gone (first_from 0 (looks_of m w)) f (has_passed (looks_of m w)) (sym more ∙ (sym (ap has_passed is) ∙ h)) in record {
      worker = w;
      low = low;
      earlier = [];
      before = m;
      looks = refl;
      look = e;
      not_passed = still;
      odd = k.0;
      first = k.1 ∙ (sym first ∙ sym (ap first_seen is));
    }

-- the same, with looks before
pub seen_later : (z : Size) (fs : List (ℕ × ℕ)) (m a m' : Mover) (f : ℕ) → Looks z fs m a → IsSeen z a m' f → IsSeen z m m' f
seen_later z fs m a m' f h s = record {
  worker = s.worker;
  low = s.low;
  earlier = fs ++ s.earlier;
  before = s.before;
  looks = looks_join z fs s.earlier m a s.before h s.looks;
  look = s.look;
  not_passed = s.not_passed;
  odd = s.odd;
  first = s.first;
}

-- all its looks
pub seen_looks : (z : Size) (m m' : Mover) (f : ℕ) → IsSeen z m m' f → (fs : List (ℕ × ℕ)) × Looks z fs m m'
seen_looks z m m' f s = (s.earlier ++ (s.worker, f) ∷ [], looks_join z s.earlier ((s.worker, f) ∷ []) m s.before m' s.looks (s.low, sym s.look))
