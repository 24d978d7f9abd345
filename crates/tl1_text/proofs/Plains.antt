-- A run of plain bytes, as far as a place in it.
use Rattle.std.proofs.Common.{◌≡◌, ℕ, zero, suc, ◌+◌, ◌-◌, ◌<◌, ◌≤◌, true, false, List, get_or, length, ◌&&◌, ◌==◌, Some, refl, subst, inl, inr, arith}
use Rattle.std.proofs.lemmas.Bool.{cases_eq}
use Rattle.tl1_text.specs.Places.{Place, Start, Plain, Quoted, Closed}
use Rattle.tl1_text.specs.Grammar.{is_plain}
use Rattle.tl1_text.specs.Walk.{is_outside, takes_plain, after, ArePlain}
use Rattle.tl1_text.specs.Cuts.{Cutting, IsCutTo}
use Rattle.tl1_text.proofs.Walks.{plain_not}
use Rattle.tl1_text.proofs.CutSteps as cuts

-- a plain byte parts nothing, and leads on where one may stand
pub record IsPassed (p : Place) (b : ℕ) : Type 0 where
  pub colon : (is_outside p && (b == 58)) ≡ false
  pub comma : (is_outside p && (b == 44)) ≡ false
  pub next : after p b ≡ Some Plain

pub is_passed : (p : Place) (b : ℕ) → takes_plain p ≡ true → is_plain b ≡ true → IsPassed p b
is_passed Start b open_here is =
    let other = plain_not b is in
    record { colon = other.2; comma = other.1; next = rw (is, other.0) (refl) }
is_passed Plain b open_here is =
    let other = plain_not b is in
    record { colon = other.2; comma = other.1; next = rw is (refl) }
is_passed Quoted b open_here is = cc
is_passed Closed b open_here is = cc

abbrev pub behind_run : ℕ → Place → Place
behind_run zero p = p
behind_run (suc n) p = Plain

takes_more : (n : ℕ) (p : Place) → takes_plain p ≡ true → takes_plain (behind_run n p) ≡ true
takes_more zero p is = is
takes_more (suc n) p is = refl

-- what one plain byte keeps, a run keeps
module _ (Stands : ℕ → Place → Type 0) (text : List ℕ) (from end : ℕ) (plain : ArePlain text from end)
    (more : (at : ℕ) (p : Place) → Stands at p → at < end → IsPassed p (get_or text at 0) → Stands (at + 1) Plain) (p : Place) (takes : takes_plain p ≡ true) (here : Stands from p) where
  run_to : (n : ℕ) → from + n ≤ end → Stands (from + n) (behind_run n p)
  run_to zero le = let same : from ≡ from + 0 = omega arith in subst (λ (k : ℕ). Stands k p) same here
  run_to (suc n) le =
      let before = run_to n (omega (arith, le)) in
      let passed = is_passed (behind_run n p) (get_or text (from + n) 0) (takes_more n p takes) (plain (from + n) (omega arith) (omega (arith, le))) in
      let same : (from + n) + 1 ≡ from + suc n = omega arith in
      subst (λ (k : ℕ). Stands k Plain) same (more (from + n) (behind_run n p) before (omega (arith, le)) passed)

  some_run : (n : ℕ) → 0 < n → from + n ≡ end → Stands end Plain
  some_run zero lt is = absurd (omega (arith, lt))
  some_run (suc n) lt is = subst (λ (k : ℕ). Stands k Plain) is (run_to (suc n) (omega (arith, is)))

  pub whole_run : from < end → Stands end Plain
  whole_run lt = some_run (end - from) (omega (arith, lt)) (omega (arith, lt))

pub cut_run : (unit : List ℕ) (from end : ℕ) (c : Cutting) → IsCutTo unit from c → takes_plain c.place ≡ true → end ≤ length unit → ArePlain unit from end → from < end
    → IsCutTo unit end (record { found = c.found; start = c.start; params = c.params; place = Plain })
cut_run unit from end c cut takes le plain lt =
    whole_run (λ (at : ℕ) (p : Place). IsCutTo unit at (record { found = c.found; start = c.start; params = c.params; place = p })) unit from end plain
    (λ at p stands below passed. cuts.next_byte unit at (record { found = c.found; start = c.start; params = c.params; place = p }) stands (omega (arith, below, le)) Plain passed.colon passed.comma passed.next)
    c.place takes cut lt

-- the byte at which a run stops is one more of it
pub plain_more : (text : List ℕ) (from at : ℕ) → ArePlain text from at → is_plain (get_or text at 0) ≡ true → ArePlain text from (at + 1)
plain_more text from at plain is = λ k low high. elim (cases_eq k at) [ inl same ↦ rw same (is) | inr other ↦ plain k low (omega (arith, high, other)) ]
