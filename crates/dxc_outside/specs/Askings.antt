-- What fakes were asked or handed, by its number.
use Rattle.std.specs.Prelude.{ℕ, ◌+◌, List, ◌++◌, length}
use Rattle.std.proofs.Common.{subst, sym, arith, length-append}
use Rattle.dxc_causes.specs.Causes.{Counted}

pub counted_none : (n : ℕ) → Counted n n 0
counted_none n = record { reached = omega arith; no_more = omega arith }

counted_sum : (old between new first then : ℕ) → Counted old between first → Counted between new then → Counted old new (first + then)
counted_sum old between new first then one two = record {
  reached = omega (arith, one.reached, two.reached);
  no_more = omega (arith, one.no_more, two.no_more);
}

pub counted_on {ℓ} : {A : Type ℓ} (old between new : ℕ) (before after : List A) → Counted old between (length before) → Counted between new (length after) → Counted old new (length (before ++ after))
counted_on old between new before after one two =
    subst (λ n. Counted old new n) (sym (length-append before after)) (counted_sum old between new (length before) (length after) one two)
