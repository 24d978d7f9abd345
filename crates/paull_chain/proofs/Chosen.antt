-- Each new leg has a choice by lowest numbers, and that is valid.
use Rattle.std.proofs.Common.{◌≡◌, ◌⊎◌, ℕ, zero, suc, ◌<◌, length, inl, inr, subst, ⊎_elim, arith}
use mathlib.Core.Logic.{dite}
use native.Mathlib.Decide.{ℕ_discrete}
use Rattle.std.proofs.Math.Decide.{dec_lt}
use Rattle.dxc_num.specs.declared.port.Leg.{Leg}
use Rattle.dxc_num.specs.Dimensions.{IsInside}
use Rattle.roll_plan.specs.declared.op.Chain.{Chain as ChainChoice}
use Rattle.roll_plan.specs.declared.op.Chain.TheVariants.{Direct, Row as ByRow, Column as ByColumn}
use Rattle.paull_matrix.specs.declared.side.Side.{Side}
use Rattle.paull_matrix.specs.declared.side.Side.TheVariants.{Row, Column}
use Rattle.paull_matrix.specs.Colourings.{Colouring, Holds, IsFree, IsFreeFor, IsProperColouring, IsUnused, module_on}
use Rattle.paull_matrix.proofs.Legs.{both_sides, module_low}
use Rattle.paull_chain.specs.Choices.{BothChains, IsPair, NeedsChain, IsChosen, IsValidChoice}
use Rattle.paull_matrix.specs.Middles.{IsLowest}
use Rattle.paull_chain.specs.Laws.{IsAlwaysChosen}
use Rattle.paull_chain.proofs.Bound.{short}
use Rattle.paull_chain.proofs.Seconds.{chain_walk}
use Rattle.paull_chain.proofs.Joining.{seek, some_free, row_chain, column_chain}
use Rattle.paull_chain.proofs.Slots.{unused_fewer}

-- of what can be told of each number, the lowest below n is found
lowest_or_none : (P : ℕ → Type 0) → ((k : ℕ) → P k ⊎ (P k → ⊥)) → (n : ℕ) → ((k : ℕ) × IsLowest P n k) ⊎ ((k : ℕ) → k < n → P k → ⊥)
lowest_or_none P tell zero = inr (λ k lt h. let z : ⊥ = omega arith in z)
lowest_or_none P tell (suc n) = ⊎_elim
    (λ (f : (k : ℕ) × IsLowest P n k). let low = f.1.0 in inl (f.0, (omega arith, f.1.1, f.1.2)))
    (λ (none : (k : ℕ) → k < n → P k → ⊥). ⊎_elim
    (λ (h : P n). inl (n, (omega arith, h, none)))
    (λ (no : P n → ⊥). inr (λ k lt h. dite (ℕ_discrete k n) (λ e. no (subst P e h)) (λ other. none k (omega arith) h)))
    (tell n))
    (lowest_or_none P tell n)

module _ (c : Colouring) (p : IsProperColouring c) (l : Leg) where
  tell : (s : Side) (m k : ℕ) → IsFree c s m k ⊎ (IsFree c s m k → ⊥)
  tell s m k = ⊎_elim (λ (t : (x : Leg) × Holds c x k × (module_on c.shape s x ≡ m)). inr (λ f. f t.0 t.1 t.2)) (λ (f : IsFree c s m k). inl f) (seek c p s m k)

  tell_both : (k : ℕ) → IsFreeFor c l k ⊎ (IsFreeFor c l k → ⊥)
  tell_both k = ⊎_elim
      (λ (f : IsFree c Row (module_on c.shape Row l) k). ⊎_elim (λ (g : IsFree c Column (module_on c.shape Column l) k). inl (both_sides c l k f g)) (λ (no : IsFree c Column (module_on c.shape Column l) k → ⊥). inr (λ f. no (f Column))) (tell Column (module_on c.shape Column l) k))
      (λ (no : IsFree c Row (module_on c.shape Row l) k → ⊥). inr (λ f. no (f Row)))
      (tell Row (module_on c.shape Row l) k)

  lowest_free : IsInside c.shape l → IsUnused c l → (s : Side) → (k : ℕ) × IsLowest (IsFree c s (module_on c.shape s l)) c.shape.slots k
  lowest_free i u s = ⊎_elim
      (λ (f : (k : ℕ) × IsLowest (IsFree c s (module_on c.shape s l)) c.shape.slots k). f)
      (λ (none : (k : ℕ) → k < c.shape.slots → IsFree c s (module_on c.shape s l) k → ⊥). let f = some_free c p s (module_on c.shape s l) c.shape.slots (unused_fewer c l s p i u) in absurd (none f.0 f.1 f.2))
      (lowest_or_none (IsFree c s (module_on c.shape s l)) (tell s (module_on c.shape s l)) c.shape.slots)

  by_chains : (a b : ℕ) → IsInside c.shape l → NeedsChain c l a b → (k : ℕ) × (h : ChainChoice) × IsChosen c l k h × IsValidChoice c l k h
  by_chains a b i n =
      let li = module_low c.shape Row l i in
      let lj = module_low c.shape Column l i in
      let free = n.in_row.1 in
      let clear = n.in_column.1 in
      let row = row_chain c a b p (module_on c.shape Row l) (module_on c.shape Column l) free clear li lj in
      let column = column_chain c a b p (module_on c.shape Row l) (module_on c.shape Column l) free clear li lj in
      let sum = short c a b p (module_on c.shape Row l) (module_on c.shape Column l) row.0 column.0 free clear li lj (chain_walk c a b Row (module_on c.shape Row l) row.0 row.1) (chain_walk c a b Column (module_on c.shape Column l) column.0 column.1) in
      let pair : IsPair c l a b = record { low = (n.in_row.0, n.in_column.0); in_row = free; in_column = clear; used = (n.none a n.in_row.0, n.none b n.in_column.0) } in
      let both : BothChains c l a b row.0 column.0 = record { row = row.1; column = column.1 } in
      dite (dec_lt (length column.0) (length row.0))
      (λ less. (a, ByColumn (record { 0 = b }), (n, (row.0, column.0, both, less)), (pair, (column.0, column.1, omega arith))))
      (λ more. (b, ByRow (record { 0 = a }), (n, (row.0, column.0, both, omega arith)), (pair, (row.0, row.1, omega arith))))

pub always_chosen : IsAlwaysChosen
always_chosen c l p i u = ⊎_elim
    (λ (f : (k : ℕ) × IsLowest (IsFreeFor c l) c.shape.slots k). (f.0, Direct, f.1, (f.1.0, f.1.1)))
    (λ (none : (k : ℕ) → k < c.shape.slots → IsFreeFor c l k → ⊥).
    let a = lowest_free c p l i u Row in
    let b = lowest_free c p l i u Column in
    by_chains c p l a.0 b.0 i (record { none = none; in_row = a.1; in_column = b.1 }))
    (lowest_or_none (IsFreeFor c l) (tell_both c p l) c.shape.slots)
