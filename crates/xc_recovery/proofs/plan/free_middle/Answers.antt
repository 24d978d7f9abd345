use Rattle.std.proofs.Common.{◌<◌, ◌∙◌, ℕ, IsBitSet, MatchOption, ap, subst}
use Rattle.dxc_num.specs.Dimensions.{Dimensions}
use Rattle.paull_matrix.specs.Colourings.{Colouring, IsFreeFor}
use Rattle.paull_chain.proofs.Planning.{lowest_of}
use Rattle.xc_recovery.proofs.Beginning.{plans_direct}
use Rattle.xc_recovery.proofs.plan.free_middle.Goals as goal

pub returns : goal.returns
returns c =
    let d : Colouring = c.args.matrix.now in
    let set : ℕ = c.free_for.result in
    plans_direct d c.args.leg c.shape.ensures.proper c.requires c.lowest.result
    (lowest_of (IsFreeFor d c.args.leg) set d.shape.slots c.free_for.ensures c.lowest.result
    (subst (λ (n : ℕ). MatchOption c.lowest.result ((k : ℕ) → k < n → ¬ IsBitSet set k) (λ m. (m.0 < n) × IsBitSet set m.0 × ((k : ℕ) → k < m.0 → ¬ IsBitSet set k))) (c.slots.ensures.value ∙ ap (λ (z : Dimensions). z.slots) c.shape.ensures.value) c.lowest.ensures))
