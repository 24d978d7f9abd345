use Rattle.std.proofs.Common.{◌<◌, ◌∙◌, ℕ, IsBitSet, arith, ap, sym, subst, Some}
use Rattle.paull_chain.proofs.Joining.{some_free}
use Rattle.paull_chain.proofs.Slots.{unused_fewer}
use Rattle.paull_chain.proofs.Planning.{lowest_of}
use Rattle.paull_chain.proofs.plan.lowest_beside.Goals as goal
use Rattle.dxc_num.specs.Dimensions.{Dimensions}
use Rattle.paull_matrix.specs.Colourings.{Colouring, IsFree, module_on}

pub unreachable-requires : goal.unreachable-requires
unreachable-requires c =
    let d : Colouring = c.args.matrix.now in
    let p = c.shape.ensures.proper in
    let f = some_free d p c.args.side (module_on d.shape c.args.side c.args.leg) d.shape.slots (unused_fewer d c.args.leg c.args.side p c.requires.0 c.requires.1) in
    c.in-None.ensures f.0 (subst (λ (n : ℕ). f.0 < n) (sym (c.slots.ensures.value ∙ ap (λ (z : Dimensions). z.slots) c.shape.ensures.value)) f.1) ((c.free_beside-free.ensures f.0 (let low = f.1 in omega arith)).1 f.2)

pub returns : goal.returns
returns c =
    let d : Colouring = c.args.matrix.now in
    lowest_of (IsFree d c.args.side (module_on d.shape c.args.side c.args.leg)) c.free_beside-free.result d.shape.slots c.free_beside-free.ensures (Some c.in-Some.middle)
    (subst (λ (n : ℕ). (c.in-Some.middle.0 < n) × IsBitSet c.free_beside-free.result c.in-Some.middle.0 × ((k : ℕ) → k < c.in-Some.middle.0 → ¬ IsBitSet c.free_beside-free.result k)) (c.slots.ensures.value ∙ ap (λ (z : Dimensions). z.slots) c.shape.ensures.value) c.in-Some.ensures)
