use Rattle.std.proofs.Common.{arith, ◌<◌, [], refl, ap}
use Rattle.dxc_num.specs.Dimensions.{Dimensions}
use Rattle.roll_plan.specs.declared.op.LegOp.{LegOp}
use Rattle.roll_plan.specs.declared.op.LegOp.TheVariants.{Join}
use Rattle.roll_plan.specs.declared.op.Chain.TheVariants.{Direct}
use Rattle.paull_matrix.specs.Colourings.{Colouring}
use Rattle.paull_chain.proofs.Planning.{joins_direct}
use Rattle.xc_recovery.proofs.straight.join.Goals as goal

pub returns : goal.returns
returns c =
    let d : Colouring = c.args.matrix.now in
    let x = c.if-middle-slots.false in let y = c.slots.ensures.value in let z = ap (λ (w : Dimensions). w.slots) c.shape.ensures.value in
    let low : c.args.middle.0 < d.shape.slots = omega arith in
    let free = c.is_free_for.ensures.0 c.if-not-is_free_for.false in
    let op : LegOp = Join c.args.leg (record { middle = c.args.middle; chain = Direct }) (record { items = [] }) in
    (op, ((low, free), joins_direct d c.args.leg c.args.middle op c.shape.ensures.proper c.requires.0 c.requires.1 c.requires.2 low free (refl, refl, refl)), c.place.ensures)
