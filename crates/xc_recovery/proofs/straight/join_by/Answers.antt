use Rattle.std.proofs.Common.{Option, sym, subst}
use Rattle.dxc_num.specs.declared.port.Middle.{Middle}
use Rattle.roll_plan.specs.declared.op.Chain.{Chain as ChainChoice}
use Rattle.xc_recovery.specs.declared.leg_task.LegTask.TheVariants.{Join}
use Rattle.xc_recovery.specs.Straight.{IsTried, tried_by}
use Rattle.xc_recovery.proofs.straight.join_by.Goals as goal

pub returns-in-None-Direct : goal.returns-in-None-Direct
returns-in-None-Direct c =
    subst (λ (w : Option Middle × ChainChoice). IsTried c.join.result (tried_by w.0 (Join c.args.leg) (record { middle = c.args.choice.middle; chain = w.1 })) c.args.matrix.now c.join.new.matrix)
    (λ i. (sym c.in-None-Direct.is-0 i, sym c.in-None-Direct.is-1 i)) c.join.ensures
