use Rattle.std.proofs.Common.{sym, subst, Option}
use Rattle.std.specs.Bool.{OnFalse}
use Rattle.dxc_num.specs.declared.port.Middle.{Middle}
use Rattle.roll_plan.specs.declared.op.LegOp.{LegOp}
use Rattle.xc_recovery.specs.ChangeWorks.{PlansAs}
use Rattle.xc_recovery.proofs.plan.begin_join.Goals as goal

pub returns-in-Some-clause-none : goal.returns-in-Some-clause-none
returns-in-Some-clause-none c = subst (λ (x : Option Middle). OnFalse c.begin_out.result ((o : LegOp) → ¬ PlansAs x c.args.matrix.now c.args.leg o)) (sym c.in-Some.is) c.begin_out.ensures.none
