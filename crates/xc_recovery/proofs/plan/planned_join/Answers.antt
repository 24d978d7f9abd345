use Rattle.std.proofs.Common.{sym, subst, Option}
use Rattle.std.specs.Prelude.{MatchOption}
use Rattle.dxc_num.specs.declared.port.Middle.{Middle}
use Rattle.roll_plan.specs.declared.op.LegOp.{LegOp}
use Rattle.xc_recovery.specs.ChangeWorks.{PlansAs}
use Rattle.xc_recovery.proofs.Spelled.{plan_out_match}
use Rattle.xc_recovery.proofs.plan.planned_join.Goals as goal

pub returns-in-Some-clause-planned : goal.returns-in-Some-clause-planned
returns-in-Some-clause-planned c = let m = c.args.matrix.now in let l = c.args.leg in
    subst (λ (o : Option Middle). MatchOption c.plan_out.result ((p : LegOp) → ¬ PlansAs o m l p) (PlansAs o m l)) (sym c.in-Some.is) (plan_out_match c.in-Some.out m l c.plan_out.result c.plan_out.ensures)
