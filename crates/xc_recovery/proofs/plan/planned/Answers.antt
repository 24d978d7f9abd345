use Rattle.std.proofs.Common.{sym, subst, List, Option}
use Rattle.std.specs.Prelude.{MatchOption}
use Rattle.dxc_num.specs.declared.port.Middle.{Middle}
use Rattle.roll_plan.specs.declared.op.LegOp.{LegOp}
use Rattle.xc_recovery.specs.declared.leg_task.LegTask.{LegTask}
use Rattle.xc_recovery.specs.ChangeWorks.{MayDo, WorksPlanned}
use Rattle.xc_recovery.proofs.Placing.{may_do}
use Rattle.xc_recovery.proofs.Shifting.{plan_legs_match}
use Rattle.xc_recovery.proofs.plan.planned.Goals as goal

pub plan_legs-requires : goal.plan_legs-requires
plan_legs-requires c = subst (λ (x : Option Middle × List LegTask). MayDo x.0 c.args.matrix.now x.1) (λ i. (sym c.out.ensures i, sym c.tasks_of-tasks.ensures i)) (may_do c.args.table.now c.args.matrix.now c.requires.placed c.args.change.now c.requires.granted)

pub returns-in-None-clause-planned : goal.returns-in-None-clause-planned
returns-in-None-clause-planned c = let m = c.args.matrix.now in
    plan_legs_match c.args.table.now m c.args.change.now c.plan_legs.result c.in-None.ensures.shift
    (subst (λ (x : Option Middle × List LegTask). MatchOption c.plan_legs.result ((ops : List LegOp) → ¬ WorksPlanned x.0 m x.1 ops) (λ w. WorksPlanned x.0 m x.1 w.ops.items)) (λ i. (c.out.ensures i, c.tasks_of-tasks.ensures i)) c.plan_legs.ensures.planned)
