use Rattle.std.proofs.Common.{sym, subst, List, Option}
use Rattle.std.specs.Prelude.{MatchOption}
use Rattle.dxc_num.specs.declared.port.Middle.{Middle}
use Rattle.roll_plan.specs.declared.op.LegOp.{LegOp}
use Rattle.xc_recovery.specs.declared.leg_task.LegTask.{LegTask}
use Rattle.xc_recovery.specs.ChangeWorks.{MayDo, WorksBy}
use Rattle.xc_recovery.proofs.Placing.{may_do}
use Rattle.xc_recovery.proofs.Shifting.{legs_match}
use Rattle.xc_recovery.proofs.make.made_by.Goals as goal

pub legs_by-requires : goal.legs_by-requires
legs_by-requires c = subst (λ (x : Option Middle × List LegTask). MayDo x.0 c.args.matrix.now x.1) (λ i. (sym c.out.ensures i, sym c.tasks_of-tasks.ensures i)) (may_do c.args.table.now c.args.matrix.now c.requires.placed c.args.change.now c.requires.granted)

pub returns-in-None-clause-made : goal.returns-in-None-clause-made
returns-in-None-clause-made c = let m = c.args.matrix.now in let hs = c.args.choices.now in
    legs_match c.args.table.now m c.args.change.now hs c.legs_by.result c.in-None.ensures.shift
    (subst (λ (x : Option Middle × List LegTask). MatchOption c.legs_by.result ((ops : List LegOp) → ¬ WorksBy x.0 m x.1 hs ops) (λ w. WorksBy x.0 m x.1 hs w.ops.items)) (λ i. (c.out.ensures i, c.tasks_of-tasks.ensures i)) c.legs_by.ensures.made)
