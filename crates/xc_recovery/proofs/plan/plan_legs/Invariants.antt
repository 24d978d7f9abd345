use Rattle.xc_recovery.proofs.Planning.{IsPlanning}
use Rattle.xc_recovery.proofs.plan.plan_legs.Given as goal

abbrev pub invariant-loop-i : goal.invariant-loop-i
invariant-loop-i l = IsPlanning l.fn.out l.fn.matrix l.fn.tasks.items l.i l.work.ops.items l.matrix
