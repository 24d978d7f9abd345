use Rattle.xc_recovery.proofs.Making.{IsMidway}
use Rattle.xc_recovery.proofs.make.legs_by.Given as goal

abbrev pub invariant-loop-i : goal.invariant-loop-i
invariant-loop-i l = IsMidway l.fn.out l.fn.matrix l.fn.tasks.items l.choices l.i l.work.ops.items l.matrix
