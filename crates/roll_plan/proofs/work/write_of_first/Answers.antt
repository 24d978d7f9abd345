use Rattle.std.proofs.Common.{◌≡◌, List, Some, slice_get, subst}
use Rattle.std.specs.Prelude.{IfSome}
use Rattle.roll_plan.specs.declared.op.LegOp.{LegOp}
use Rattle.roll_plan.specs.Works.{ops_writes}
use Rattle.roll_plan.proofs.Places.{at_first}
use Rattle.roll_plan.proofs.work.write_of_first.Goals as goal

pub returns-clause-write : goal.returns-clause-write
returns-clause-write c = let h = c.in_ok-first.ensures.lookup in
    subst (λ (xs : List LegOp). IfSome c.op_write.result (λ w. slice_get (ops_writes xs) c.args.t ≡ Some w)) c.as_slice.ensures.value
    (at_first c.as_slice.result.now c.in_ok-first.first.now c.args.t c.op_write.result h.1 h.3.0 c.op_write.ensures)
