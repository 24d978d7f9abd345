use Rattle.std.proofs.Common.{length, length-append, ap, arith}
use Rattle.roll_plan.specs.declared.op.LegOp.{LegOp}
use Rattle.roll_plan.specs.Works.{join_writes, moves_writes, op_writes}
use Rattle.roll_plan.proofs.Places.{moves_length}
use Rattle.roll_plan.proofs.op_writes.op_count.Goals as goal

pub returns-in-Join-clause-count : goal.returns-in-Join-clause-count
returns-in-Join-clause-count c = let n = moves_length c.in-Join.moves.items in let a = length-append (moves_writes c.in-Join.moves.items) (join_writes c.in-Join.leg c.in-Join.choice.middle) in
    let e = ap (λ (o : LegOp). length (op_writes o)) c.in-Join.is in omega arith

pub returns-in-Shift-clause-count : goal.returns-in-Shift-clause-count
returns-in-Shift-clause-count c = let n = moves_length c.in-Shift.moves.items in let e = ap (λ (o : LegOp). length (op_writes o)) c.in-Shift.is in omega arith
