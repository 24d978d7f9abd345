use Rattle.std.proofs.Common.{◌-◌, ◌*◌, List, slice_get, sym, ap, ◌∙◌, arith}
use Rattle.roll_plan.specs.declared.op.LegOp.{LegOp}
use Rattle.roll_plan.specs.declared.op.Move.{Move}
use Rattle.roll_plan.specs.Works.{join_writes, moves_writes, op_writes}
use Rattle.roll_plan.proofs.Places.{moves_length, at_front, at_back}
use Rattle.roll_plan.proofs.op_writes.op_write.Goals as goal

pub returns-then-place-before : goal.returns-then-place-before
returns-then-place-before c = let vs = c.in-Join.moves.items in let n = moves_length vs in let m = c.len-before.ensures.value in let low = c.if-place-before.true in
    c.moves_write.ensures
    ∙ (ap (λ (ms : List Move). slice_get (moves_writes ms) c.args.place) c.as_slice.ensures.value
    ∙ (sym (at_front (moves_writes vs) (join_writes c.in-Join.leg c.in-Join.choice.middle) c.args.place (omega arith))
    ∙ sym (ap (λ (o : LegOp). slice_get (op_writes o) c.args.place) c.in-Join.is)))

pub returns-else-place-before : goal.returns-else-place-before
returns-else-place-before c = let vs = c.in-Join.moves.items in let n = moves_length vs in let m = c.len-before.ensures.value in let low = c.if-place-before.false in
    c.join_write.ensures
    ∙ (sym (at_back (moves_writes vs) (join_writes c.in-Join.leg c.in-Join.choice.middle) c.args.place (c.args.place - 5 * c.len-before.result) (omega arith))
    ∙ sym (ap (λ (o : LegOp). slice_get (op_writes o) c.args.place) c.in-Join.is))
