use Rattle.std.proofs.Common.{◌-◌, ◌*◌, List, Some, length-append, sym, ap, arith, subst}
use Rattle.std.specs.Prelude.{length}
use Rattle.roll_plan.specs.declared.op.LegOp.{LegOp}
use Rattle.roll_plan.specs.declared.op.Move.{Move}
use Rattle.roll_plan.specs.Works.{join_writes, moves_writes, op_writes}
use Rattle.roll_plan.specs.Nexts.{IsNext}
use Rattle.roll_plan.proofs.Places.{moves_length, next_back, next_front}
use Rattle.roll_plan.proofs.next.next_of_op.Goals as goal

pub next_of_join-requires : goal.next_of_join-requires
next_of_join-requires c = let ms = c.in-Join.moves.items in let n = moves_length ms in let len = c.len-before.ensures.value in let past = c.if-place-before.false in
    let room = c.requires in let e = ap (λ (o : LegOp). length (op_writes o)) c.in-Join.is in
    let all = length-append (moves_writes ms) (join_writes c.in-Join.leg c.in-Join.choice.middle) in omega arith

pub next_of_moves-requires-in-Shift : goal.next_of_moves-requires-in-Shift
next_of_moves-requires-in-Shift c = let n = moves_length c.in-Shift.moves.items in let room = c.requires in let e = ap (λ (o : LegOp). length (op_writes o)) c.in-Shift.is in
    let same = ap (λ (ms : List Move). length ms) c.as_slice-in-Shift.ensures.value in omega arith

pub returns-then-place-before : goal.returns-then-place-before
returns-then-place-before c = let ms = c.in-Join.moves.items in let place = c.args.place in
    subst (λ (o : LegOp). IsNext (op_writes o) place (Some c.next_of_moves.result)) (sym c.in-Join.is)
    (next_front (moves_writes ms) (join_writes c.in-Join.leg c.in-Join.choice.middle) place c.next_of_moves.result
    (subst (λ (xs : List Move). IsNext (moves_writes xs) place (Some c.next_of_moves.result)) c.as_slice.ensures.value c.next_of_moves.ensures))

pub returns-else-place-before : goal.returns-else-place-before
returns-else-place-before c = let ms = c.in-Join.moves.items in let n = moves_length ms in let len = c.len-before.ensures.value in let past = c.if-place-before.false in let place = c.args.place in
    subst (λ (o : LegOp). IsNext (op_writes o) place (Some c.next_of_join.result)) (sym c.in-Join.is)
    (next_back (moves_writes ms) (join_writes c.in-Join.leg c.in-Join.choice.middle) place (place - 5 * c.len-before.result) c.next_of_join.result (omega arith) c.next_of_join.ensures)
