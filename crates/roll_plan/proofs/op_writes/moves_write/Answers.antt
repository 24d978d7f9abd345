use Rattle.std.proofs.Common.{◌≤◌, ◌/◌, ◌%◌, length, sym, ◌∙◌, arith}
use Rattle.std.proofs.lemmas.Option.{slice_get_past}
use Rattle.roll_plan.specs.Works.{moves_writes}
use Rattle.roll_plan.proofs.Places.{moves_at, moves_length}
use Rattle.roll_plan.proofs.op_writes.moves_write.Goals as goal

pub returns-in_err-step : goal.returns-in_err-step
returns-in_err-step c = let n = moves_length c.args.moves.now in let h : length c.args.moves.now ≤ c.args.place / 5 = c.in_err-step.ensures.lookup.3 in
    c.from_residual.ensures ∙ sym (slice_get_past (moves_writes c.args.moves.now) c.args.place (omega arith))

pub returns : goal.returns
returns c = let h = c.in_ok-step.ensures.lookup in
    sym (moves_at c.args.moves.now c.in_ok-step.step.now c.in_ok-step.step.now (c.args.place / 5) (c.args.place % 5) c.args.place (omega arith) (omega arith) h.3.0 h.1 ∙ c.move_write.ensures)
