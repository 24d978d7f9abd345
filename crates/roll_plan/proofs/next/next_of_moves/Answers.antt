use Rattle.std.proofs.Common.{◌-◌, ◌*◌, ◌/◌, slice_index_or, refl, ◌∙◌, arith}
use Rattle.roll_plan.specs.declared.op.Move.{Move}
use Rattle.roll_plan.proofs.Places.{begins_at, moves_at}
use Rattle.roll_plan.proofs.next.next_of_moves.Goals as goal

none : Move
none = record { leg = record { input = record { 0 = 0 }; output = record { 0 = 0 } }; from = record { 0 = 0 }; to = record { 0 = 0 } }

pub returns-then-made-eq0 : goal.returns-then-made-eq0
unfolding none
returns-then-made-eq0 c = let made = c.if-made-eq0.true in let room = c.requires in let i = c.args.place / 5 in
    begins_at c.args.moves.now (slice_index_or c.args.moves.now i none) none i c.args.place (omega arith) (omega arith) refl

pub returns-else-made-eq0 : goal.returns-else-made-eq0
unfolding none
returns-else-made-eq0 c = let room = c.requires in let i = c.args.place / 5 in
    moves_at c.args.moves.now (slice_index_or c.args.moves.now i none) none i (c.args.place - 5 * i) c.args.place (omega arith) (omega arith) (omega arith) refl ∙ c.move_write.ensures
