use Rattle.xc_core.proofs.Moves.{planned_few}
use Rattle.xc_core.proofs.beginning.plan_copied.Goals as goal

-- few circuits move
pub returns-then-due-clause-moves : goal.returns-then-due-clause-moves
returns-then-due-clause-moves g c = let w = c.requires.home in planned_few w.0 c.args.op.now c.plan.new.rolling.work c.in_ok-bytes.bytes c.args.table.now w.1.past.placed w.2 (c.in_ok-bytes.ensures.planned w.0 w.1 w.2).1

pub returns-else-due-clause-moves : goal.returns-else-due-clause-moves
returns-else-due-clause-moves g c = let w = c.requires.home in planned_few w.0 c.args.op.now c.plan.new.rolling.work c.in_ok-bytes.bytes c.args.table.now w.1.past.placed w.2 (c.in_ok-bytes.ensures.planned w.0 w.1 w.2).1
