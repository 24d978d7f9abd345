use Rattle.xc_recovery.proofs.Placing.{made_placed}
use Rattle.xc_recovery.proofs.straight.make_change.Goals as goal

pub returns-clause-placed : goal.returns-clause-placed
returns-clause-placed c = made_placed c.make_any.result c.args.table.now c.args.matrix.now c.args.change.now c.args.choices.now c.make_any.new.matrix c.make_any.ensures c.requires.placed c.requires.granted
