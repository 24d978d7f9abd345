use Rattle.dxc_load.specs.Codes.{compld, deny}
use Rattle.dxc_load.proofs.Coding.{none_left}
use Rattle.dxc_load.proofs.codes.codes_in.Goals as goal

pub returns-clause-completed : goal.returns-clause-completed
returns-clause-completed c = none_left compld c.args.written.now c.loop-letter.text.now c.loop-letter.codes.completed c.loop-letter.invariant.completed c.in_default.ensures

pub returns-clause-denied : goal.returns-clause-denied
returns-clause-denied c = none_left deny c.args.written.now c.loop-letter.text.now c.loop-letter.codes.denied c.loop-letter.invariant.denied c.in_default.ensures
