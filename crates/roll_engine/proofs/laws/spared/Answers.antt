use Rattle.roll_engine.proofs.Running.{always_spared}
use Rattle.roll_engine.proofs.laws.spared.Goals as goal

pub returns : goal.returns
returns c = always_spared
