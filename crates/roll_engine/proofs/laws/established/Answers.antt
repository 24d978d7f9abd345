use Rattle.roll_engine.proofs.Running.{always_established}
use Rattle.roll_engine.proofs.laws.established.Goals as goal

pub returns : goal.returns
returns c = always_established
