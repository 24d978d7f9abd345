use Rattle.roll_engine.proofs.Running.{noted}
use Rattle.roll_engine.proofs.laws.noted.Goals as goal

pub returns : goal.returns
returns c = noted
