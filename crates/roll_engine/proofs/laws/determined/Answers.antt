use Rattle.roll_engine.proofs.Wording.{determined}
use Rattle.roll_engine.proofs.laws.determined.Goals as goal

pub returns : goal.returns
returns c = determined
