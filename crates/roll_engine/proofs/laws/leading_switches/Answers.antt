use Rattle.roll_engine.proofs.Leading.{switched_by_joins}
use Rattle.roll_engine.proofs.laws.leading_switches.Goals as goal

pub returns : goal.returns
returns c = switched_by_joins
