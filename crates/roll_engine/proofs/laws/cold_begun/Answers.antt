use Rattle.roll_engine.proofs.ColdRolling.{cold_begun}
use Rattle.roll_engine.proofs.laws.cold_begun.Goals as goal

pub returns : goal.returns
returns c = cold_begun
