use Rattle.roll_engine.proofs.ColdRolling.{cold_done}
use Rattle.roll_engine.proofs.laws.cold_done.Goals as goal

pub returns : goal.returns
returns c = cold_done
