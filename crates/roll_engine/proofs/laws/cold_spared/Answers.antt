use Rattle.roll_engine.proofs.ColdRolling.{cold_spared}
use Rattle.roll_engine.proofs.laws.cold_spared.Goals as goal

pub returns : goal.returns
returns c = cold_spared
