use Rattle.roll_engine.proofs.UnderWay.{under_way_done}
use Rattle.roll_engine.proofs.laws.under_way_done.Goals as goal

pub returns : goal.returns
returns c = under_way_done
