use Rattle.roll_engine.proofs.UnderWay.{under_way_on}
use Rattle.roll_engine.proofs.laws.under_way_on.Goals as goal

pub returns : goal.returns
returns c = under_way_on
