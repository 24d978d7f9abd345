use Rattle.tl1_text.proofs.Totals.{units_there}
use Rattle.tl1_text.proofs.laws.units_are_there.Goals as goal

pub returns : goal.returns
returns c = units_there
