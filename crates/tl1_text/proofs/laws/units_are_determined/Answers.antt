use Rattle.tl1_text.proofs.Once.{streams_once}
use Rattle.tl1_text.proofs.laws.units_are_determined.Goals as goal

pub returns : goal.returns
returns c = streams_once
