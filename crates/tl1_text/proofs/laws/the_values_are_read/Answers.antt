use Rattle.tl1_text.proofs.BlockFacts.{values_are}
use Rattle.tl1_text.proofs.laws.the_values_are_read.Goals as goal

pub returns : goal.returns
returns c = values_are
