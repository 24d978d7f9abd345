use Rattle.tl1_answer.proofs.Cuts.{are_cut}
use Rattle.tl1_answer.proofs.laws.blocks_are_determined.Goals as goal

pub returns : goal.returns
returns c = are_cut
