use Rattle.tl1_text.proofs.Once.{streams_append}
use Rattle.tl1_text.proofs.laws.units_are_continued.Goals as goal

pub returns : goal.returns
returns c = streams_append
