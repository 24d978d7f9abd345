use Rattle.tl1_text.proofs.TagFacts.{tag_is}
use Rattle.tl1_text.proofs.laws.the_fourth_block_is_the_tag.Goals as goal

pub returns : goal.returns
returns c = tag_is
