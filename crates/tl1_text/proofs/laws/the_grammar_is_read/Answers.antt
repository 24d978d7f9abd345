use Rattle.tl1_text.proofs.BlockFacts.{grammar_read}
use Rattle.tl1_text.proofs.laws.the_grammar_is_read.Goals as goal

pub returns : goal.returns
returns c = grammar_read
