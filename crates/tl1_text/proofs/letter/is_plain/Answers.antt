use Rattle.std.proofs.Common.{refl, arith}
use Rattle.tl1_text.specs.Grammar.{is_plain}
use Rattle.tl1_text.specs.declared.letter.TheConstants.{PLAIN}
use Rattle.tl1_text.proofs.Tables.{agree_below, from_table}
use Rattle.tl1_text.proofs.letter.is_plain.Goals as goal

pub returns : goal.returns
unfolding agree_below
returns c = from_table is_plain 44 PLAIN c.args.b (omega arith) refl
