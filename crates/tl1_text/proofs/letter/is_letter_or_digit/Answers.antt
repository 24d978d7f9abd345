use Rattle.std.proofs.Common.{refl, arith}
use Rattle.std.specs.Char.{is_ascii_alphanumeric}
use Rattle.tl1_text.specs.declared.letter.TheConstants.{WORD}
use Rattle.tl1_text.proofs.Tables.{agree_below, from_table}
use Rattle.tl1_text.proofs.letter.is_letter_or_digit.Goals as goal

pub returns : goal.returns
unfolding agree_below
returns c = from_table is_ascii_alphanumeric 45 WORD c.args.b (omega arith) refl
