-- What holds of the meaning of every text in the grammar.
use Rattle.std.specs.Prelude.{◌≡◌, ℕ, List, length, nat_lt, if◌then◌else◌, Ok, Err}
use Rattle.dxc_model.specs.declared.cause.Cause.TheVariants.{BadValue}
use Rattle.tl1_text.specs.Grammar.{Block, IsCommandText}
use Rattle.tl1_command.specs.Blocks.{second_value}
use Rattle.tl1_command.specs.Meanings.{label_named}

-- in a command's text a label is refused exactly where it has more than 24 bytes
abbrev pub LabelsAreShort : Type 0
LabelsAreShort = (text : List ℕ) (bs : List Block) → IsCommandText text bs → label_named (second_value bs) ≡ (if nat_lt 24 (length (second_value bs)) then Err BadValue else Ok (second_value bs))
