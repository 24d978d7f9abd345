-- The parts of a unit that a command is read from.
use Rattle.std.specs.Prelude.{◌≡◌, ℕ, List, [], drop, slice_index_or, Option, IfSome}
use Rattle.tl1_text.specs.Grammar.{Block}
use Rattle.tl1_text.specs.declared.span.Span.{Span}
use Rattle.tl1_text.specs.Spans.{IsIn, IsBlockIn, text_at}
use Rattle.tl1_text.specs.Values.{values_behind}
use Rattle.tl1_command.specs.declared.parts.Pair.{Pair}
use Rattle.tl1_command.specs.declared.parts.Parts.{Parts}
use Rattle.tl1_command.specs.Blocks.{block}

-- a block has these values, none where it isn't there
pub record HasValues (unit : List ℕ) (vs : List (List ℕ)) (b : Option Span) : Type 0 where
  pub values : vs ≡ values_behind unit b
  pub block_in : IfSome b (IsBlockIn unit)

-- the first two of a block's values, and the block of the further ones
pub record IsPair (unit : List ℕ) (vs : List (List ℕ)) (p : Pair) : Type 0 where
  pub first : text_at unit p.first ≡ slice_index_or vs 0 []
  pub second : text_at unit p.second ≡ slice_index_or vs 1 []
  pub others : drop 2 vs ≡ values_behind unit p.others
  pub first_in : IsIn unit p.first
  pub second_in : IsIn unit p.second
  pub others_in : IfSome p.others (IsBlockIn unit)

-- those of the AID block and of the first payload block
pub record AreParts (unit : List ℕ) (bs : List Block) (p : Parts) : Type 0 where
  pub aids : IsPair unit (block 2 bs).values p.aids
  pub payload : IsPair unit (block 5 bs).values p.payload
