-- Spans of a unit, and its blocks by their spans.
use Rattle.std.specs.Prelude.{◌≡◌, ℕ, ◌≤◌, List, length, map, slice_range, Some}
use Rattle.std.specs.List.{All}
use Rattle.tl1_text.specs.declared.span.Span.{Span}
use Rattle.tl1_text.specs.Grammar.{Block, AreParams}
use Rattle.tl1_text.specs.Walk.{blocks_of, values_of}

-- a span has its bytes in the unit
pub record IsIn (unit : List ℕ) (s : Span) : Type 0 where
  pub forwards : s.start ≤ s.end
  pub within : s.end ≤ length unit

-- the text that a span names
abbrev pub text_at : List ℕ → Span → List ℕ
text_at unit s = slice_range unit s.start s.end

-- the text is a block
pub record IsBlock (text : List ℕ) : Type 0 where
  pub params : AreParams text (values_of text)
  pub few : length (values_of text) ≤ 8

-- a span names a block
pub record IsBlockIn (unit : List ℕ) (s : Span) : Type 0 where
  pub is_in : IsIn unit s
  pub block : IsBlock (text_at unit s)

-- the block that a span names
abbrev pub block_at : List ℕ → Span → Block
block_at unit s = record { text = text_at unit s; values = values_of (text_at unit s) }

-- these spans are the unit's blocks
pub record AreBlocksOf (unit : List ℕ) (spans : List Span) : Type 0 where
  pub reading : blocks_of unit ≡ Some (map (block_at unit) spans)
  pub each : All (IsBlockIn unit) spans
