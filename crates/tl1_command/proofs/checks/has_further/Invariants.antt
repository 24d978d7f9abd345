use Rattle.std.proofs.Common.{◌≡◌, map, drop}
use Rattle.std.specs.List.{list_any}
use Rattle.tl1_text.specs.Spans.{block_at}
use Rattle.tl1_command.specs.Blocks.{has_value_from}
use Rattle.tl1_command.proofs.checks.has_further.Given as goal

abbrev pub invariant-loop-number : goal.invariant-loop-number
invariant-loop-number l = list_any (has_value_from 0) (drop 6 (map (block_at l.unit) l.blocks.block.items)) ≡ list_any (has_value_from 0) (drop l.number (map (block_at l.unit) l.blocks.block.items))
