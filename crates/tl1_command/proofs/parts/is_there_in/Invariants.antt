use Rattle.std.proofs.Common.{◌≡◌, IfSome, length}
use Rattle.std.specs.List.{list_any}
use Rattle.tl1_text.specs.Spans.{IsBlockIn}
use Rattle.tl1_text.specs.Values.{values_behind}
use Rattle.tl1_command.specs.Blocks.{is_there}
use Rattle.tl1_command.proofs.parts.is_there_in.Given as goal

abbrev pub invariant-loop-left : goal.invariant-loop-left
invariant-loop-left l = (list_any is_there (values_behind l.unit l.fn.block) ≡ list_any is_there (values_behind l.unit l.left)) × IfSome l.left (IsBlockIn l.unit)

abbrev pub decreases-loop-left : goal.decreases-loop-left
decreases-loop-left l = length (values_behind l.unit l.left)
