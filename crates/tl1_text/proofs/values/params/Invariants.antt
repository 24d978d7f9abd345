use Rattle.std.proofs.Common.{◌-◌, length}
use Rattle.tl1_text.specs.Values.{AreFound}
use Rattle.tl1_text.proofs.values.params.Given as goal

abbrev pub invariant-loop-left : goal.invariant-loop-left
invariant-loop-left l = AreFound l.unit l.fn.block l.values.items l.left

abbrev pub decreases-loop-left : goal.decreases-loop-left
decreases-loop-left l = 8 - length l.values.items
