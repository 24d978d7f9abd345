use Rattle.std.proofs.Common.{◌-◌, length}
use Rattle.tl1_text.specs.Cuts.{IsCutOn}
use Rattle.tl1_text.proofs.cutting.cut.Given as goal

abbrev pub invariant-loop-at : goal.invariant-loop-at
invariant-loop-at l = IsCutOn l.unit l.code l.at l.found.items l.start l.params

abbrev pub decreases-loop-at : goal.decreases-loop-at
decreases-loop-at l = length l.unit - l.at
