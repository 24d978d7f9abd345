use Rattle.tl1_text.specs.Cuts.{IsCodeTo}
use Rattle.tl1_text.proofs.cutting.code_end.Given as goal

abbrev pub invariant-loop-at : goal.invariant-loop-at
invariant-loop-at l = IsCodeTo l.unit l.at l.word l.left
