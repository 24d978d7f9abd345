use Rattle.std.proofs.Common.{take}
use Rattle.tl1_text.specs.Reading.{IsRun}
use Rattle.tl1_text.proofs.look.run_in_short.Given as goal

abbrev pub invariant-loop-at : goal.invariant-loop-at
invariant-loop-at l = IsRun (take l.at l.text)
