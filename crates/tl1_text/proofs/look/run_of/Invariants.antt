use Rattle.std.proofs.Common.{◌≤◌, ◌-◌, length, take}
use Rattle.tl1_text.specs.Reading.{IsRun}
use Rattle.tl1_text.proofs.look.run_of.Given as goal

abbrev pub invariant-loop-at : goal.invariant-loop-at
invariant-loop-at l = record {
  within : l.at ≤ length l.text;
  run : IsRun (take l.at l.text);
}

abbrev pub decreases-loop-at : goal.decreases-loop-at
decreases-loop-at l = length l.text - l.at
