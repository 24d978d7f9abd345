use Rattle.std.proofs.Common.{◌≡◌, ◌≤◌, ◌-◌, length, slice_range}
use Rattle.tl1_text.specs.Stops.{is_break, mask_of}
use Rattle.tl1_text.specs.Cuts.{IsCodeTo}
use Rattle.tl1_text.proofs.leaps.code_by_breaks.Given as goal

abbrev pub invariant-loop-rest : goal.invariant-loop-rest
invariant-loop-rest l = record {
  code : IsCodeTo l.unit l.at l.at l.left;
  within : l.at ≤ 16;
  breaks : l.rest ≡ mask_of is_break (slice_range l.unit l.at 16);
}

abbrev pub decreases-loop-rest : goal.decreases-loop-rest
decreases-loop-rest l = length l.unit - l.at
