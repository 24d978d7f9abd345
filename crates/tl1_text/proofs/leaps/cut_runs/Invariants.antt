use Rattle.std.proofs.Common.{◌≡◌, ◌-◌, length, slice_range}
use Rattle.tl1_text.specs.Stops.{is_stop, mask_of}
use Rattle.tl1_text.specs.Cuts.{IsCutOn}
use Rattle.tl1_text.proofs.leaps.cut_runs.Given as goal

abbrev pub invariant-loop-rest : goal.invariant-loop-rest
invariant-loop-rest l = record {
  on : IsCutOn l.unit l.code l.at l.found.items l.start l.params;
  stops : l.rest ≡ mask_of is_stop (slice_range l.unit l.at (length l.unit));
}

abbrev pub decreases-loop-rest : goal.decreases-loop-rest
decreases-loop-rest l = length l.unit - l.at
