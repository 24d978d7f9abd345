use Rattle.std.proofs.Common.{◌≡◌, ◌<◌, ◌-◌, length, take}
use Rattle.tl1_text.specs.Stops.{is_stop, mask_of}
use Rattle.tl1_text.proofs.stops.stops.Given as goal

abbrev pub invariant-loop-at : goal.invariant-loop-at
invariant-loop-at l = record {
  within : l.at < length l.unit;
  mask : l.mask ≡ mask_of is_stop (take l.at l.unit);
}

abbrev pub decreases-loop-at : goal.decreases-loop-at
decreases-loop-at l = length l.unit - l.at
