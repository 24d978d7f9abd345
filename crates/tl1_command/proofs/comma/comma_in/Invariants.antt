use Rattle.std.proofs.Common.{◌≡◌, ◌==◌, ℕ, ◌<◌, ◌≤◌, false, slice_index}
use Rattle.tl1_command.proofs.comma.comma_in.Given as goal

abbrev pub invariant-loop-at : goal.invariant-loop-at
invariant-loop-at l = record {
  low : l.from ≤ l.at;
  high : l.at ≤ l.to;
  front : (k : ℕ) → l.from ≤ k → k < l.at → (slice_index l.text k == 44) ≡ false;
}
