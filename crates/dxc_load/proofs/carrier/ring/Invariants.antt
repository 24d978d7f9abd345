use Rattle.std.proofs.Common.{◌≡◌, ◌<◌, ◌%◌, ℕ, length}
use Rattle.std.specs.Prelude.{slice_index}
use Rattle.dxc_load.proofs.carrier.ring.Given as goal

abbrev pub invariant-loop-place : goal.invariant-loop-place
invariant-loop-place l = record { ringed : (k : ℕ) → k < l.place → slice_index l.ring k ≡ k % 127; whole : length l.ring ≡ 318 }
