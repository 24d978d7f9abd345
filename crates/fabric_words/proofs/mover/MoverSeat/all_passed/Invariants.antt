use Rattle.std.proofs.Common.{ℕ, ◌<◌}
use Rattle.fabric_core.specs.Passing.{Passed}
use Rattle.fabric_core.specs.State.{looks_of}
use Rattle.fabric_words.proofs.mover.MoverSeat.all_passed.Given as goal

abbrev pub invariant-loop-worker : goal.invariant-loop-worker
invariant-loop-worker l = (w : ℕ) → w < l.worker → Passed (looks_of l.self.mover w)
