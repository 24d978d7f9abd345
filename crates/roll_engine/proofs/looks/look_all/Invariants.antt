use Rattle.std.proofs.Common.{◌≡◌, ℕ, List, length}
use Rattle.roll_engine.specs.Writes.{Looks}
use Rattle.roll_engine.proofs.Looking.{HavePassed}
use Rattle.roll_engine.proofs.looks.look_all.Given as goal

abbrev pub invariant-loop-worker : goal.invariant-loop-worker
invariant-loop-worker l = record {
  own : l.mover.fabric ≡ l.fabric;
  looks : (fs : List (ℕ × ℕ)) × Looks l.fabric.size fs l.fn.mover.mover l.mover.mover;
  full : length l.mover.mover.looks ≡ l.fabric.size.workers;
  passed : HavePassed l.worker l.mover.mover;
}
