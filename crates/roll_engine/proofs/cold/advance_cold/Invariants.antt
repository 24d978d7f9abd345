use Rattle.std.proofs.Common.{◌≡◌, Ok}
use Rattle.dxc_num.specs.Dimensions.{ports}
use Rattle.roll_engine.specs.Answers.{asked_at}
use Rattle.roll_engine.specs.Cold.{IsCold, left_of, outputs_left}
use Rattle.roll_engine.proofs.Leading.{IsOnWay}
use Rattle.roll_engine.proofs.cold.advance_cold.Given as goal

abbrev pub invariant-loop-rolling : goal.invariant-loop-rolling
invariant-loop-rolling g l = record {
  fabric : l.mover.fabric ≡ l.fn.mover.fabric;
  way : IsOnWay l.fn.mover.fabric.size l.matrix l.fn.rolling l.rolling l.fn.mover.mover l.mover.mover;
  kept : IsCold l.fn.rolling → IsCold l.rolling;
  unstopped : g.G.Gate.stops l.gate ≡ g.G.Gate.stops l.fn.gate;
  asked : g.G.Gate.asked l.fn.gate l.gate (asked_at (left_of l.matrix l.fn.mover.mover l.fn.rolling) (left_of l.matrix l.mover.mover l.rolling) (Ok tt));
}

abbrev pub decreases-loop-rolling : goal.decreases-loop-rolling
decreases-loop-rolling g l = outputs_left (ports l.matrix.shape) l.rolling.behind
