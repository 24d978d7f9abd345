use Rattle.std.proofs.Common.{◌≡◌}
use Rattle.roll_engine.specs.Cold.{parts_behind}
use Rattle.roll_engine.proofs.rolling.parts.next_held.Given as goal

abbrev pub invariant-loop-number : goal.invariant-loop-number
invariant-loop-number l = record {
  same : l.mover ≡ l.fn.mover;
  parts : parts_behind l.fn.mover.mover.legs l.fn.from.0 ≡ parts_behind l.fn.mover.mover.legs l.number;
}
