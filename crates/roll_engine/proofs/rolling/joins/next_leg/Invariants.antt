use Rattle.std.proofs.Common.{◌≡◌}
use Rattle.roll_engine.specs.Cold.{joins_behind}
use Rattle.roll_engine.proofs.rolling.joins.next_leg.Given as goal

abbrev pub invariant-loop-number : goal.invariant-loop-number
invariant-loop-number l = joins_behind l.matrix l.fn.from.0 ≡ joins_behind l.matrix l.number
