use Rattle.roll_engine.proofs.Outputs.{IsNotBelow}
use Rattle.roll_engine.proofs.rolling.joins.route_to.Given as goal

abbrev pub invariant-loop-number : goal.invariant-loop-number
invariant-loop-number l = IsNotBelow l.matrix l.output l.number
