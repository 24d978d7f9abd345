use Rattle.std.proofs.Common.{◌≡◌, ◌<◌, length}
use Rattle.paull_chain.proofs.walk.short_chain.Given as goal
use Rattle.paull_chain.proofs.Going.{LeadsTo}
use Rattle.paull_matrix.specs.Colourings.{module_on}

abbrev pub invariant-loop-done : goal.invariant-loop-done
invariant-loop-done l = record {
  legs : LeadsTo l.fn.matrix l.fn.a.0 l.fn.b.0 l.fn.side (module_on l.fn.matrix.shape l.fn.side l.fn.leg) l.legs.items l.turn l.«module»;
  size : length l.legs.items ≡ l.done;
  low : l.«module» < l.fn.matrix.shape.modules;
}
