use Rattle.std.proofs.Common.{◌≡◌, ◌*◌, Ok}
use Rattle.roll_engine.specs.Rollings.{at_step}
use Rattle.roll_engine.specs.Walks.{Walks}
use Rattle.roll_engine.proofs.run.moves_on.Given as goal

abbrev pub invariant-loop-step : goal.invariant-loop-step
invariant-loop-step g l = record {
  own : l.mover.fabric ≡ l.fabric;
  made : l.made ≡ 5 * l.step-index;
  walks : Walks g.G.Gate.stops g.G.Gate.asked l.fabric.size (at_step l.fn.made l.rolling) (at_step l.made l.rolling) l.fn.mover.mover l.mover.mover l.fn.gate l.gate (Ok tt);
}
