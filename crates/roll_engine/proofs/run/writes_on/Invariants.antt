use Rattle.std.proofs.Common.{◌≡◌, ◌-◌, Ok}
use Rattle.roll_engine.specs.Rollings.{at_step}
use Rattle.roll_engine.specs.Walks.{Walks}
use Rattle.roll_engine.proofs.run.writes_on.Given as goal

abbrev pub invariant-loop-next : goal.invariant-loop-next
invariant-loop-next g l = record {
  own : l.mover.fabric ≡ l.fabric;
  walks : Walks g.G.Gate.stops g.G.Gate.asked l.fabric.size (at_step l.fn.made l.rolling) (at_step l.made l.rolling) l.fn.mover.mover l.mover.mover l.fn.gate l.gate (Ok tt);
}

abbrev pub decreases-loop-next : goal.decreases-loop-next
decreases-loop-next g l = 946 - l.made
