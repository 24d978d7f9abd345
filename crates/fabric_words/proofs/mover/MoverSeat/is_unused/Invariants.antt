use Rattle.std.proofs.Common.{◌≡◌, ◌≢◌, ◌<◌, Some}
use Rattle.dxc_num.specs.declared.port.Port.{Port}
use Rattle.dxc_num.specs.declared.port.Route.{Route}
use Rattle.fabric_core.specs.State.{leg_at}
use Rattle.fabric_words.proofs.mover.MoverSeat.is_unused.Given as goal

abbrev pub invariant-loop-output : goal.invariant-loop-output
invariant-loop-output l = record {
  same : l.self ≡ l.initial.self;
  unused : (y : Port) (w : Route) → y.0 < l.output → leg_at l.initial.self.mover y ≡ Some w → w.input ≢ l.input;
}
