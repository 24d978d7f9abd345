use Rattle.std.proofs.Common.{◌≡◌, ◌≢◌, ◌<◌, Some}
use Rattle.dxc_num.specs.declared.port.Port.{Port}
use Rattle.dxc_num.specs.declared.port.Route.{Route}
use Rattle.fabric_core.specs.State.{leg_at}
use Rattle.fabric_core.proofs.mover.Mover.is_unused.Given as goal

abbrev pub invariant-loop-output : goal.invariant-loop-output
invariant-loop-output l = (y : Port) (w : Route) → y.0 < l.output → leg_at l.self y ≡ Some w → w.input ≢ l.input
