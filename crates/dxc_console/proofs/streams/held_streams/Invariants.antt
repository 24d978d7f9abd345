use Rattle.std.proofs.Common.{◌≡◌, length}
use Rattle.dxc_console.proofs.streams.held_streams.Given as goal

abbrev pub invariant-loop : goal.invariant-loop
invariant-loop g l = record { each : length l.streams.items ≡ l.counter }
