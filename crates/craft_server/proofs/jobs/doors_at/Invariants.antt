use Rattle.std.proofs.Common.{◌≡◌, ◌≤◌, All, length}
use Rattle.dxc_outside.specs.Asked.{asked_each, listener_named}
use Rattle.craft_server.proofs.jobs.doors_at.Given as goal

abbrev pub invariant-loop : goal.invariant-loop
invariant-loop g l = record {
  each : length l.doors.items ≡ l.counter;
  listeners : All (λ door. g.O.Opener.listener_for door.listener l.fn.address) l.doors.items;
  later : (g.O.Opener.state l.fn.opener).faults ≤ (g.O.Opener.state l.opener).faults;
  asked : g.O.Opener.asked l.fn.opener l.opener (asked_each (λ session. listener_named l.fn.address) l.counter);
}
