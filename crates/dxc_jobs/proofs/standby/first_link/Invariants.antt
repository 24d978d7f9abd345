use Rattle.std.proofs.Common.{◌≡◌}
use Rattle.std.specs.Prelude.{IsTrue}
use Rattle.dxc_jobs.specs.Counts.{RoseBy}
use Rattle.dxc_jobs.proofs.standby.first_link.Given as goal

-- each accept so far failed
abbrev pub invariant-loop : goal.invariant-loop
invariant-loop g l =
    let state = g.L.Listener.state in
    record {
      coming : g.L.Listener.told → (state l.fn.listener).coming ≡ (state l.listener).coming;
      risen : RoseBy l.counter (state l.fn.listener).faults (state l.listener).faults;
      sound : IsTrue (state l.fn.listener).sound → (l.counter ≡ 0) × IsTrue (state l.listener).sound;
    }
