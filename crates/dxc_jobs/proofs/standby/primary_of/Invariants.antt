use Rattle.dxc_jobs.specs.Standbys.{Passed}
use Rattle.dxc_jobs.proofs.standby.primary_of.Given as goal

-- each caller so far was passed over
abbrev pub invariant-loop : goal.invariant-loop
invariant-loop g l = Passed g.D.Disk.told g.L.Listener.told g.L.Link.Link.told g.D.Disk.state g.L.Listener.state g.L.Link.Link.state g.L.Link.Link.begun g.L.Link.Link.hung_up l.fn.disk l.fn.listener l.disk l.listener
