use Rattle.std.proofs.Common.{subst}
use Rattle.dxc_jobs.specs.Standbys.{ServesOrPasses, nobody}
use Rattle.dxc_jobs.proofs.StandingBy.{nobody_came, none_accepted, passed_one, served_one}
use Rattle.dxc_jobs.proofs.standby.primary_of.Goals as goal

pub loop-init : goal.loop-init
loop-init g c = nobody

pub loop-preserved : goal.loop-preserved
loop-preserved g c = passed_one g.D.Disk.told g.L.Listener.told g.L.Link.Link.told g.D.Disk.state g.L.Listener.state g.L.Link.Link.state g.L.Link.Link.begun g.L.Link.Link.hung_up c.args.disk.now c.args.listener.now c.loop.disk c.loop.listener c.first_link.new.listener c.loop.invariant c.first_link.result c.in-Link.link c.serve_caller.new.link c.serve_caller.new.disk c.in-Link.is c.first_link.ensures (subst (ServesOrPasses g.D.Disk.told g.L.Link.Link.told g.D.Disk.state g.L.Link.Link.state g.L.Link.Link.begun g.L.Link.Link.hung_up c.in-Link.link c.serve_caller.new.link c.loop.disk c.serve_caller.new.disk) c.in-None-serve_caller.is c.serve_caller.ensures)

pub returns-in-Some-serve_caller : goal.returns-in-Some-serve_caller
returns-in-Some-serve_caller g c = served_one g.D.Disk.told g.L.Listener.told g.L.Link.Link.told g.D.Disk.state g.L.Listener.state g.L.Link.Link.state g.L.Link.Link.begun g.L.Link.Link.hung_up c.args.disk.now c.args.listener.now c.loop.disk c.loop.listener c.first_link.new.listener c.loop.invariant c.first_link.result c.in-Link.link c.serve_caller.new.link c.serve_caller.new.disk c.in-Some-serve_caller.end c.in-Link.is c.first_link.ensures (subst (ServesOrPasses g.D.Disk.told g.L.Link.Link.told g.D.Disk.state g.L.Link.Link.state g.L.Link.Link.begun g.L.Link.Link.hung_up c.in-Link.link c.serve_caller.new.link c.loop.disk c.serve_caller.new.disk) c.in-Some-serve_caller.is c.serve_caller.ensures)

pub returns-in-End : goal.returns-in-End
returns-in-End g c = nobody_came g.D.Disk.told g.L.Listener.told g.L.Link.Link.told g.D.Disk.state g.L.Listener.state g.L.Link.Link.state g.L.Link.Link.begun g.L.Link.Link.hung_up c.args.disk.now c.args.listener.now c.loop.disk c.loop.listener c.first_link.new.listener c.loop.invariant c.first_link.result c.in-End.is c.first_link.ensures

pub returns-in-Failed : goal.returns-in-Failed
returns-in-Failed g c = none_accepted g.D.Disk.told g.L.Listener.told g.L.Link.Link.told g.D.Disk.state g.L.Listener.state g.L.Link.Link.state g.L.Link.Link.begun g.L.Link.Link.hung_up c.args.disk.now c.args.listener.now c.loop.disk c.loop.listener c.first_link.new.listener c.loop.invariant c.first_link.result c.in-Failed.is c.first_link.ensures
