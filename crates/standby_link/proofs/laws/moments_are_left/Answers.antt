use Rattle.standby_link.proofs.CallSteps.{calls_of_runs, moments_left}
use Rattle.standby_link.proofs.laws.moments_are_left.Goals as goal

pub returns-clause-calls : goal.returns-clause-calls
returns-clause-calls g c = calls_of_runs g.D.Disk.told g.D.Disk.state

pub returns-clause-left : goal.returns-clause-left
returns-clause-left g c = moments_left g.D.Disk.told g.D.Disk.state g.met.D.Disk.is_disk
