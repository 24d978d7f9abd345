use Rattle.standby_link.proofs.CallSteps.{calls_moments, runs_moments}
use Rattle.standby_link.proofs.laws.calls_are_moments.Goals as goal

pub returns-clause-calls : goal.returns-clause-calls
returns-clause-calls g c = calls_moments g.D.Disk.told g.K.Link.told g.D.Disk.state g.K.Link.state

pub returns-clause-runs : goal.returns-clause-runs
returns-clause-runs g c = runs_moments g.D.Disk.state
