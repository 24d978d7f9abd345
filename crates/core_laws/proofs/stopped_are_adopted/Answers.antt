use Rattle.core_laws.proofs.Succeeding.{stopped_adopted}
use Rattle.core_laws.proofs.stopped_are_adopted.Goals as goal

pub returns : goal.returns
returns g c = stopped_adopted g.D.Disk.told g.D.Disk.state
