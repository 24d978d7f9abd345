use Rattle.core_laws.proofs.Mirrored.{crashes_stand}
use Rattle.core_laws.proofs.crashes_stand_for_operations.Goals as goal

pub returns : goal.returns
returns g c = crashes_stand g.D.Disk.told g.D.Disk.state g.met.D.Disk.is_disk
