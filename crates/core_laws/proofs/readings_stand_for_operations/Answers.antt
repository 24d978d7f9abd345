use Rattle.core_laws.proofs.Mirrored.{readings_stand}
use Rattle.core_laws.proofs.readings_stand_for_operations.Goals as goal

pub returns : goal.returns
returns g c = readings_stand g.D.Disk.told g.D.Disk.state g.met.D.Disk.is_disk
