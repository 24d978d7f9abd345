use Rattle.standby_link.proofs.MirroredSteps.{calls_keep}
use Rattle.standby_link.proofs.laws.disks_read_along.Goals as goal

pub returns : goal.returns
returns g c = calls_keep g.D.Disk.told g.K.Link.told g.D.Disk.state g.K.Link.state g.met.D.Disk.is_disk
