use Rattle.standby_link.proofs.MirroredSteps.{copies_read}
use Rattle.user_laws.proofs.Mirrored.{copies_stand, readings_stand}
use Rattle.user_laws.proofs.standbys_stand_for_users.Goals as goal

pub returns-clause-stands : goal.returns-clause-stands
returns-clause-stands g c = readings_stand g.D.Disk.told g.D.Disk.state g.met.D.Disk.is_disk

pub returns-clause-copies : goal.returns-clause-copies
returns-clause-copies g c = copies_stand g.D.Disk.told g.D.Disk.state g.met.D.Disk.is_disk (copies_read g.D.Disk.state)
