use Rattle.standby_link.proofs.MirroredSteps.{copies_read, current_whole, joined_current}
use Rattle.standby_link.proofs.laws.copies_are_readings.Goals as goal

pub returns-clause-copies : goal.returns-clause-copies
returns-clause-copies g c = copies_read g.D.Disk.state

pub returns-clause-joined : goal.returns-clause-joined
returns-clause-joined g c = joined_current g.D.Disk.told g.D.Disk.state

pub returns-clause-current : goal.returns-clause-current
returns-clause-current g c = current_whole g.D.Disk.state
