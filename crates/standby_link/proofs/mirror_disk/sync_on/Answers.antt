use Rattle.standby_link.specs.Joinings.{over}
use Rattle.standby_link.proofs.JoinSteps.{syncs_made}
use Rattle.standby_link.proofs.mirror_disk.sync_on.Goals as goal

pub returns-in-Ok-clause-syncs : goal.returns-in-Ok-clause-syncs
returns-in-Ok-clause-syncs g c = syncs_made (over g.D.Disk g.K.Link) c.args.disk.now c.sync.new.self c.args.line.now c.tell_sync.new.line tt c.sync.ensures.sync.looks c.tell_sync.ensures.told
