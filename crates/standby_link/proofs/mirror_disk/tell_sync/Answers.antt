use Rattle.std.proofs.Common.{refl, rules}
use Rattle.standby_link.specs.Joinings.{over}
use Rattle.standby_link.proofs.JoinSteps.{goes_on, waits_on}
use Rattle.standby_link.proofs.mirror_disk.tell_sync.Goals as goal

pub returns-in-None : goal.returns-in-None
returns-in-None g c = record { told = goes_on (over g.D.Disk g.K.Link) c.args.disk.now c.args.line.now c.sync.new.self c.in-None.is (λ few. c.sync.ensures.syncs c.in-None.is few) c.sync.ensures.hung_up }

pub returns-else-is_whole : goal.returns-else-is_whole
returns-else-is_whole g c = record { told = waits_on (over g.D.Disk g.K.Link) c.args.disk.now c.args.line.now (search rules) (c.if-is_whole.ensures.part refl) }
