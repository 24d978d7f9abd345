use Rattle.dxc_disk.proofs.PersistSteps.{persisted, persisted_torn}
use Rattle.dxc_disk.proofs.persist.write_and_sync.Goals as goal

pub returns-clause-persists : goal.returns-clause-persists
returns-clause-persists g c told = persisted (g.D.Disk.state c.args.disk.now) (g.D.Disk.state c.write_at.new.self) (g.D.Disk.state c.sync.new.self) c.write_at.result c.sync.result c.args.at c.args.from.now c.in_ok-write_at.field-0
    (c.requires.within told) (c.write_at.ensures.writes told) c.in_ok-write_at.was (c.sync.ensures.looks told) (c.sync.ensures.settled told) (c.sync.ensures.synced told) (c.sync.ensures.reads told)

pub returns-clause-reads : goal.returns-clause-reads
returns-clause-reads g c told = persisted_torn (g.D.Disk.state c.args.disk.now) (g.D.Disk.state c.write_at.new.self) (g.D.Disk.state c.sync.new.self) c.write_at.result c.sync.result c.args.at c.args.from.now c.in_ok-write_at.field-0
    (c.requires.within told) (c.write_at.ensures.writes told) c.in_ok-write_at.was (c.sync.ensures.looks told)
