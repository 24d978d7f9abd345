use Rattle.core_laws.proofs.Succeeding.{standby_adopted, synced_mirrored}
use Rattle.core_laws.proofs.standbys_are_adopted.Goals as goal

pub returns-clause-synced : goal.returns-clause-synced
returns-clause-synced g c = λ t b p. synced_mirrored g.D.Disk.told g.D.Disk.state t b p (g.met.D.Disk.is_disk p.journal.0 t)

pub returns-clause-adopted : goal.returns-clause-adopted
returns-clause-adopted g c = standby_adopted g.D.Disk.told g.D.Disk.state
