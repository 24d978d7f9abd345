use Rattle.user_admin.proofs.Sharing.{fits_brought, shared_brought}
use Rattle.user_admin.proofs.shared.SharedUsers.bring.Goals as goal

pub take_done-requires : goal.take_done-requires
take_done-requires g c = λ x is. let w = c.requires.may in fits_brought g.D.Disk.told g.D.Disk.state (λ d told. g.met.D.Disk.is_disk d told) (λ d. g.met.D.Disk.counts_on d) w.0 w.1 (record { marker = record {}; value = w.2 }) w.3 c.args.self.now c.args.keeper c.args.outcome.now w.4 w.5 x is

pub returns-clause-brought : goal.returns-clause-brought
returns-clause-brought g c = λ o own op ms st t. shared_brought g.D.Disk.told g.D.Disk.state (λ d told. g.met.D.Disk.is_disk d told) (λ d. g.met.D.Disk.counts_on d) o own op ms c.args.self.now c.args.keeper c.args.outcome.now st t _ c.take_done.ensures
