use Rattle.std.proofs.Common.{Some, [], refl, sym, ap, ◌∙◌, subst}
use Rattle.user_admin.specs.declared.state.Lists.{Lists}
use Rattle.user_admin.specs.declared.state.UserState.{UserState}
use Rattle.user_admin.specs.Shared.{SharedFor}
use Rattle.user_admin.specs.States.{opening_of}
use Rattle.user_admin.proofs.Sharing.{shared_first}
use Rattle.user_admin.proofs.shared.SharedUsers.of.Goals as goal

pub returns-in-Ok-clause-stands : goal.returns-in-Ok-clause-stands
returns-in-Ok-clause-stands g c = subst (λ (x : UserState g.row.D.Denot). SharedFor g.D.Disk.told g.D.Disk.state (opening_of g.D.Disk.state x) (record { sid = c.copy_of-sid.result; list = c.in_ok-list.list; keeper = Some c.in-Ok.keeper; occupants = c.nobody_yet.result; first = c.of-first.result }) []) (sym c.of-first.ensures)
    (shared_first g.D.Disk.told g.D.Disk.state (opening_of g.D.Disk.state c.args.state) c.args.state _ c.in-Ok.keeper c.requires.stands (c.in_ok-list.ensures ∙ ap (λ (l : Lists). l.users) c.deref.ensures) c.copy_of-sid.ensures refl c.in-Ok.ensures.ok c.nobody_yet.ensures)
