use Rattle.std.proofs.Common.{[], ◌∷◌, ◌++◌, refl, sym, subst}
use Rattle.dxc_model.specs.declared.entry.Outcome.TheVariants.{Cut}
use Rattle.dxc_model.specs.declared.op.Op.TheVariants.{Restart}
use Rattle.xc_core.specs.declared.state.State.{State}
use Rattle.xc_core.specs.Seeing.{entry}
use Rattle.xc_core.specs.States.{StandsFor}
use Rattle.xc_core.proofs.Homing.{stands_unread}
use Rattle.xc_core.proofs.Restarting.{stands_restart_cut}
use Rattle.xc_core.proofs.resuming.cut.Goals as goal

pub returns-clause-cut : goal.returns-clause-cut
returns-clause-cut g c = λ o own h asked r st t.
    subst (λ (x : State g.row.D.Denot). StandsFor g.D.Disk.told g.D.Disk.state o x (h ++ entry own Restart Cut ∷ [])) (sym c.bring_home.ensures)
    (stands_restart_cut g.D.Disk.told g.D.Disk.state o c.args.state.now h st own asked c.args.driver.value.p r t (g.met.D.Disk.counts_on c.args.driver.value.p.journal.0) c.args.driver refl)

pub returns-clause-unread : goal.returns-clause-unread
returns-clause-unread g c = λ o own h asked st t.
    subst (λ (x : State g.row.D.Denot). StandsFor g.D.Disk.told g.D.Disk.state o x (h ++ entry own Restart Cut ∷ [])) (sym c.bring_home.ensures)
    (stands_unread g.D.Disk.told g.D.Disk.state o c.args.state.now h st own asked c.args.driver.value.p t (g.met.D.Disk.counts_on c.args.driver.value.p.journal.0) c.args.driver refl)
