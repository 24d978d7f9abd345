use Rattle.std.proofs.Common.{[], ◌∷◌, ◌++◌, refl, sym, subst}
use Rattle.dxc_model.specs.declared.entry.Outcome.TheVariants.{Failed}
use Rattle.xc_core.specs.declared.state.State.{State}
use Rattle.xc_core.specs.Seeing.{entry}
use Rattle.xc_core.specs.States.{StandsFor}
use Rattle.xc_core.proofs.Homing.{stands_fault}
use Rattle.xc_core.proofs.inside.fail.Goals as goal

pub returns-clause-failed : goal.returns-clause-failed
returns-clause-failed g c = λ o own h taken op cause st t.
    subst (λ (x : State g.row.D.Denot). StandsFor g.D.Disk.told g.D.Disk.state o x (h ++ entry own op (Failed cause) ∷ [])) (sym c.bring_home.ensures)
    (stands_fault g.D.Disk.told g.D.Disk.state o c.args.state.now h st own taken op cause c.args.driver.value.p t (g.met.D.Disk.counts_on c.args.driver.value.p.journal.0) c.args.driver refl)
