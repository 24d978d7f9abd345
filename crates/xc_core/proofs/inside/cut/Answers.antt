use Rattle.std.proofs.Common.{true, [], ◌∷◌, ◌++◌, sym, ◌∙◌, ap, subst}
use Rattle.std.specs.Box.{with_value}
use Rattle.dxc_model.specs.declared.entry.Outcome.TheVariants.{Cut}
use Rattle.xc_core.specs.declared.provisioner.Driver.{Driver}
use Rattle.xc_core.specs.declared.state.State.{State}
use Rattle.xc_core.specs.Provisioners.{Boxed, with_halt}
use Rattle.xc_core.specs.Seeing.{entry}
use Rattle.xc_core.specs.States.{StandsFor}
use Rattle.xc_core.proofs.Away.{stands_cut}
use Rattle.xc_core.proofs.Homing.{stands_unnoted}
use Rattle.xc_core.proofs.inside.cut.Goals as goal

pub returns-clause-cut : goal.returns-clause-cut
returns-clause-cut g c = λ o own h op r st t.
    let s = c.args.state.now in
    let p = c.args.driver.value.p in
    let left : Boxed g.row.D.Denot = with_value c.args.driver (record { p = c.halt.new.p; rolling = c.deref_mut.result.now.rolling }) in
    subst (λ (x : State g.row.D.Denot). StandsFor g.D.Disk.told g.D.Disk.state o x (h ++ entry own op Cut ∷ [])) (sym c.bring_home.ensures)
    (stands_cut g.D.Disk.told g.D.Disk.state o s h st own op p r t (g.met.D.Disk.counts_on p.journal.0) left (c.halt.ensures ∙ ap (λ (x : Driver g.row.D.Denot). with_halt true x.p) c.deref_mut.ensures.value))

pub returns-clause-unnoted : goal.returns-clause-unnoted
returns-clause-unnoted g c = λ o own h plan st t.
    let s = c.args.state.now in
    let p = c.args.driver.value.p in
    let left : Boxed g.row.D.Denot = with_value c.args.driver (record { p = c.halt.new.p; rolling = c.deref_mut.result.now.rolling }) in
    subst (λ (x : State g.row.D.Denot). StandsFor g.D.Disk.told g.D.Disk.state o x (h ++ entry own plan.op Cut ∷ [])) (sym c.bring_home.ensures)
    (stands_unnoted g.D.Disk.told g.D.Disk.state o s h st own p plan t (g.met.D.Disk.counts_on p.journal.0) left (c.halt.ensures ∙ ap (λ (x : Driver g.row.D.Denot). with_halt true x.p) c.deref_mut.ensures.value))
