use Rattle.std.proofs.Common.{[], ◌∷◌, ◌++◌, sym, ◌∙◌, ap, subst}
use Rattle.std.specs.Box.{with_value}
use Rattle.xc_core.specs.declared.provisioner.Driver.{Driver}
use Rattle.xc_core.specs.Provisioners.{Boxed, Rolls}
use Rattle.dxc_model.specs.declared.entry.Outcome.TheVariants.{Done}
use Rattle.xc_core.specs.declared.state.Home.TheVariants.{In}
use Rattle.xc_core.specs.declared.state.State.{State}
use Rattle.xc_core.specs.Seeing.{HasTaken, entry}
use Rattle.xc_core.specs.States.{StandsFor}
use Rattle.xc_core.proofs.Away.{same_number, same_table, stands_done}
use Rattle.xc_core.proofs.inside.bring.Goals as goal

pub finish-change-requires-clause-rolls : goal.finish-change-requires-clause-rolls
finish-change-requires-clause-rolls g c =
    let w = c.requires.taken in
    (w.6.out.now, w.3, w.6.change, subst (λ (x : Driver g.row.D.Denot). Rolls g.D.Disk.told g.D.Disk.state w.6.out.now w.3 w.6.change x.p x.rolling) (sym c.deref_mut-held.ensures.value) w.6.rolls, same_table g.D.Disk.told g.D.Disk.state w.0 c.args.state.now w.2 w.5 w.1 w.3 c.args.driver.value.p w.6.out)

pub finish-change-requires-clause-counted : goal.finish-change-requires-clause-counted
finish-change-requires-clause-counted g c = let w = c.requires.taken in same_number g.D.Disk.told g.D.Disk.state w.0 c.args.state.now w.2 w.5 w.1 w.3 c.args.driver.value.p w.6.out w.6.rolls.past.changes w.4 ∙ sym (ap (λ (x : Driver g.row.D.Denot). x.p.changes) c.deref_mut-held.ensures.value)

pub returns-clause-done : goal.returns-clause-done
returns-clause-done g c = λ o own h op st taken.
    let s = c.args.state.now in
    let v : Driver g.row.D.Denot = c.deref_mut-held.result.now in
    let t = subst (λ (x : Driver g.row.D.Denot). HasTaken g.D.Disk.told g.D.Disk.state o own op h x.p x.rolling) (sym c.deref_mut-held.ensures.value) taken in
    let left : Boxed g.row.D.Denot = with_value c.args.driver (record { p = c.finish-change.new.p; rolling = v.rolling }) in
    let final = c.bring_home.ensures ∙ ap (λ (x : State g.row.D.Denot). record x { home = In left }) c.finish-change.ensures.state in
    let same = same_table g.D.Disk.told g.D.Disk.state o s h st own op v.p t.out in
    subst (λ (x : State g.row.D.Denot). StandsFor g.D.Disk.told g.D.Disk.state o x (h ++ entry own op (Done c.finish-change.result) ∷ [])) (sym final)
    (stands_done g.D.Disk.told g.D.Disk.state o s h st own op v.p v.rolling t left c.finish-change.new.state.table c.finish-change.result (c.finish-change.ensures.finishes t.out.now op t.change t.rolls same) c.finish-change.ensures.ground c.finish-change.ensures.journal (g.met.D.Disk.counts_on c.finish-change.new.p.journal.0))
