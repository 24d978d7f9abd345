use Rattle.std.proofs.Common.{[], ◌∷◌, ◌++◌, Option, sym, ◌∙◌, ap, subst, inl}
use Rattle.dxc_model.specs.declared.op.Change.{Change}
use Rattle.dxc_model.specs.declared.entry.Outcome.TheVariants.{Restarted}
use Rattle.dxc_model.specs.declared.op.Op.TheVariants.{Restart}
use Rattle.std.specs.Box.{with_value}
use Rattle.roll_engine.specs.Rollings.{rest_of}
use Rattle.xc_core.specs.declared.provisioner.Driver.{Driver}
use Rattle.xc_core.specs.Provisioners.{Boxed}
use Rattle.xc_core.specs.Restarts.{Resumes}
use Rattle.xc_core.specs.declared.state.Home.TheVariants.{In}
use Rattle.xc_core.specs.declared.state.State.{State}
use Rattle.xc_core.specs.Seeing.{HasRestart, IsOfStop, entry}
use Rattle.xc_core.specs.States.{StandsFor}
use Rattle.xc_core.proofs.Away.{same_number, same_table}
use Rattle.xc_core.proofs.Halting.{alone_left}
use Rattle.xc_core.proofs.Restarting.{stands_restarted}
use Rattle.xc_core.proofs.resuming.end.Goals as goal

pub end_recovery-lacking-requires-clause-recovers : goal.end_recovery-lacking-requires-clause-recovers
end_recovery-lacking-requires-clause-recovers g c =
    let w = c.requires.restart in
    let resumes = subst (λ (x : Driver g.row.D.Denot). Resumes g.D.Disk.told g.D.Disk.state w.6.out.now w.6.lacking w.6.behind x.p x.rolling) (sym c.deref_mut-held.ensures.value) w.6.resumes in
    (w.6.out.now, w.6.lacking, w.6.behind, inl resumes, same_table g.D.Disk.told g.D.Disk.state w.0 c.args.state.now w.2 w.5 w.1 Restart c.args.driver.value.p w.6.out)

pub end_recovery-lacking-requires-clause-counted : goal.end_recovery-lacking-requires-clause-counted
end_recovery-lacking-requires-clause-counted g c =
    let w = c.requires.restart in
    same_number g.D.Disk.told g.D.Disk.state w.0 c.args.state.now w.2 w.5 w.1 Restart c.args.driver.value.p w.6.out w.6.resumes.past.changes w.4 ∙ sym (ap (λ (x : Driver g.row.D.Denot). x.p.changes) c.deref_mut-held.ensures.value)

pub end_recovery-lacking-requires-clause-done : goal.end_recovery-lacking-requires-clause-done
end_recovery-lacking-requires-clause-done g c =
    let w = c.requires.restart in
    let v : Driver g.row.D.Denot = c.deref_mut-held.result.now in
    let resumes = subst (λ (x : Driver g.row.D.Denot). Resumes g.D.Disk.told g.D.Disk.state w.6.out.now w.6.lacking w.6.behind x.p x.rolling) (sym c.deref_mut-held.ensures.value) w.6.resumes in
    alone_left g.D.Disk.told g.D.Disk.state w.6.out.now v.p.replayed.matrix v.p.mover.mover v.rolling resumes.on_way.alone ∙ (ap (λ (x : Driver g.row.D.Denot). rest_of x.rolling) c.deref_mut-held.ensures.value ∙ c.requires.done)

pub returns-clause-restarted : goal.returns-clause-restarted
returns-clause-restarted g c = λ o own h asked st taken.
    let s = c.args.state.now in
    let v : Driver g.row.D.Denot = c.deref_mut-held.result.now in
    let t = subst (λ (x : Driver g.row.D.Denot). HasRestart g.D.Disk.told g.D.Disk.state o own asked h x.p x.rolling) (sym c.deref_mut-held.ensures.value) taken in
    let left : Boxed g.row.D.Denot = with_value c.args.driver (record { p = c.end_recovery-lacking.new.p; rolling = v.rolling }) in
    let final = c.bring_home.ensures ∙ ap (λ (x : State g.row.D.Denot). record x { home = In left }) c.end_recovery-lacking.ensures.state in
    let same = same_table g.D.Disk.told g.D.Disk.state o s h st own Restart v.p t.out in
    subst (λ (x : State g.row.D.Denot). StandsFor g.D.Disk.told g.D.Disk.state o x (h ++ entry own Restart (Restarted c.end_recovery-lacking.result) ∷ [])) (sym final)
    (stands_restarted g.D.Disk.told g.D.Disk.state o s h st own asked v.p v.rolling t left c.end_recovery-lacking.new.state.table c.end_recovery-lacking.result (c.end_recovery-lacking.ensures.ends t.out.now t.lacking t.behind t.resumes same) c.end_recovery-lacking.ensures.ground c.end_recovery-lacking.ensures.journal (g.met.D.Disk.counts_on c.end_recovery-lacking.new.p.journal.0))

pub returns-clause-of_stop : goal.returns-clause-of_stop
returns-clause-of_stop g c = λ o own h asked st taken.
    let v : Driver g.row.D.Denot = c.deref_mut-held.result.now in
    let t = subst (λ (x : Driver g.row.D.Denot). HasRestart g.D.Disk.told g.D.Disk.state o own asked h x.p x.rolling) (sym c.deref_mut-held.ensures.value) taken in
    let same = same_table g.D.Disk.told g.D.Disk.state o c.args.state.now h st own Restart v.p t.out in
    subst (λ (x : Option Change). IsOfStop x h) (sym (c.end_recovery-lacking.ensures.ends t.out.now t.lacking t.behind t.resumes same).change) t.of_stop
