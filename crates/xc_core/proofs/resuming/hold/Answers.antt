use Rattle.std.proofs.Common.{◌≡◌, Some, true, false, refl, sym, ◌∙◌, ap, subst, inl}
use Rattle.std.specs.Box.{with_value}
use Rattle.xc_core.specs.declared.provisioner.Driver.{Driver}
use Rattle.xc_core.specs.declared.restarts.Held.TheVariants as held
use Rattle.xc_core.specs.declared.state.Home.{Home}
use Rattle.xc_core.specs.declared.state.Home.TheVariants.{In}
use Rattle.xc_core.specs.declared.state.State.{State}
use Rattle.xc_core.specs.Provisioners.{Boxed}
use Rattle.xc_core.specs.States.{with_home}
use Rattle.xc_core.specs.Turns.{HeldIs, journal_home}
use Rattle.xc_core.proofs.Copying.{copy_fits}
use Rattle.xc_core.proofs.Restored.{keeps_found, was_ready, was_taken}
use Rattle.xc_core.proofs.Within.{held_home, lent}
use Rattle.xc_core.proofs.resuming.hold.Goals as goal

pub copy_from-requires : goal.copy_from-requires
copy_from-requires g c =
    let w = c.requires.stands in
    let s = c.args.state.now in
    let driver = c.in-Some.driver in
    let v : Driver g.row.D.Denot = c.deref_mut-held.result.now in
    let is = held_home g.D.Disk.told g.D.Disk.state g.met.D.Disk.counts_on w.0 s w.1 w.2 driver v c.deref_mut-held.ensures.value c.in-Some.ensures.found in
    copy_fits w.2.now v.p (keeps_found g.D.Disk.told g.D.Disk.state g.met.D.Disk.counts_on w.0 s w.1 w.2 (with_value driver v) is) c.take_out.new.self.table (ap (λ (x : State g.row.D.Denot). x.table) c.in-Some.ensures.state ∙ w.2.table)

pub returns-in_default-clause-held : goal.returns-in_default-clause-held
returns-in_default-clause-held g c = λ o own h st.
    let x = lent g.D.Disk.told g.D.Disk.state g.met.D.Disk.counts_on o c.args.state.now h st c.in_default.ensures.none in
    subst (λ (y : State g.row.D.Denot). HeldIs g.D.Disk.told g.D.Disk.state o own h c.args.asked.now y held.Waits) (sym c.in_default.ensures.same) (x.0, inl x.1)

pub returns-then-not-goes_for-clause-held : goal.returns-then-not-goes_for-clause-held
returns-then-not-goes_for-clause-held g c = λ o own h st.
    let s = c.args.state.now in
    let driver = c.in-Some.driver in
    let v : Driver g.row.D.Denot = c.deref_mut-held.result.now in
    let was : Boxed g.row.D.Denot = with_value driver v in
    let is = held_home g.D.Disk.told g.D.Disk.state g.met.D.Disk.counts_on o s h st driver v c.deref_mut-held.ensures.value c.in-Some.ensures.found in
    let final = c.bring_home.ensures ∙ ap (λ (x : State g.row.D.Denot). with_home (In was) x) c.in-Some.ensures.state in
    subst (λ (x : State g.row.D.Denot). HeldIs g.D.Disk.told g.D.Disk.state o own h c.args.asked.now x held.Waits) (sym final)
    (was_ready g.D.Disk.told g.D.Disk.state g.met.D.Disk.counts_on o s h st was is own c.args.asked.now (λ why. let e : false ≡ true = c.if-not-goes_for.ensures.1 why in cc))

pub returns-clause-held : goal.returns-clause-held
returns-clause-held g c = λ o own h st.
    let s = c.args.state.now in
    let driver = c.in-Some.driver in
    let v : Driver g.row.D.Denot = c.deref_mut-held.result.now in
    let was : Boxed g.row.D.Denot = with_value driver v in
    let is = held_home g.D.Disk.told g.D.Disk.state g.met.D.Disk.counts_on o s h st driver v c.deref_mut-held.ensures.value c.in-Some.ensures.found in
    let left : Boxed g.row.D.Denot = with_value driver (record v { p = record v.p { replayed = record v.p.replayed { expected = c.copy_from.new.self } } }) in
    subst (λ (x : State g.row.D.Denot). HeldIs g.D.Disk.told g.D.Disk.state o own h c.args.asked.now x (held.Held left)) (sym c.in-Some.ensures.state)
    (was_taken g.D.Disk.told g.D.Disk.state g.met.D.Disk.counts_on o s h st was is own c.args.asked.now (c.if-not-goes_for.ensures.0 refl) c.copy_from.new.self (c.copy_from.ensures ∙ ap (λ (x : State g.row.D.Denot). x.table) c.in-Some.ensures.state) left refl)

pub returns-then-not-goes_for-clause-origin : goal.returns-then-not-goes_for-clause-origin
returns-then-not-goes_for-clause-origin g c = ap (λ (x : State g.row.D.Denot). x.origin) c.bring_home.ensures ∙ ap (λ (x : State g.row.D.Denot). x.origin) c.in-Some.ensures.state

pub returns-clause-origin : goal.returns-clause-origin
returns-clause-origin g c = ap (λ (x : State g.row.D.Denot). x.origin) c.in-Some.ensures.state

-- no turn calls the journal
pub returns-in_default-clause-still : goal.returns-in_default-clause-still
returns-in_default-clause-still g c = ap (λ (x : State g.row.D.Denot). journal_home x.home) c.in_default.ensures.same

pub returns-then-not-goes_for-clause-still : goal.returns-then-not-goes_for-clause-still
returns-then-not-goes_for-clause-still g c =
    ap (λ (x : State g.row.D.Denot). journal_home x.home) c.bring_home.ensures ∙ (ap (λ (x : Driver g.row.D.Denot). Some x.p.journal) c.deref_mut-held.ensures.value ∙ sym (ap (λ (x : Home g.row.D.Denot). journal_home x) c.in-Some.ensures.found))

pub returns-clause-still : goal.returns-clause-still
returns-clause-still g c = ap (λ (x : Driver g.row.D.Denot). Some x.p.journal) c.deref_mut-held.ensures.value ∙ sym (ap (λ (x : Home g.row.D.Denot). journal_home x) c.in-Some.ensures.found)
