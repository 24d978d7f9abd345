use Rattle.std.proofs.Common.{Some, sym, ◌∙◌, ap, subst, arith}
use Rattle.std.specs.Box.{with_value}
use Rattle.dxc_disk.proofs.DiskSteps.{spends_none}
use Rattle.xc_core.specs.declared.provisioner.Driver.{Driver}
use Rattle.xc_core.specs.declared.provisioner.Provisioner.{Provisioner}
use Rattle.xc_core.specs.declared.state.Home.{Home}
use Rattle.xc_core.specs.declared.state.Home.TheVariants.{In}
use Rattle.xc_core.specs.declared.state.State.{State}
use Rattle.xc_core.specs.declared.turns.Took.TheVariants as took
use Rattle.xc_core.specs.Begins.{plan_of}
use Rattle.xc_core.specs.Provisioners.{Boxed, ground_of}
use Rattle.xc_core.specs.States.{most_room, with_home}
use Rattle.xc_core.specs.Turns.{TakenIs, journal_home}
use Rattle.xc_core.proofs.Homing.{plan_taken}
use Rattle.xc_core.proofs.Within.{held_home, later_from, lent, may_note, spent_from, was_denied, was_halted}
use Rattle.xc_core.proofs.inside.take.Goals as goal

pub returns-in_default-clause-took : goal.returns-in_default-clause-took
returns-in_default-clause-took g c = λ o own h st.
    subst (λ (x : State g.row.D.Denot). TakenIs g.D.Disk.told g.D.Disk.state o own h c.args.op.now x took.Waits) (sym c.in_default.ensures.same)
    (lent g.D.Disk.told g.D.Disk.state g.met.D.Disk.counts_on o c.args.state.now h st c.in_default.ensures.none)

pub returns-in-Ok-clause-took : goal.returns-in-Ok-clause-took
returns-in-Ok-clause-took g c = λ o own h st.
    let s = c.args.state.now in
    let driver = c.in-Some.driver in
    let v : Driver g.row.D.Denot = c.deref_mut-held.result.now in
    let m = c.plan_copied.new.p in
    let left : Boxed g.row.D.Denot = with_value driver (record { p = m; rolling = c.plan_copied.new.rolling }) in
    let is = held_home g.D.Disk.told g.D.Disk.state g.met.D.Disk.counts_on o s h st driver v c.deref_mut-held.ensures.value c.in-Some.ensures.found in
    let ready = sym c.halted.ensures ∙ c.if-halted.false in
    let same = ap (λ (x : State g.row.D.Denot). x.table) c.in-Some.ensures.state in
    let others = c.plan_copied.ensures.others in
    subst (λ (x : State g.row.D.Denot). TakenIs g.D.Disk.told g.D.Disk.state o own h c.args.op.now x (took.Rolling left c.in-Ok.bytes)) (sym c.in-Some.ensures.state)
    (plan_taken g.D.Disk.told g.D.Disk.state o s h st (with_value driver v) is ready own left (plan_of c.args.op.now c.plan_copied.new.rolling c.in-Ok.bytes) (ap (λ (x : Provisioner g.row.D.Denot). x.journal) others) (ap (λ (x : Provisioner g.row.D.Denot). ground_of x) others) (ap (λ (x : Provisioner g.row.D.Denot). x.doubt) others)
    (λ b home table. may_note g.D.Disk.told g.D.Disk.state b m c.args.op.now c.plan_copied.new.rolling c.in-Ok.bytes (c.plan_copied.ensures.home b home) (c.in-Ok.ensures.copied b (table ∙ sym same)) (c.in-Ok.ensures.planned b home (table ∙ sym same)))
    c.in-Ok.ensures.sealed)

pub returns-in-Err-clause-took : goal.returns-in-Err-clause-took
returns-in-Err-clause-took g c = λ o own h st.
    let s = c.args.state.now in
    let driver = c.in-Some.driver in
    let v : Driver g.row.D.Denot = c.deref_mut-held.result.now in
    let is = held_home g.D.Disk.told g.D.Disk.state g.met.D.Disk.counts_on o s h st driver v c.deref_mut-held.ensures.value c.in-Some.ensures.found in
    let ready = sym c.halted.ensures ∙ c.if-halted.false in
    let same = ap (λ (x : State g.row.D.Denot). x.table) c.in-Some.ensures.state in
    let left : Boxed g.row.D.Denot = with_value driver (record { p = c.plan_copied.new.p; rolling = c.plan_copied.new.rolling }) in
    let journal = ap (λ (x : Provisioner g.row.D.Denot). x.journal) c.plan_copied.ensures.others in
    let final = c.bring_home-in-Err.ensures ∙ ap (λ (x : State g.row.D.Denot). with_home (In left) x) c.in-Some.ensures.state in
    subst (λ (x : State g.row.D.Denot). TakenIs g.D.Disk.told g.D.Disk.state o own h c.args.op.now x (took.Denied c.in-Err.cause)) (sym final)
    (was_denied g.D.Disk.told g.D.Disk.state g.met.D.Disk.counts_on o s h st (with_value driver v) is ready own c.args.op.now left (ap (λ (x : Provisioner g.row.D.Denot). ground_of x) c.plan_copied.ensures.others) (later_from g.D.Disk.state v.p c.plan_copied.new.p c.plan_copied.new.p journal (omega arith)) (spent_from g.D.Disk.state v.p c.plan_copied.new.p c.plan_copied.new.p journal (spends_none most_room (g.D.Disk.state c.plan_copied.new.p.journal.0)))
    c.in-Err.cause c.in-Err.ensures.denied (λ b home table. c.in-Err.ensures.planned b home (table ∙ sym same)))

pub returns-then-halted-clause-took : goal.returns-then-halted-clause-took
returns-then-halted-clause-took g c = λ o own h st.
    let s = c.args.state.now in
    let held : Boxed g.row.D.Denot = with_value c.in-Some.driver c.deref_mut-held.result.now in
    let is = held_home g.D.Disk.told g.D.Disk.state g.met.D.Disk.counts_on o s h st c.in-Some.driver c.deref_mut-held.result.now c.deref_mut-held.ensures.value c.in-Some.ensures.found in
    let final = c.bring_home.ensures ∙ ap (λ (x : State g.row.D.Denot). with_home (In held) x) c.in-Some.ensures.state in
    subst (λ (x : State g.row.D.Denot). TakenIs g.D.Disk.told g.D.Disk.state o own h c.args.op.now x took.Halted) (sym final)
    (was_halted g.D.Disk.told g.D.Disk.state g.met.D.Disk.counts_on o s h st own c.args.op.now held is (sym c.halted.ensures ∙ c.if-halted.true))

pub returns-in-Err-clause-origin : goal.returns-in-Err-clause-origin
returns-in-Err-clause-origin g c = ap (λ (x : State g.row.D.Denot). x.origin) c.bring_home-in-Err.ensures ∙ ap (λ (x : State g.row.D.Denot). x.origin) c.in-Some.ensures.state

pub returns-in-Ok-clause-origin : goal.returns-in-Ok-clause-origin
returns-in-Ok-clause-origin g c = ap (λ (x : State g.row.D.Denot). x.origin) c.in-Some.ensures.state

pub returns-then-halted-clause-origin : goal.returns-then-halted-clause-origin
returns-then-halted-clause-origin g c = ap (λ (x : State g.row.D.Denot). x.origin) c.bring_home.ensures ∙ ap (λ (x : State g.row.D.Denot). x.origin) c.in-Some.ensures.state

-- no turn calls the journal
pub returns-in_default-clause-still : goal.returns-in_default-clause-still
returns-in_default-clause-still g c = ap (λ (x : State g.row.D.Denot). journal_home x.home) c.in_default.ensures.same

pub returns-in-Ok-clause-still : goal.returns-in-Ok-clause-still
returns-in-Ok-clause-still g c = ap (λ (x : Provisioner g.row.D.Denot). Some x.journal) c.plan_copied.ensures.others ∙ (ap (λ (x : Driver g.row.D.Denot). Some x.p.journal) c.deref_mut-held.ensures.value ∙ sym (ap (λ (x : Home g.row.D.Denot). journal_home x) c.in-Some.ensures.found))

pub returns-in-Err-clause-still : goal.returns-in-Err-clause-still
returns-in-Err-clause-still g c =
    ap (λ (x : State g.row.D.Denot). journal_home x.home) c.bring_home-in-Err.ensures
    ∙ (ap (λ (x : Provisioner g.row.D.Denot). Some x.journal) c.plan_copied.ensures.others ∙ (ap (λ (x : Driver g.row.D.Denot). Some x.p.journal) c.deref_mut-held.ensures.value ∙ sym (ap (λ (x : Home g.row.D.Denot). journal_home x) c.in-Some.ensures.found)))

pub returns-then-halted-clause-still : goal.returns-then-halted-clause-still
returns-then-halted-clause-still g c =
    ap (λ (x : State g.row.D.Denot). journal_home x.home) c.bring_home.ensures ∙ (ap (λ (x : Driver g.row.D.Denot). Some x.p.journal) c.deref_mut-held.ensures.value ∙ sym (ap (λ (x : Home g.row.D.Denot). journal_home x) c.in-Some.ensures.found))
