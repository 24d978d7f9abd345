use Rattle.std.proofs.Common.{List, Ok, length, refl, sym, ap, subst, inl, inr}
use Rattle.dxc_model.specs.declared.cause.Cause.TheVariants.{DiskFault}
use Rattle.dxc_model.specs.declared.entry.Entry.{Entry}
use Rattle.dxc_model.specs.Histories.{IsStopped}
use Rattle.roll_engine.specs.Rollings.{RollingAt, rest_of}
use Rattle.xc_core.specs.declared.provisioner.Driver.{Driver}
use Rattle.xc_core.specs.declared.provisioner.Provisioner.{Provisioner}
use Rattle.xc_core.specs.declared.noting.Noted.{Noted}
use Rattle.xc_core.specs.Begins.{NotedIs, plan_of}
use Rattle.xc_core.specs.Seeing.{HasPlan, HasTaken}
use Rattle.xc_core.specs.States.{opening_of}
use Rattle.xc_core.proofs.Homing.{plan_failed, plan_noted}
use Rattle.xc_core.proofs.Turning.{saw_once}
use Rattle.craft_session.proofs.Changing.{changed_cut, changed_fault}
use Rattle.craft_session.proofs.Ends.{rose_after, rose_by, still, went_on}
use Rattle.craft_session.proofs.Gated.{entered_fault, entered_noted, entered_unnoted}
use Rattle.craft_session.proofs.Gating.{driven_asked}
use Rattle.craft_session.proofs.change.carry_out.Goals as goal

pub note-requires-clause-planned : goal.note-requires-clause-planned
note-requires-clause-planned g c =
    let w = c.requires.planned in
    let v = c.deref_mut-held.result.now in
    let x = subst (λ (y : Driver g.row.D.Denot). HasPlan g.D.Disk.told g.D.Disk.state (opening_of g.D.Disk.state c.args.turns.now.first) c.args.pass.now.number w.0 y.p (plan_of c.args.op.now y.rolling c.args.bytes.now)) (sym c.deref_mut-held.ensures.value) w.2 in
    let y = subst (λ (r : RollingAt). HasPlan g.D.Disk.told g.D.Disk.state (opening_of g.D.Disk.state c.args.turns.now.first) c.args.pass.now.number w.0 v.p (plan_of c.args.op.now r c.args.bytes.now)) (sym c.of-rolling.ensures) x in
    (y.out.now, y.may)

pub note-requires-clause-sealed : goal.note-requires-clause-sealed
note-requires-clause-sealed g c = c.requires.planned.2.sealed

pub drive_out-requires-clause-taken : goal.drive_out-requires-clause-taken
drive_out-requires-clause-taken g c =
    let w = c.requires.planned in
    let v = c.deref_mut-held.result.now in
    let x = subst (λ (y : Driver g.row.D.Denot). HasPlan g.D.Disk.told g.D.Disk.state (opening_of g.D.Disk.state c.args.turns.now.first) c.args.pass.now.number w.0 y.p (plan_of c.args.op.now y.rolling c.args.bytes.now)) (sym c.deref_mut-held.ensures.value) w.2 in
    let y = subst (λ (r : RollingAt). HasPlan g.D.Disk.told g.D.Disk.state (opening_of g.D.Disk.state c.args.turns.now.first) c.args.pass.now.number w.0 v.p (plan_of c.args.op.now r c.args.bytes.now)) (sym c.of-rolling.ensures) x in
    (w.0, w.1, subst (λ (r : RollingAt). HasTaken g.D.Disk.told g.D.Disk.state (opening_of g.D.Disk.state c.args.turns.now.first) c.args.pass.now.number c.args.op.now w.0 c.note.new.p r) c.of-rolling.ensures (plan_noted g.D.Disk.told g.D.Disk.state (opening_of g.D.Disk.state c.args.turns.now.first) c.args.pass.now.number w.0 v.p c.note.new.p (plan_of c.args.op.now c.of-rolling.result.value c.args.bytes.now) y c.note.ensures.ground c.note.ensures.fault.later c.note.ensures.room (λ t. (g.met.D.Disk.is_disk v.p.journal.0 t, g.met.D.Disk.is_disk c.note.new.p.journal.0 t, c.note.ensures.any_moment t y.out.now y.may)) (subst (λ (k : Noted). NotedIs g.D.Disk.told g.D.Disk.state y.out.now v.p c.note.new.p (plan_of c.args.op.now c.of-rolling.result.value c.args.bytes.now) (Ok k)) c.in-Ok-Rolling.field-0-is (c.in-Ok-Rolling.ensures.noted y.out.now y.may))))

pub drive_out-requires-clause-unmade : goal.drive_out-requires-clause-unmade
drive_out-requires-clause-unmade g c =
    let w = c.requires.planned in
    let x = subst (λ (y : Driver g.row.D.Denot). HasPlan g.D.Disk.told g.D.Disk.state (opening_of g.D.Disk.state c.args.turns.now.first) c.args.pass.now.number w.0 y.p (plan_of c.args.op.now y.rolling c.args.bytes.now)) (sym c.deref_mut-held.ensures.value) w.2 in
    ap (λ (r : RollingAt). r.step) x.may.unmade_is

pub fail-requires-clause-failed : goal.fail-requires-clause-failed
fail-requires-clause-failed g c =
    let w = c.requires.planned in
    let v = c.deref_mut-held.result.now in
    let x = subst (λ (y : Driver g.row.D.Denot). HasPlan g.D.Disk.told g.D.Disk.state (opening_of g.D.Disk.state c.args.turns.now.first) c.args.pass.now.number w.0 y.p (plan_of c.args.op.now y.rolling c.args.bytes.now)) (sym c.deref_mut-held.ensures.value) w.2 in
    let y = subst (λ (r : RollingAt). HasPlan g.D.Disk.told g.D.Disk.state (opening_of g.D.Disk.state c.args.turns.now.first) c.args.pass.now.number w.0 v.p (plan_of c.args.op.now r c.args.bytes.now)) (sym c.of-rolling.ensures) x in
    let n = (subst (λ (k : Noted). NotedIs g.D.Disk.told g.D.Disk.state y.out.now v.p c.note.new.p (plan_of c.args.op.now c.of-rolling.result.value c.args.bytes.now) (Ok k)) c.in-Ok-Fault.field-0-is (c.in-Ok-Fault.ensures.noted y.out.now y.may)) in
    (w.0, w.1, (c.args.op.now, plan_failed g.D.Disk.told g.D.Disk.state (opening_of g.D.Disk.state c.args.turns.now.first) c.args.pass.now.number w.0 v.p c.note.new.p (plan_of c.args.op.now c.of-rolling.result.value c.args.bytes.now) y c.note.ensures.ground c.note.ensures.room c.note.ensures.fault.later (c.in-Ok-Fault.ensures.fault.cause (ap (λ (k : Noted). Ok k) c.in-Ok-Fault.field-0-is)) (λ t. (g.met.D.Disk.is_disk v.p.journal.0 t, g.met.D.Disk.is_disk c.note.new.p.journal.0 t, c.note.ensures.any_moment t y.out.now y.may)) n.0 n.2))

pub cut-requires-clause-taken : goal.cut-requires-clause-taken
cut-requires-clause-taken g c =
    let w = c.requires.planned in
    let v = c.deref_mut-held.result.now in
    let plan = plan_of c.args.op.now v.rolling c.args.bytes.now in
    let x = subst (λ (y : Driver g.row.D.Denot). HasPlan g.D.Disk.told g.D.Disk.state (opening_of g.D.Disk.state c.args.turns.now.first) c.args.pass.now.number w.0 y.p (plan_of c.args.op.now y.rolling c.args.bytes.now)) (sym c.deref_mut-held.ensures.value) w.2 in
    let y = subst (λ (r : RollingAt). HasPlan g.D.Disk.told g.D.Disk.state (opening_of g.D.Disk.state c.args.turns.now.first) c.args.pass.now.number w.0 v.p (plan_of c.args.op.now r c.args.bytes.now)) (sym c.of-rolling.ensures) x in
    (w.0, w.1, inl (c.args.bytes.now, subst (λ (y : Provisioner g.row.D.Denot). HasPlan g.D.Disk.told g.D.Disk.state (opening_of g.D.Disk.state c.args.turns.now.first) c.args.pass.now.number w.0 y plan) (sym (c.in-Err.ensures.noted y.out.now y.may)) x))

pub returns-in-Ok-Rolling : goal.returns-in-Ok-Rolling
returns-in-Ok-Rolling g c =
    let r = c.drive_out.ensures in
    let unstopped = c.in-Ok-Rolling.ensures.stopped.only (λ e. went_on _ e) in
    record {
      pass = r.pass;
      changed = r.changed;
      astray = r.astray;
      stopped = rose_after _ _ _ _ unstopped r.stopped;
      asked = driven_asked g.G.Gate.asked g.G.Gate.asked_on c.args.gate.now c.note.new.gate c.drive_out.new.gate (length (rest_of c.deref_mut-held.result.now.rolling)) c.drive_out.result c.note.ensures.asked r.asked;
      entered = λ h saw. entered_noted g.G.Gate.asked g.G.Gate.asked_on c.args.gate.now c.note.new.gate c.drive_out.new.gate (opening_of g.D.Disk.state c.args.turns.now.first) c.args.pass.now.number h c.drive_out.new.pass.seen c.note.ensures.asked (r.entered h saw);
    }

pub returns-in-Ok-Fault : goal.returns-in-Ok-Fault
returns-in-Ok-Fault g c = record {
  pass = c.fail.ensures.pass;
  changed = λ h saw.
      let w = c.requires.planned in
      changed_fault (opening_of g.D.Disk.state c.args.turns.now.first) c.args.pass.now.number h g.D.Disk.told g.D.Disk.state c.args.op.now c.note.new.p c.fail.new.pass.seen (subst (λ (l : List Entry). IsStopped l → ⊥) (saw_once (opening_of g.D.Disk.state c.args.turns.now.first) c.args.pass.now.seen w.0 h w.1 saw) w.2.unstopped) (c.fail.ensures.failed h saw);
  astray = c.fail.ensures.astray;
  stopped = still _ _ (c.in-Ok-Fault.ensures.stopped.only (λ e. went_on _ e));
  asked = inr c.note.ensures.asked;
  entered = λ h saw. entered_fault (opening_of g.D.Disk.state c.args.turns.now.first) c.args.pass.now.number (g.G.Gate.asked c.args.gate.now c.note.new.gate) h c.fail.new.pass.seen c.args.op.now DiskFault (inr c.note.ensures.asked) (c.fail.ensures.failed h saw).0;
}

pub returns-in-Err : goal.returns-in-Err
returns-in-Err g c = record {
  pass = c.cut.ensures.pass;
  changed = λ h saw. changed_cut (opening_of g.D.Disk.state c.args.turns.now.first) c.args.pass.now.number h c.args.op.now c.cut.new.pass.seen (c.cut.ensures.cut h saw);
  astray = c.cut.ensures.astray;
  stopped = rose_by _ _ _ _ c.in-Err.ensures.stopped refl refl;
  asked = inl c.note.ensures.asked;
  entered = λ h saw. entered_unnoted (opening_of g.D.Disk.state c.args.turns.now.first) c.args.pass.now.number (g.G.Gate.asked c.args.gate.now c.note.new.gate) h c.cut.new.pass.seen c.args.op.now c.note.ensures.asked (c.cut.ensures.cut h saw).0;
}
