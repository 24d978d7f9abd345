use Rattle.std.proofs.Common.{Ok, ap, sym, subst, inl}
use Rattle.roll_engine.specs.Rollings.{RollingAt}
use Rattle.xc_core.specs.declared.provisioner.Driver.{Driver}
use Rattle.xc_core.specs.declared.provisioner.Provisioner.{Provisioner}
use Rattle.xc_core.specs.declared.noting.Noted.{Noted}
use Rattle.xc_core.specs.Begins.{NotedIs, plan_of}
use Rattle.xc_core.specs.Seeing.{HasPlan, HasTaken}
use Rattle.xc_core.specs.States.{opening_of}
use Rattle.xc_core.proofs.Homing.{plan_failed, plan_noted}
use Rattle.worked_restarts.proofs.beside.note_beside.Goals as goal

pub note-requires-clause-planned : goal.note-requires-clause-planned
note-requires-clause-planned g c =
    let w = c.requires.planned in
    let v = c.deref_mut-out.result.now in
    let x = subst (λ (y : Driver g.row.D.Denot). HasPlan g.D.Disk.told g.D.Disk.state (opening_of g.D.Disk.state c.args.turns.now.first) c.args.pass.now.number w.0 y.p (plan_of c.args.op.now y.rolling c.args.bytes.now)) (sym c.deref_mut-out.ensures.value) w.2 in
    let y = subst (λ (r : RollingAt). HasPlan g.D.Disk.told g.D.Disk.state (opening_of g.D.Disk.state c.args.turns.now.first) c.args.pass.now.number w.0 v.p (plan_of c.args.op.now r c.args.bytes.now)) (sym c.of-rolling.ensures) x in
    (y.out.now, y.may)

pub note-requires-clause-sealed : goal.note-requires-clause-sealed
note-requires-clause-sealed g c = c.requires.planned.2.sealed

pub drive_beside-requires-clause-taken : goal.drive_beside-requires-clause-taken
drive_beside-requires-clause-taken g c =
    let w = c.requires.planned in
    let v = c.deref_mut-out.result.now in
    let x = subst (λ (y : Driver g.row.D.Denot). HasPlan g.D.Disk.told g.D.Disk.state (opening_of g.D.Disk.state c.args.turns.now.first) c.args.pass.now.number w.0 y.p (plan_of c.args.op.now y.rolling c.args.bytes.now)) (sym c.deref_mut-out.ensures.value) w.2 in
    let y = subst (λ (r : RollingAt). HasPlan g.D.Disk.told g.D.Disk.state (opening_of g.D.Disk.state c.args.turns.now.first) c.args.pass.now.number w.0 v.p (plan_of c.args.op.now r c.args.bytes.now)) (sym c.of-rolling.ensures) x in
    (w.0, w.1, subst (λ (r : RollingAt). HasTaken g.D.Disk.told g.D.Disk.state (opening_of g.D.Disk.state c.args.turns.now.first) c.args.pass.now.number c.args.op.now w.0 c.note.new.p r) c.of-rolling.ensures (plan_noted g.D.Disk.told g.D.Disk.state (opening_of g.D.Disk.state c.args.turns.now.first) c.args.pass.now.number w.0 v.p c.note.new.p (plan_of c.args.op.now c.of-rolling.result.value c.args.bytes.now) y c.note.ensures.ground c.note.ensures.fault.later c.note.ensures.room (λ t. (g.met.D.Disk.is_disk v.p.journal.0 t, g.met.D.Disk.is_disk c.note.new.p.journal.0 t, c.note.ensures.any_moment t y.out.now y.may)) (subst (λ (k : Noted). NotedIs g.D.Disk.told g.D.Disk.state y.out.now v.p c.note.new.p (plan_of c.args.op.now c.of-rolling.result.value c.args.bytes.now) (Ok k)) c.in-Ok-Rolling.field-0-is (c.in-Ok-Rolling.ensures.noted y.out.now y.may))))

pub fail-requires-clause-failed : goal.fail-requires-clause-failed
fail-requires-clause-failed g c =
    let w = c.requires.planned in
    let v = c.deref_mut-out.result.now in
    let x = subst (λ (y : Driver g.row.D.Denot). HasPlan g.D.Disk.told g.D.Disk.state (opening_of g.D.Disk.state c.args.turns.now.first) c.args.pass.now.number w.0 y.p (plan_of c.args.op.now y.rolling c.args.bytes.now)) (sym c.deref_mut-out.ensures.value) w.2 in
    let y = subst (λ (r : RollingAt). HasPlan g.D.Disk.told g.D.Disk.state (opening_of g.D.Disk.state c.args.turns.now.first) c.args.pass.now.number w.0 v.p (plan_of c.args.op.now r c.args.bytes.now)) (sym c.of-rolling.ensures) x in
    let n = (subst (λ (k : Noted). NotedIs g.D.Disk.told g.D.Disk.state y.out.now v.p c.note.new.p (plan_of c.args.op.now c.of-rolling.result.value c.args.bytes.now) (Ok k)) c.in-Ok-Fault.field-0-is (c.in-Ok-Fault.ensures.noted y.out.now y.may)) in
    (w.0, w.1, (c.args.op.now, plan_failed g.D.Disk.told g.D.Disk.state (opening_of g.D.Disk.state c.args.turns.now.first) c.args.pass.now.number w.0 v.p c.note.new.p (plan_of c.args.op.now c.of-rolling.result.value c.args.bytes.now) y c.note.ensures.ground c.note.ensures.room c.note.ensures.fault.later (c.in-Ok-Fault.ensures.fault.cause (ap (λ (k : Noted). Ok k) c.in-Ok-Fault.field-0-is)) (λ t. (g.met.D.Disk.is_disk v.p.journal.0 t, g.met.D.Disk.is_disk c.note.new.p.journal.0 t, c.note.ensures.any_moment t y.out.now y.may)) n.0 n.2))

pub cut-requires-clause-taken : goal.cut-requires-clause-taken
cut-requires-clause-taken g c =
    let w = c.requires.planned in
    let v = c.deref_mut-out.result.now in
    let plan = plan_of c.args.op.now v.rolling c.args.bytes.now in
    let x = subst (λ (y : Driver g.row.D.Denot). HasPlan g.D.Disk.told g.D.Disk.state (opening_of g.D.Disk.state c.args.turns.now.first) c.args.pass.now.number w.0 y.p (plan_of c.args.op.now y.rolling c.args.bytes.now)) (sym c.deref_mut-out.ensures.value) w.2 in
    let y = subst (λ (r : RollingAt). HasPlan g.D.Disk.told g.D.Disk.state (opening_of g.D.Disk.state c.args.turns.now.first) c.args.pass.now.number w.0 v.p (plan_of c.args.op.now r c.args.bytes.now)) (sym c.of-rolling.ensures) x in
    (w.0, w.1, inl (c.args.bytes.now, subst (λ (z : Provisioner g.row.D.Denot). HasPlan g.D.Disk.told g.D.Disk.state (opening_of g.D.Disk.state c.args.turns.now.first) c.args.pass.now.number w.0 z plan) (sym (c.in-Err.ensures.noted y.out.now y.may)) x))
