use Rattle.std.proofs.Common.{List, ◌++◌, sym, ◌∙◌, ap, subst}
use Rattle.turnstile.proofs.Places.{found_more, left_pass}
use Rattle.dxc_model.specs.declared.entry.Entry.{Entry}
use Rattle.dxc_model.specs.declared.entry.Outcome.TheVariants.{Failed}
use Rattle.xc_core.specs.declared.state.State.{State}
use Rattle.xc_core.specs.Seeing.{codes, entry, place_of}
use Rattle.xc_core.specs.States.{StandsFor, opening_of}
use Rattle.xc_core.specs.Turns.{FailedIs}
use Rattle.dxc_model.specs.Histories.{IsCut, IsRestarted}
use Rattle.xc_core.proofs.Away.{read_since}
use Rattle.xc_core.proofs.Entries.{reading_not_cut, lasted_reading}
use Rattle.xc_core.proofs.Homing.{failure_since}
use Rattle.xc_core.proofs.Turning.{astray_own, found_at, leave_stands, numbered_own, saw_once, seen_own, turned}
use Rattle.xc_core.proofs.turns.changes.fail.Goals as goal

pub leave-requires-clause-stands : goal.leave-requires-clause-stands
leave-requires-clause-stands g c =
    let w = c.requires.failed in
    let f = found_at g.D.Disk.told g.D.Disk.state (opening_of g.D.Disk.state c.args.turns.now.first) c.args.pass.now.number c.enter-turn.result.own c.args.turns.now.passes w.0 c.args.pass.now.seen c.enter-turn.result.seen c.enter-turn.result.state c.enter-turn.ensures.turn.1 c.enter-turn.ensures.found w.1.codes_are in
    let st = subst (λ (s : State g.row.D.Denot). StandsFor g.D.Disk.told g.D.Disk.state (opening_of g.D.Disk.state c.args.turns.now.first) s (w.0 ++ f.later)) (sym c.state_mut.ensures.value) f.stands in
    let t = failure_since g.D.Disk.told g.D.Disk.state (opening_of g.D.Disk.state c.args.turns.now.first) c.args.pass.now.number w.2.0 c.args.op.now c.args.cause w.0 f.later c.args.driver.value.p f.others f.stands.turns w.2.1 in
    leave_stands g.D.Disk.told g.D.Disk.state (opening_of g.D.Disk.state c.args.turns.now.first) c.args.pass.now.number w.0 c.enter-turn.result.state c.enter-turn.result.seen f c.fail.new.state c.number-place.result c.args.op.now (Failed c.args.cause) (c.number-place.ensures ∙ c.enter-turn.ensures.out.0)
    (c.fail.ensures.origin ∙ ap (λ (s : State g.row.D.Denot). s.origin) c.state_mut.ensures.value) (c.fail.ensures.failed (opening_of g.D.Disk.state c.args.turns.now.first) c.args.pass.now.number (w.0 ++ f.later) w.2.0 c.args.op.now c.args.cause st t)

pub returns-clause-failed : goal.returns-clause-failed
returns-clause-failed g c = λ h saw.
    let w = c.requires.failed in
    let f = found_at g.D.Disk.told g.D.Disk.state (opening_of g.D.Disk.state c.args.turns.now.first) c.args.pass.now.number c.enter-turn.result.own c.args.turns.now.passes w.0 c.args.pass.now.seen c.enter-turn.result.seen c.enter-turn.result.state c.enter-turn.ensures.turn.1 c.enter-turn.ensures.found w.1.codes_are in
    let st = subst (λ (s : State g.row.D.Denot). StandsFor g.D.Disk.told g.D.Disk.state (opening_of g.D.Disk.state c.args.turns.now.first) s (w.0 ++ f.later)) (sym c.state_mut.ensures.value) f.stands in
    let t = failure_since g.D.Disk.told g.D.Disk.state (opening_of g.D.Disk.state c.args.turns.now.first) c.args.pass.now.number w.2.0 c.args.op.now c.args.cause w.0 f.later c.args.driver.value.p f.others f.stands.turns w.2.1 in
    let e = entry c.args.pass.now.number c.args.op.now (Failed c.args.cause) in
    subst (λ (l : List Entry). FailedIs g.D.Disk.told g.D.Disk.state (opening_of g.D.Disk.state c.args.turns.now.first) c.args.pass.now.number l c.args.op.now c.args.cause c.args.driver.value.p c.leave.new.pass.seen) (saw_once (opening_of g.D.Disk.state c.args.turns.now.first) c.args.pass.now.seen w.0 h w.1 saw) (
      turned g.D.Disk.told g.D.Disk.state (opening_of g.D.Disk.state c.args.turns.now.first) c.args.pass.now.number w.0 c.enter-turn.result.state c.enter-turn.result.seen f c.fail.new.state e c.leave.new.pass.seen (c.fail.ensures.failed (opening_of g.D.Disk.state c.args.turns.now.first) c.args.pass.now.number (w.0 ++ f.later) w.2.0 c.args.op.now c.args.cause st t)
          (seen_own g.D.Disk.told g.D.Disk.state (opening_of g.D.Disk.state c.args.turns.now.first) c.args.pass.now.number w.0 c.enter-turn.result.state c.enter-turn.result.seen f c.number-place.result c.args.op.now (Failed c.args.cause) c.leave.new.pass.seen (c.number-place.ensures ∙ c.enter-turn.ensures.out.0) c.leave.ensures.seen),
      λ taken x. failure_since g.D.Disk.told g.D.Disk.state (opening_of g.D.Disk.state c.args.turns.now.first) c.args.pass.now.number taken c.args.op.now c.args.cause w.0 f.later c.args.driver.value.p f.others f.stands.turns x,
      λ stopped. lasted_reading IsCut IsRestarted reading_not_cut w.0 f.later (read_since g.D.Disk.told g.D.Disk.state (opening_of g.D.Disk.state c.args.turns.now.first) c.args.pass.now.number w.2.0 w.0 f.later c.args.driver.value.p f.others f.stands.turns w.2.1.out) stopped,
    )

pub returns-clause-pass : goal.returns-clause-pass
returns-clause-pass g c =
    left_pass codes place_of c.args.turns.now c.args.pass.now c.enter-turn.new.pass c.leave.new.pass c.enter-turn.result _ c.requires.pass c.enter-turn.ensures.turn.1 (found_more c.enter-turn.ensures.found) c.enter-turn.ensures.dated c.enter-turn.ensures.out c.leave.ensures.pass c.leave.ensures.heard c.leave.ensures.dated c.leave.ensures.seen
    (numbered_own g.D.Disk.told g.D.Disk.state (opening_of g.D.Disk.state c.args.turns.now.first) c.enter-turn.result.own c.args.turns.now.passes c.args.pass.now.seen c.enter-turn.result.seen c.enter-turn.result.state c.enter-turn.ensures.found c.args.pass.now.number c.number-place.result c.args.op.now (Failed c.args.cause) c.leave.new.pass.seen (c.number-place.ensures ∙ c.enter-turn.ensures.out.0) c.requires.pass.2 c.leave.ensures.seen)

pub returns-clause-astray : goal.returns-clause-astray
returns-clause-astray g c =
    let w = c.requires.failed in
    let f = found_at g.D.Disk.told g.D.Disk.state (opening_of g.D.Disk.state c.args.turns.now.first) c.args.pass.now.number c.enter-turn.result.own c.args.turns.now.passes w.0 c.args.pass.now.seen c.enter-turn.result.seen c.enter-turn.result.state c.enter-turn.ensures.turn.1 c.enter-turn.ensures.found w.1.codes_are in
    let st = subst (λ (s : State g.row.D.Denot). StandsFor g.D.Disk.told g.D.Disk.state (opening_of g.D.Disk.state c.args.turns.now.first) s (w.0 ++ f.later)) (sym c.state_mut.ensures.value) f.stands in
    let t = failure_since g.D.Disk.told g.D.Disk.state (opening_of g.D.Disk.state c.args.turns.now.first) c.args.pass.now.number w.2.0 c.args.op.now c.args.cause w.0 f.later c.args.driver.value.p f.others f.stands.turns w.2.1 in
    astray_own g.D.Disk.told g.D.Disk.state (opening_of g.D.Disk.state c.args.turns.now.first) c.args.pass.now.number w.0 c.enter-turn.result.state c.enter-turn.result.seen f c.fail.new.state c.number-place.result c.args.op.now (Failed c.args.cause) c.leave.new.pass.seen (c.number-place.ensures ∙ c.enter-turn.ensures.out.0) (c.fail.ensures.failed (opening_of g.D.Disk.state c.args.turns.now.first) c.args.pass.now.number (w.0 ++ f.later) w.2.0 c.args.op.now c.args.cause st t) c.leave.ensures.seen
