use Rattle.std.proofs.Common.{List, [], ◌∷◌, ◌++◌, sym, ◌∙◌, ap, subst}
use Rattle.turnstile.proofs.Places.{found_more, left_pass}
use Rattle.dxc_model.specs.declared.entry.Entry.{Entry}
use Rattle.dxc_model.specs.declared.entry.Outcome.TheVariants.{Cut}
use Rattle.dxc_model.specs.declared.op.Op.TheVariants.{Restart}
use Rattle.xc_core.specs.declared.state.State.{State}
use Rattle.xc_core.specs.Seeing.{codes, entry, place_of}
use Rattle.xc_core.specs.States.{StandsFor, opening_of}
use Rattle.xc_core.specs.Turns.{RestartCutIs}
use Rattle.xc_core.proofs.Homing.{restart_cut_by, restart_cut_due, restart_cut_since}
use Rattle.xc_core.proofs.Turning.{astray_own, found_at, leave_stands, numbered_own, saw_once, seen_own, turned}
use Rattle.xc_core.proofs.restarts.cut_restart.Goals as goal

pub leave-requires-clause-stands : goal.leave-requires-clause-stands
leave-requires-clause-stands g c =
    let w = c.requires.restart in
    let f = found_at g.D.Disk.told g.D.Disk.state (opening_of g.D.Disk.state c.args.turns.now.first) c.args.pass.now.number c.enter-turn.result.own c.args.turns.now.passes w.0 c.args.pass.now.seen c.enter-turn.result.seen c.enter-turn.result.state c.enter-turn.ensures.turn.1 c.enter-turn.ensures.found w.1.codes_are in
    let st = subst (λ (s : State g.row.D.Denot). StandsFor g.D.Disk.told g.D.Disk.state (opening_of g.D.Disk.state c.args.turns.now.first) s (w.0 ++ f.later)) (sym c.state_mut.ensures.value) f.stands in
    let r = c.args.driver.value.rolling in
    let t = restart_cut_since g.D.Disk.told g.D.Disk.state (opening_of g.D.Disk.state c.args.turns.now.first) c.args.pass.now.number c.args.asked.now w.0 f.later c.args.driver.value.p r f.others f.stands.turns w.2 in
    let at = restart_cut_by g.D.Disk.told g.D.Disk.state (opening_of g.D.Disk.state c.args.turns.now.first) c.args.pass.now.number c.args.asked.now (w.0 ++ f.later) c.args.driver.value.p r (StandsFor g.D.Disk.told g.D.Disk.state (opening_of g.D.Disk.state c.args.turns.now.first) c.cut.new.state ((w.0 ++ f.later) ++ entry c.args.pass.now.number Restart Cut ∷ [])) t
    (λ x. c.cut.ensures.unread (opening_of g.D.Disk.state c.args.turns.now.first) c.args.pass.now.number (w.0 ++ f.later) c.args.asked.now st x) (λ x. c.cut.ensures.cut (opening_of g.D.Disk.state c.args.turns.now.first) c.args.pass.now.number (w.0 ++ f.later) c.args.asked.now r st x) in
    leave_stands g.D.Disk.told g.D.Disk.state (opening_of g.D.Disk.state c.args.turns.now.first) c.args.pass.now.number w.0 c.enter-turn.result.state c.enter-turn.result.seen f c.cut.new.state c.number-place.result Restart Cut (c.number-place.ensures ∙ c.enter-turn.ensures.out.0)
    (c.cut.ensures.origin ∙ ap (λ (s : State g.row.D.Denot). s.origin) c.state_mut.ensures.value) at

pub returns-clause-cut : goal.returns-clause-cut
returns-clause-cut g c = λ h saw.
    let w = c.requires.restart in
    let f = found_at g.D.Disk.told g.D.Disk.state (opening_of g.D.Disk.state c.args.turns.now.first) c.args.pass.now.number c.enter-turn.result.own c.args.turns.now.passes w.0 c.args.pass.now.seen c.enter-turn.result.seen c.enter-turn.result.state c.enter-turn.ensures.turn.1 c.enter-turn.ensures.found w.1.codes_are in
    let st = subst (λ (s : State g.row.D.Denot). StandsFor g.D.Disk.told g.D.Disk.state (opening_of g.D.Disk.state c.args.turns.now.first) s (w.0 ++ f.later)) (sym c.state_mut.ensures.value) f.stands in
    let r = c.args.driver.value.rolling in
    let t = restart_cut_since g.D.Disk.told g.D.Disk.state (opening_of g.D.Disk.state c.args.turns.now.first) c.args.pass.now.number c.args.asked.now w.0 f.later c.args.driver.value.p r f.others f.stands.turns w.2 in
    let at = restart_cut_by g.D.Disk.told g.D.Disk.state (opening_of g.D.Disk.state c.args.turns.now.first) c.args.pass.now.number c.args.asked.now (w.0 ++ f.later) c.args.driver.value.p r (StandsFor g.D.Disk.told g.D.Disk.state (opening_of g.D.Disk.state c.args.turns.now.first) c.cut.new.state ((w.0 ++ f.later) ++ entry c.args.pass.now.number Restart Cut ∷ [])) t
    (λ x. c.cut.ensures.unread (opening_of g.D.Disk.state c.args.turns.now.first) c.args.pass.now.number (w.0 ++ f.later) c.args.asked.now st x) (λ x. c.cut.ensures.cut (opening_of g.D.Disk.state c.args.turns.now.first) c.args.pass.now.number (w.0 ++ f.later) c.args.asked.now r st x) in
    let e = entry c.args.pass.now.number Restart Cut in
    subst (λ (l : List Entry). RestartCutIs (opening_of g.D.Disk.state c.args.turns.now.first) c.args.pass.now.number l c.args.asked.now c.leave.new.pass.seen) (saw_once (opening_of g.D.Disk.state c.args.turns.now.first) c.args.pass.now.seen w.0 h w.1 saw) (
      turned g.D.Disk.told g.D.Disk.state (opening_of g.D.Disk.state c.args.turns.now.first) c.args.pass.now.number w.0 c.enter-turn.result.state c.enter-turn.result.seen f c.cut.new.state e c.leave.new.pass.seen at (seen_own g.D.Disk.told g.D.Disk.state (opening_of g.D.Disk.state c.args.turns.now.first) c.args.pass.now.number w.0 c.enter-turn.result.state c.enter-turn.result.seen f c.number-place.result Restart Cut c.leave.new.pass.seen (c.number-place.ensures ∙ c.enter-turn.ensures.out.0) c.leave.ensures.seen),
      restart_cut_due g.D.Disk.told g.D.Disk.state (opening_of g.D.Disk.state c.args.turns.now.first) c.args.pass.now.number c.args.asked.now (w.0 ++ f.later) c.args.driver.value.p r t,
    )

pub returns-clause-pass : goal.returns-clause-pass
returns-clause-pass g c =
    left_pass codes place_of c.args.turns.now c.args.pass.now c.enter-turn.new.pass c.leave.new.pass c.enter-turn.result _ c.requires.pass c.enter-turn.ensures.turn.1 (found_more c.enter-turn.ensures.found) c.enter-turn.ensures.dated c.enter-turn.ensures.out c.leave.ensures.pass c.leave.ensures.heard c.leave.ensures.dated c.leave.ensures.seen
    (numbered_own g.D.Disk.told g.D.Disk.state (opening_of g.D.Disk.state c.args.turns.now.first) c.enter-turn.result.own c.args.turns.now.passes c.args.pass.now.seen c.enter-turn.result.seen c.enter-turn.result.state c.enter-turn.ensures.found c.args.pass.now.number c.number-place.result Restart Cut c.leave.new.pass.seen (c.number-place.ensures ∙ c.enter-turn.ensures.out.0) c.requires.pass.2 c.leave.ensures.seen)

pub returns-clause-astray : goal.returns-clause-astray
returns-clause-astray g c =
    let w = c.requires.restart in
    let f = found_at g.D.Disk.told g.D.Disk.state (opening_of g.D.Disk.state c.args.turns.now.first) c.args.pass.now.number c.enter-turn.result.own c.args.turns.now.passes w.0 c.args.pass.now.seen c.enter-turn.result.seen c.enter-turn.result.state c.enter-turn.ensures.turn.1 c.enter-turn.ensures.found w.1.codes_are in
    let st = subst (λ (s : State g.row.D.Denot). StandsFor g.D.Disk.told g.D.Disk.state (opening_of g.D.Disk.state c.args.turns.now.first) s (w.0 ++ f.later)) (sym c.state_mut.ensures.value) f.stands in
    let r = c.args.driver.value.rolling in
    let t = restart_cut_since g.D.Disk.told g.D.Disk.state (opening_of g.D.Disk.state c.args.turns.now.first) c.args.pass.now.number c.args.asked.now w.0 f.later c.args.driver.value.p r f.others f.stands.turns w.2 in
    let at = restart_cut_by g.D.Disk.told g.D.Disk.state (opening_of g.D.Disk.state c.args.turns.now.first) c.args.pass.now.number c.args.asked.now (w.0 ++ f.later) c.args.driver.value.p r (StandsFor g.D.Disk.told g.D.Disk.state (opening_of g.D.Disk.state c.args.turns.now.first) c.cut.new.state ((w.0 ++ f.later) ++ entry c.args.pass.now.number Restart Cut ∷ [])) t
    (λ x. c.cut.ensures.unread (opening_of g.D.Disk.state c.args.turns.now.first) c.args.pass.now.number (w.0 ++ f.later) c.args.asked.now st x) (λ x. c.cut.ensures.cut (opening_of g.D.Disk.state c.args.turns.now.first) c.args.pass.now.number (w.0 ++ f.later) c.args.asked.now r st x) in
    astray_own g.D.Disk.told g.D.Disk.state (opening_of g.D.Disk.state c.args.turns.now.first) c.args.pass.now.number w.0 c.enter-turn.result.state c.enter-turn.result.seen f c.cut.new.state c.number-place.result Restart Cut c.leave.new.pass.seen (c.number-place.ensures ∙ c.enter-turn.ensures.out.0) at c.leave.ensures.seen
