use Rattle.std.proofs.Common.{List, ◌++◌, sym, ◌∙◌, ap, subst}
use Rattle.turnstile.proofs.Places.{back_pass, found_more, left_pass}
use Rattle.dxc_model.specs.declared.entry.Entry.{Entry}
use Rattle.xc_core.specs.declared.state.State.{State}
use Rattle.xc_core.specs.Seeing.{codes, place_of}
use Rattle.xc_core.specs.States.{StandsFor, opening_of}
use Rattle.xc_core.specs.Turns.{HoldIs}
use Rattle.xc_core.proofs.Turning.{astray_back, astray_own, back_stands, found_at, held_back, held_entry, held_stands, leave_stands, not_held_stands, numbered_back, numbered_own, saw_once, seen_own}
use Rattle.xc_core.proofs.restarts.hold.Goals as goal

pub hold-held-requires : goal.hold-held-requires
hold-held-requires g c =
    let w = c.requires.seen in
    let f = found_at g.D.Disk.told g.D.Disk.state (opening_of g.D.Disk.state c.args.turns.now.first) c.args.pass.now.number c.enter-turn.result.own c.args.turns.now.passes w.0 c.args.pass.now.seen c.enter-turn.result.seen c.enter-turn.result.state c.enter-turn.ensures.turn.1 c.enter-turn.ensures.found w.1.codes_are in
    let st = subst (λ (s : State g.row.D.Denot). StandsFor g.D.Disk.told g.D.Disk.state (opening_of g.D.Disk.state c.args.turns.now.first) s (w.0 ++ f.later)) (sym c.state_mut.ensures.value) f.stands in
    record { stands = ((opening_of g.D.Disk.state c.args.turns.now.first), w.0 ++ f.later, st) }

pub leave-requires-clause-stands : goal.leave-requires-clause-stands
leave-requires-clause-stands g c =
    let w = c.requires.seen in
    let f = found_at g.D.Disk.told g.D.Disk.state (opening_of g.D.Disk.state c.args.turns.now.first) c.args.pass.now.number c.enter-turn.result.own c.args.turns.now.passes w.0 c.args.pass.now.seen c.enter-turn.result.seen c.enter-turn.result.state c.enter-turn.ensures.turn.1 c.enter-turn.ensures.found w.1.codes_are in
    let st = subst (λ (s : State g.row.D.Denot). StandsFor g.D.Disk.told g.D.Disk.state (opening_of g.D.Disk.state c.args.turns.now.first) s (w.0 ++ f.later)) (sym c.state_mut.ensures.value) f.stands in
    let at = c.hold-held.ensures.held (opening_of g.D.Disk.state c.args.turns.now.first) c.args.pass.now.number (w.0 ++ f.later) st in
    let origin = c.hold-held.ensures.origin ∙ ap (λ (s : State g.row.D.Denot). s.origin) c.state_mut.ensures.value in
    let is = sym c.entry_of.ensures ∙ c.in-Some.is in
    leave_stands g.D.Disk.told g.D.Disk.state (opening_of g.D.Disk.state c.args.turns.now.first) c.args.pass.now.number w.0 c.enter-turn.result.state c.enter-turn.result.seen f c.hold-held.new.state c.number-place.result c.in-Some.op c.in-Some.outcome (c.number-place.ensures ∙ c.enter-turn.ensures.out.0) origin (held_stands g.D.Disk.told g.D.Disk.state (opening_of g.D.Disk.state c.args.turns.now.first) c.args.pass.now.number w.0 c.enter-turn.result.state c.enter-turn.result.seen f c.args.asked.now c.hold-held.new.state c.hold-held.result c.in-Some.op c.in-Some.outcome is at)

pub back-requires-clause-stands : goal.back-requires-clause-stands
back-requires-clause-stands g c =
    let w = c.requires.seen in
    let f = found_at g.D.Disk.told g.D.Disk.state (opening_of g.D.Disk.state c.args.turns.now.first) c.args.pass.now.number c.enter-turn.result.own c.args.turns.now.passes w.0 c.args.pass.now.seen c.enter-turn.result.seen c.enter-turn.result.state c.enter-turn.ensures.turn.1 c.enter-turn.ensures.found w.1.codes_are in
    let st = subst (λ (s : State g.row.D.Denot). StandsFor g.D.Disk.told g.D.Disk.state (opening_of g.D.Disk.state c.args.turns.now.first) s (w.0 ++ f.later)) (sym c.state_mut.ensures.value) f.stands in
    let at = c.hold-held.ensures.held (opening_of g.D.Disk.state c.args.turns.now.first) c.args.pass.now.number (w.0 ++ f.later) st in
    let origin = c.hold-held.ensures.origin ∙ ap (λ (s : State g.row.D.Denot). s.origin) c.state_mut.ensures.value in
    let is = sym c.entry_of.ensures ∙ c.in-None.is in
    back_stands g.D.Disk.told g.D.Disk.state (opening_of g.D.Disk.state c.args.turns.now.first) c.args.pass.now.number w.0 c.enter-turn.result.state c.enter-turn.result.seen f c.hold-held.new.state origin (not_held_stands g.D.Disk.told g.D.Disk.state (opening_of g.D.Disk.state c.args.turns.now.first) c.args.pass.now.number w.0 c.enter-turn.result.state c.enter-turn.result.seen f c.args.asked.now c.hold-held.new.state c.hold-held.result is at)

pub returns-in-Some-clause-held : goal.returns-in-Some-clause-held
returns-in-Some-clause-held g c = λ h saw.
    let w = c.requires.seen in
    let f = found_at g.D.Disk.told g.D.Disk.state (opening_of g.D.Disk.state c.args.turns.now.first) c.args.pass.now.number c.enter-turn.result.own c.args.turns.now.passes w.0 c.args.pass.now.seen c.enter-turn.result.seen c.enter-turn.result.state c.enter-turn.ensures.turn.1 c.enter-turn.ensures.found w.1.codes_are in
    let st = subst (λ (s : State g.row.D.Denot). StandsFor g.D.Disk.told g.D.Disk.state (opening_of g.D.Disk.state c.args.turns.now.first) s (w.0 ++ f.later)) (sym c.state_mut.ensures.value) f.stands in
    let at = c.hold-held.ensures.held (opening_of g.D.Disk.state c.args.turns.now.first) c.args.pass.now.number (w.0 ++ f.later) st in
    let is = sym c.entry_of.ensures ∙ c.in-Some.is in
    subst (λ (l : List Entry). HoldIs g.D.Disk.told g.D.Disk.state (opening_of g.D.Disk.state c.args.turns.now.first) c.args.pass.now.number l c.args.asked.now c.leave.new.pass.seen c.hold-held.result) (saw_once (opening_of g.D.Disk.state c.args.turns.now.first) c.args.pass.now.seen w.0 h w.1 saw)
    (held_entry g.D.Disk.told g.D.Disk.state (opening_of g.D.Disk.state c.args.turns.now.first) c.args.pass.now.number w.0 c.enter-turn.result.state c.enter-turn.result.seen f c.args.asked.now c.hold-held.new.state c.hold-held.result c.in-Some.op c.in-Some.outcome c.leave.new.pass.seen is at (seen_own g.D.Disk.told g.D.Disk.state (opening_of g.D.Disk.state c.args.turns.now.first) c.args.pass.now.number w.0 c.enter-turn.result.state c.enter-turn.result.seen f c.number-place.result c.in-Some.op c.in-Some.outcome c.leave.new.pass.seen (c.number-place.ensures ∙ c.enter-turn.ensures.out.0) c.leave.ensures.seen))

pub returns-in-None-clause-held : goal.returns-in-None-clause-held
returns-in-None-clause-held g c = λ h saw.
    let w = c.requires.seen in
    let f = found_at g.D.Disk.told g.D.Disk.state (opening_of g.D.Disk.state c.args.turns.now.first) c.args.pass.now.number c.enter-turn.result.own c.args.turns.now.passes w.0 c.args.pass.now.seen c.enter-turn.result.seen c.enter-turn.result.state c.enter-turn.ensures.turn.1 c.enter-turn.ensures.found w.1.codes_are in
    let st = subst (λ (s : State g.row.D.Denot). StandsFor g.D.Disk.told g.D.Disk.state (opening_of g.D.Disk.state c.args.turns.now.first) s (w.0 ++ f.later)) (sym c.state_mut.ensures.value) f.stands in
    let at = c.hold-held.ensures.held (opening_of g.D.Disk.state c.args.turns.now.first) c.args.pass.now.number (w.0 ++ f.later) st in
    let is = sym c.entry_of.ensures ∙ c.in-None.is in
    subst (λ (l : List Entry). HoldIs g.D.Disk.told g.D.Disk.state (opening_of g.D.Disk.state c.args.turns.now.first) c.args.pass.now.number l c.args.asked.now c.back.new.pass.seen c.hold-held.result) (saw_once (opening_of g.D.Disk.state c.args.turns.now.first) c.args.pass.now.seen w.0 h w.1 saw)
    (held_back g.D.Disk.told g.D.Disk.state (opening_of g.D.Disk.state c.args.turns.now.first) c.args.pass.now.number w.0 c.enter-turn.result.state c.enter-turn.result.seen f c.args.asked.now c.hold-held.new.state c.hold-held.result c.back.new.pass.seen is at c.back.ensures.seen)

pub returns-in-Some-clause-pass : goal.returns-in-Some-clause-pass
returns-in-Some-clause-pass g c =
    left_pass codes place_of c.args.turns.now c.args.pass.now c.enter-turn.new.pass c.leave.new.pass c.enter-turn.result _ c.requires.pass c.enter-turn.ensures.turn.1 (found_more c.enter-turn.ensures.found) c.enter-turn.ensures.dated c.enter-turn.ensures.out c.leave.ensures.pass c.leave.ensures.heard c.leave.ensures.dated c.leave.ensures.seen
    (numbered_own g.D.Disk.told g.D.Disk.state (opening_of g.D.Disk.state c.args.turns.now.first) c.enter-turn.result.own c.args.turns.now.passes c.args.pass.now.seen c.enter-turn.result.seen c.enter-turn.result.state c.enter-turn.ensures.found c.args.pass.now.number c.number-place.result c.in-Some.op c.in-Some.outcome c.leave.new.pass.seen (c.number-place.ensures ∙ c.enter-turn.ensures.out.0) c.requires.pass.2 c.leave.ensures.seen)

pub returns-in-None-clause-pass : goal.returns-in-None-clause-pass
returns-in-None-clause-pass g c =
    back_pass codes place_of c.args.turns.now c.args.pass.now c.enter-turn.new.pass c.back.new.pass c.enter-turn.result c.requires.pass c.enter-turn.ensures.turn.1 (found_more c.enter-turn.ensures.found) c.enter-turn.ensures.dated c.enter-turn.ensures.out c.back.ensures.pass c.back.ensures.heard c.back.ensures.dated c.back.ensures.seen
    (numbered_back g.D.Disk.told g.D.Disk.state (opening_of g.D.Disk.state c.args.turns.now.first) c.enter-turn.result.own c.args.turns.now.passes c.args.pass.now.seen c.enter-turn.result.seen c.enter-turn.result.state c.enter-turn.ensures.found c.back.new.pass.seen c.back.ensures.seen)

pub returns-in-Some-clause-astray : goal.returns-in-Some-clause-astray
returns-in-Some-clause-astray g c =
    let w = c.requires.seen in
    let f = found_at g.D.Disk.told g.D.Disk.state (opening_of g.D.Disk.state c.args.turns.now.first) c.args.pass.now.number c.enter-turn.result.own c.args.turns.now.passes w.0 c.args.pass.now.seen c.enter-turn.result.seen c.enter-turn.result.state c.enter-turn.ensures.turn.1 c.enter-turn.ensures.found w.1.codes_are in
    let st = subst (λ (s : State g.row.D.Denot). StandsFor g.D.Disk.told g.D.Disk.state (opening_of g.D.Disk.state c.args.turns.now.first) s (w.0 ++ f.later)) (sym c.state_mut.ensures.value) f.stands in
    let at = c.hold-held.ensures.held (opening_of g.D.Disk.state c.args.turns.now.first) c.args.pass.now.number (w.0 ++ f.later) st in
    let is = sym c.entry_of.ensures ∙ c.in-Some.is in
    astray_own g.D.Disk.told g.D.Disk.state (opening_of g.D.Disk.state c.args.turns.now.first) c.args.pass.now.number w.0 c.enter-turn.result.state c.enter-turn.result.seen f c.hold-held.new.state c.number-place.result c.in-Some.op c.in-Some.outcome c.leave.new.pass.seen (c.number-place.ensures ∙ c.enter-turn.ensures.out.0) (held_stands g.D.Disk.told g.D.Disk.state (opening_of g.D.Disk.state c.args.turns.now.first) c.args.pass.now.number w.0 c.enter-turn.result.state c.enter-turn.result.seen f c.args.asked.now c.hold-held.new.state c.hold-held.result c.in-Some.op c.in-Some.outcome is at) c.leave.ensures.seen

pub returns-in-None-clause-astray : goal.returns-in-None-clause-astray
returns-in-None-clause-astray g c =
    let w = c.requires.seen in
    let f = found_at g.D.Disk.told g.D.Disk.state (opening_of g.D.Disk.state c.args.turns.now.first) c.args.pass.now.number c.enter-turn.result.own c.args.turns.now.passes w.0 c.args.pass.now.seen c.enter-turn.result.seen c.enter-turn.result.state c.enter-turn.ensures.turn.1 c.enter-turn.ensures.found w.1.codes_are in
    let st = subst (λ (s : State g.row.D.Denot). StandsFor g.D.Disk.told g.D.Disk.state (opening_of g.D.Disk.state c.args.turns.now.first) s (w.0 ++ f.later)) (sym c.state_mut.ensures.value) f.stands in
    let at = c.hold-held.ensures.held (opening_of g.D.Disk.state c.args.turns.now.first) c.args.pass.now.number (w.0 ++ f.later) st in
    let is = sym c.entry_of.ensures ∙ c.in-None.is in
    astray_back g.D.Disk.told g.D.Disk.state (opening_of g.D.Disk.state c.args.turns.now.first) c.args.pass.now.number w.0 c.enter-turn.result.state c.enter-turn.result.seen f c.hold-held.new.state c.back.new.pass.seen (not_held_stands g.D.Disk.told g.D.Disk.state (opening_of g.D.Disk.state c.args.turns.now.first) c.args.pass.now.number w.0 c.enter-turn.result.state c.enter-turn.result.seen f c.args.asked.now c.hold-held.new.state c.hold-held.result is at) c.back.ensures.seen
