use Rattle.std.proofs.Common.{List, Some, ◌++◌, sym, ◌∙◌, ap, subst}
use Rattle.turnstile.proofs.Places.{back_pass, found_more, left_pass}
use Rattle.dxc_num.specs.Dimensions.{Dimensions}
use Rattle.dxc_model.specs.declared.entry.Entry.{Entry}
use Rattle.dxc_model.specs.declared.entry.Outcome.{Outcome}
use Rattle.dxc_model.specs.Operations.{IsApt}
use Rattle.xc_core.specs.declared.state.State.{State}
use Rattle.xc_core.specs.Seeing.{codes, place_of}
use Rattle.xc_core.specs.States.{StandsFor, opening_of}
use Rattle.xc_core.specs.declared.turns.Took.{Took}
use Rattle.xc_core.specs.Turns.{TookIs, outcome_of}
use Rattle.xc_core.proofs.Turning.{astray_back, astray_own, back_stands, found_at, leave_stands, numbered_back, numbered_own, saw_once, seen_own, state_shape, taken_stands, took_back, took_entry, waits_stands}
use Rattle.xc_core.proofs.turns.changes.take.Goals as goal

pub take-took-requires-clause-apt : goal.take-took-requires-clause-apt
take-took-requires-clause-apt g c =
    let w = c.requires.seen in
    let f = found_at g.D.Disk.told g.D.Disk.state (opening_of g.D.Disk.state c.args.turns.now.first) c.args.pass.now.number c.enter-turn.result.own c.args.turns.now.passes w.0 c.args.pass.now.seen c.enter-turn.result.seen c.enter-turn.result.state c.enter-turn.ensures.turn.1 c.enter-turn.ensures.found w.1.codes_are in
    subst (λ (d : Dimensions). IsApt d c.args.op.now) (sym (ap (λ (s : State g.row.D.Denot). s.table.shape) c.state_mut.ensures.value ∙ state_shape g.D.Disk.told g.D.Disk.state (opening_of g.D.Disk.state c.args.turns.now.first) c.enter-turn.result.state (w.0 ++ f.later) f.stands)) c.requires.apt

pub leave-requires-clause-stands : goal.leave-requires-clause-stands
leave-requires-clause-stands g c =
    let w = c.requires.seen in
    let f = found_at g.D.Disk.told g.D.Disk.state (opening_of g.D.Disk.state c.args.turns.now.first) c.args.pass.now.number c.enter-turn.result.own c.args.turns.now.passes w.0 c.args.pass.now.seen c.enter-turn.result.seen c.enter-turn.result.state c.enter-turn.ensures.turn.1 c.enter-turn.ensures.found w.1.codes_are in
    let st = subst (λ (s : State g.row.D.Denot). StandsFor g.D.Disk.told g.D.Disk.state (opening_of g.D.Disk.state c.args.turns.now.first) s (w.0 ++ f.later)) (sym c.state_mut.ensures.value) f.stands in
    let at = c.take-took.ensures.took (opening_of g.D.Disk.state c.args.turns.now.first) c.args.pass.now.number (w.0 ++ f.later) st in
    let origin = c.take-took.ensures.origin ∙ ap (λ (s : State g.row.D.Denot). s.origin) c.state_mut.ensures.value in
    let is = ap (λ (r : Took g.row.D.Denot). outcome_of r) c.in-Denied.is ∙ ap (λ (x : Outcome). Some x) (sym c.refused-outcome.ensures) in
    leave_stands g.D.Disk.told g.D.Disk.state (opening_of g.D.Disk.state c.args.turns.now.first) c.args.pass.now.number w.0 c.enter-turn.result.state c.enter-turn.result.seen f c.take-took.new.state c.number-place.result c.args.op.now c.refused-outcome.result (c.number-place.ensures ∙ c.enter-turn.ensures.out.0) origin (taken_stands g.D.Disk.told g.D.Disk.state (opening_of g.D.Disk.state c.args.turns.now.first) c.args.pass.now.number w.0 c.enter-turn.result.state c.enter-turn.result.seen f c.args.op.now c.take-took.new.state c.take-took.result c.refused-outcome.result is at)

pub returns-in-Denied-clause-took : goal.returns-in-Denied-clause-took
returns-in-Denied-clause-took g c = λ h saw.
    let w = c.requires.seen in
    let f = found_at g.D.Disk.told g.D.Disk.state (opening_of g.D.Disk.state c.args.turns.now.first) c.args.pass.now.number c.enter-turn.result.own c.args.turns.now.passes w.0 c.args.pass.now.seen c.enter-turn.result.seen c.enter-turn.result.state c.enter-turn.ensures.turn.1 c.enter-turn.ensures.found w.1.codes_are in
    let st = subst (λ (s : State g.row.D.Denot). StandsFor g.D.Disk.told g.D.Disk.state (opening_of g.D.Disk.state c.args.turns.now.first) s (w.0 ++ f.later)) (sym c.state_mut.ensures.value) f.stands in
    let at = c.take-took.ensures.took (opening_of g.D.Disk.state c.args.turns.now.first) c.args.pass.now.number (w.0 ++ f.later) st in
    let origin = c.take-took.ensures.origin ∙ ap (λ (s : State g.row.D.Denot). s.origin) c.state_mut.ensures.value in
    let is = ap (λ (r : Took g.row.D.Denot). outcome_of r) c.in-Denied.is ∙ ap (λ (x : Outcome). Some x) (sym c.refused-outcome.ensures) in
    subst (λ (r : Took g.row.D.Denot). TookIs g.D.Disk.told g.D.Disk.state (opening_of g.D.Disk.state c.args.turns.now.first) c.args.pass.now.number h c.args.op.now c.leave.new.pass.seen r) c.in-Denied.is
    (subst (λ (l : List Entry). TookIs g.D.Disk.told g.D.Disk.state (opening_of g.D.Disk.state c.args.turns.now.first) c.args.pass.now.number l c.args.op.now c.leave.new.pass.seen c.take-took.result) (saw_once (opening_of g.D.Disk.state c.args.turns.now.first) c.args.pass.now.seen w.0 h w.1 saw)
    (took_entry g.D.Disk.told g.D.Disk.state (opening_of g.D.Disk.state c.args.turns.now.first) c.args.pass.now.number w.0 c.enter-turn.result.state c.enter-turn.result.seen f c.args.op.now c.take-took.new.state c.take-took.result c.refused-outcome.result c.leave.new.pass.seen is at (seen_own g.D.Disk.told g.D.Disk.state (opening_of g.D.Disk.state c.args.turns.now.first) c.args.pass.now.number w.0 c.enter-turn.result.state c.enter-turn.result.seen f c.number-place.result c.args.op.now c.refused-outcome.result c.leave.new.pass.seen (c.number-place.ensures ∙ c.enter-turn.ensures.out.0) c.leave.ensures.seen)))

pub returns-in-Denied-clause-pass : goal.returns-in-Denied-clause-pass
returns-in-Denied-clause-pass g c =
    left_pass codes place_of c.args.turns.now c.args.pass.now c.enter-turn.new.pass c.leave.new.pass c.enter-turn.result _ c.requires.pass c.enter-turn.ensures.turn.1 (found_more c.enter-turn.ensures.found) c.enter-turn.ensures.dated c.enter-turn.ensures.out c.leave.ensures.pass c.leave.ensures.heard c.leave.ensures.dated c.leave.ensures.seen
    (numbered_own g.D.Disk.told g.D.Disk.state (opening_of g.D.Disk.state c.args.turns.now.first) c.enter-turn.result.own c.args.turns.now.passes c.args.pass.now.seen c.enter-turn.result.seen c.enter-turn.result.state c.enter-turn.ensures.found c.args.pass.now.number c.number-place.result c.args.op.now c.refused-outcome.result c.leave.new.pass.seen (c.number-place.ensures ∙ c.enter-turn.ensures.out.0) c.requires.pass.2 c.leave.ensures.seen)

pub returns-in-Denied-clause-astray : goal.returns-in-Denied-clause-astray
returns-in-Denied-clause-astray g c =
    let w = c.requires.seen in
    let f = found_at g.D.Disk.told g.D.Disk.state (opening_of g.D.Disk.state c.args.turns.now.first) c.args.pass.now.number c.enter-turn.result.own c.args.turns.now.passes w.0 c.args.pass.now.seen c.enter-turn.result.seen c.enter-turn.result.state c.enter-turn.ensures.turn.1 c.enter-turn.ensures.found w.1.codes_are in
    let st = subst (λ (s : State g.row.D.Denot). StandsFor g.D.Disk.told g.D.Disk.state (opening_of g.D.Disk.state c.args.turns.now.first) s (w.0 ++ f.later)) (sym c.state_mut.ensures.value) f.stands in
    let at = c.take-took.ensures.took (opening_of g.D.Disk.state c.args.turns.now.first) c.args.pass.now.number (w.0 ++ f.later) st in
    let is = ap (λ (r : Took g.row.D.Denot). outcome_of r) c.in-Denied.is ∙ ap (λ (x : Outcome). Some x) (sym c.refused-outcome.ensures) in
    astray_own g.D.Disk.told g.D.Disk.state (opening_of g.D.Disk.state c.args.turns.now.first) c.args.pass.now.number w.0 c.enter-turn.result.state c.enter-turn.result.seen f c.take-took.new.state c.number-place.result c.args.op.now c.refused-outcome.result c.leave.new.pass.seen (c.number-place.ensures ∙ c.enter-turn.ensures.out.0) (taken_stands g.D.Disk.told g.D.Disk.state (opening_of g.D.Disk.state c.args.turns.now.first) c.args.pass.now.number w.0 c.enter-turn.result.state c.enter-turn.result.seen f c.args.op.now c.take-took.new.state c.take-took.result c.refused-outcome.result is at) c.leave.ensures.seen

pub leave-requires-in-Some-clause-stands : goal.leave-requires-in-Some-clause-stands
leave-requires-in-Some-clause-stands g c =
    let w = c.requires.seen in
    let f = found_at g.D.Disk.told g.D.Disk.state (opening_of g.D.Disk.state c.args.turns.now.first) c.args.pass.now.number c.enter-turn.result.own c.args.turns.now.passes w.0 c.args.pass.now.seen c.enter-turn.result.seen c.enter-turn.result.state c.enter-turn.ensures.turn.1 c.enter-turn.ensures.found w.1.codes_are in
    let st = subst (λ (s : State g.row.D.Denot). StandsFor g.D.Disk.told g.D.Disk.state (opening_of g.D.Disk.state c.args.turns.now.first) s (w.0 ++ f.later)) (sym c.state_mut.ensures.value) f.stands in
    let at = c.take-took.ensures.took (opening_of g.D.Disk.state c.args.turns.now.first) c.args.pass.now.number (w.0 ++ f.later) st in
    let origin = c.take-took.ensures.origin ∙ ap (λ (s : State g.row.D.Denot). s.origin) c.state_mut.ensures.value in
    let is = sym c.outcome_of.ensures ∙ c.in-Some.is in
    leave_stands g.D.Disk.told g.D.Disk.state (opening_of g.D.Disk.state c.args.turns.now.first) c.args.pass.now.number w.0 c.enter-turn.result.state c.enter-turn.result.seen f c.take-took.new.state c.number-place.result c.args.op.now c.in-Some.outcome (c.number-place.ensures ∙ c.enter-turn.ensures.out.0) origin (taken_stands g.D.Disk.told g.D.Disk.state (opening_of g.D.Disk.state c.args.turns.now.first) c.args.pass.now.number w.0 c.enter-turn.result.state c.enter-turn.result.seen f c.args.op.now c.take-took.new.state c.take-took.result c.in-Some.outcome is at)

pub back-requires-clause-stands : goal.back-requires-clause-stands
back-requires-clause-stands g c =
    let w = c.requires.seen in
    let f = found_at g.D.Disk.told g.D.Disk.state (opening_of g.D.Disk.state c.args.turns.now.first) c.args.pass.now.number c.enter-turn.result.own c.args.turns.now.passes w.0 c.args.pass.now.seen c.enter-turn.result.seen c.enter-turn.result.state c.enter-turn.ensures.turn.1 c.enter-turn.ensures.found w.1.codes_are in
    let st = subst (λ (s : State g.row.D.Denot). StandsFor g.D.Disk.told g.D.Disk.state (opening_of g.D.Disk.state c.args.turns.now.first) s (w.0 ++ f.later)) (sym c.state_mut.ensures.value) f.stands in
    let at = c.take-took.ensures.took (opening_of g.D.Disk.state c.args.turns.now.first) c.args.pass.now.number (w.0 ++ f.later) st in
    let origin = c.take-took.ensures.origin ∙ ap (λ (s : State g.row.D.Denot). s.origin) c.state_mut.ensures.value in
    let is = sym c.outcome_of.ensures ∙ c.in-None.is in
    back_stands g.D.Disk.told g.D.Disk.state (opening_of g.D.Disk.state c.args.turns.now.first) c.args.pass.now.number w.0 c.enter-turn.result.state c.enter-turn.result.seen f c.take-took.new.state origin (waits_stands g.D.Disk.told g.D.Disk.state (opening_of g.D.Disk.state c.args.turns.now.first) c.args.pass.now.number w.0 c.enter-turn.result.state c.enter-turn.result.seen f c.args.op.now c.take-took.new.state c.take-took.result is at)

pub returns-in-Some-clause-took : goal.returns-in-Some-clause-took
returns-in-Some-clause-took g c = λ h saw.
    let w = c.requires.seen in
    let f = found_at g.D.Disk.told g.D.Disk.state (opening_of g.D.Disk.state c.args.turns.now.first) c.args.pass.now.number c.enter-turn.result.own c.args.turns.now.passes w.0 c.args.pass.now.seen c.enter-turn.result.seen c.enter-turn.result.state c.enter-turn.ensures.turn.1 c.enter-turn.ensures.found w.1.codes_are in
    let st = subst (λ (s : State g.row.D.Denot). StandsFor g.D.Disk.told g.D.Disk.state (opening_of g.D.Disk.state c.args.turns.now.first) s (w.0 ++ f.later)) (sym c.state_mut.ensures.value) f.stands in
    let at = c.take-took.ensures.took (opening_of g.D.Disk.state c.args.turns.now.first) c.args.pass.now.number (w.0 ++ f.later) st in
    let origin = c.take-took.ensures.origin ∙ ap (λ (s : State g.row.D.Denot). s.origin) c.state_mut.ensures.value in
    let is = sym c.outcome_of.ensures ∙ c.in-Some.is in
    subst (λ (l : List Entry). TookIs g.D.Disk.told g.D.Disk.state (opening_of g.D.Disk.state c.args.turns.now.first) c.args.pass.now.number l c.args.op.now c.leave-in-Some.new.pass.seen c.take-took.result) (saw_once (opening_of g.D.Disk.state c.args.turns.now.first) c.args.pass.now.seen w.0 h w.1 saw)
    (took_entry g.D.Disk.told g.D.Disk.state (opening_of g.D.Disk.state c.args.turns.now.first) c.args.pass.now.number w.0 c.enter-turn.result.state c.enter-turn.result.seen f c.args.op.now c.take-took.new.state c.take-took.result c.in-Some.outcome c.leave-in-Some.new.pass.seen is at (seen_own g.D.Disk.told g.D.Disk.state (opening_of g.D.Disk.state c.args.turns.now.first) c.args.pass.now.number w.0 c.enter-turn.result.state c.enter-turn.result.seen f c.number-place.result c.args.op.now c.in-Some.outcome c.leave-in-Some.new.pass.seen (c.number-place.ensures ∙ c.enter-turn.ensures.out.0) c.leave-in-Some.ensures.seen))

pub returns-in-None-clause-took : goal.returns-in-None-clause-took
returns-in-None-clause-took g c = λ h saw.
    let w = c.requires.seen in
    let f = found_at g.D.Disk.told g.D.Disk.state (opening_of g.D.Disk.state c.args.turns.now.first) c.args.pass.now.number c.enter-turn.result.own c.args.turns.now.passes w.0 c.args.pass.now.seen c.enter-turn.result.seen c.enter-turn.result.state c.enter-turn.ensures.turn.1 c.enter-turn.ensures.found w.1.codes_are in
    let st = subst (λ (s : State g.row.D.Denot). StandsFor g.D.Disk.told g.D.Disk.state (opening_of g.D.Disk.state c.args.turns.now.first) s (w.0 ++ f.later)) (sym c.state_mut.ensures.value) f.stands in
    let at = c.take-took.ensures.took (opening_of g.D.Disk.state c.args.turns.now.first) c.args.pass.now.number (w.0 ++ f.later) st in
    let origin = c.take-took.ensures.origin ∙ ap (λ (s : State g.row.D.Denot). s.origin) c.state_mut.ensures.value in
    let is = sym c.outcome_of.ensures ∙ c.in-None.is in
    subst (λ (l : List Entry). TookIs g.D.Disk.told g.D.Disk.state (opening_of g.D.Disk.state c.args.turns.now.first) c.args.pass.now.number l c.args.op.now c.back.new.pass.seen c.take-took.result) (saw_once (opening_of g.D.Disk.state c.args.turns.now.first) c.args.pass.now.seen w.0 h w.1 saw)
    (took_back g.D.Disk.told g.D.Disk.state (opening_of g.D.Disk.state c.args.turns.now.first) c.args.pass.now.number w.0 c.enter-turn.result.state c.enter-turn.result.seen f c.args.op.now c.take-took.new.state c.take-took.result c.back.new.pass.seen is at c.back.ensures.seen)

pub returns-in-Some-clause-pass : goal.returns-in-Some-clause-pass
returns-in-Some-clause-pass g c =
    left_pass codes place_of c.args.turns.now c.args.pass.now c.enter-turn.new.pass c.leave-in-Some.new.pass c.enter-turn.result _ c.requires.pass c.enter-turn.ensures.turn.1 (found_more c.enter-turn.ensures.found) c.enter-turn.ensures.dated c.enter-turn.ensures.out c.leave-in-Some.ensures.pass c.leave-in-Some.ensures.heard c.leave-in-Some.ensures.dated c.leave-in-Some.ensures.seen
    (numbered_own g.D.Disk.told g.D.Disk.state (opening_of g.D.Disk.state c.args.turns.now.first) c.enter-turn.result.own c.args.turns.now.passes c.args.pass.now.seen c.enter-turn.result.seen c.enter-turn.result.state c.enter-turn.ensures.found c.args.pass.now.number c.number-place.result c.args.op.now c.in-Some.outcome c.leave-in-Some.new.pass.seen (c.number-place.ensures ∙ c.enter-turn.ensures.out.0) c.requires.pass.2 c.leave-in-Some.ensures.seen)

pub returns-in-None-clause-pass : goal.returns-in-None-clause-pass
returns-in-None-clause-pass g c =
    back_pass codes place_of c.args.turns.now c.args.pass.now c.enter-turn.new.pass c.back.new.pass c.enter-turn.result c.requires.pass c.enter-turn.ensures.turn.1 (found_more c.enter-turn.ensures.found) c.enter-turn.ensures.dated c.enter-turn.ensures.out c.back.ensures.pass c.back.ensures.heard c.back.ensures.dated c.back.ensures.seen
    (numbered_back g.D.Disk.told g.D.Disk.state (opening_of g.D.Disk.state c.args.turns.now.first) c.enter-turn.result.own c.args.turns.now.passes c.args.pass.now.seen c.enter-turn.result.seen c.enter-turn.result.state c.enter-turn.ensures.found c.back.new.pass.seen c.back.ensures.seen)

pub returns-in-Some-clause-astray : goal.returns-in-Some-clause-astray
returns-in-Some-clause-astray g c =
    let w = c.requires.seen in
    let f = found_at g.D.Disk.told g.D.Disk.state (opening_of g.D.Disk.state c.args.turns.now.first) c.args.pass.now.number c.enter-turn.result.own c.args.turns.now.passes w.0 c.args.pass.now.seen c.enter-turn.result.seen c.enter-turn.result.state c.enter-turn.ensures.turn.1 c.enter-turn.ensures.found w.1.codes_are in
    let st = subst (λ (s : State g.row.D.Denot). StandsFor g.D.Disk.told g.D.Disk.state (opening_of g.D.Disk.state c.args.turns.now.first) s (w.0 ++ f.later)) (sym c.state_mut.ensures.value) f.stands in
    let at = c.take-took.ensures.took (opening_of g.D.Disk.state c.args.turns.now.first) c.args.pass.now.number (w.0 ++ f.later) st in
    let is = sym c.outcome_of.ensures ∙ c.in-Some.is in
    astray_own g.D.Disk.told g.D.Disk.state (opening_of g.D.Disk.state c.args.turns.now.first) c.args.pass.now.number w.0 c.enter-turn.result.state c.enter-turn.result.seen f c.take-took.new.state c.number-place.result c.args.op.now c.in-Some.outcome c.leave-in-Some.new.pass.seen (c.number-place.ensures ∙ c.enter-turn.ensures.out.0) (taken_stands g.D.Disk.told g.D.Disk.state (opening_of g.D.Disk.state c.args.turns.now.first) c.args.pass.now.number w.0 c.enter-turn.result.state c.enter-turn.result.seen f c.args.op.now c.take-took.new.state c.take-took.result c.in-Some.outcome is at) c.leave-in-Some.ensures.seen

pub returns-in-None-clause-astray : goal.returns-in-None-clause-astray
returns-in-None-clause-astray g c =
    let w = c.requires.seen in
    let f = found_at g.D.Disk.told g.D.Disk.state (opening_of g.D.Disk.state c.args.turns.now.first) c.args.pass.now.number c.enter-turn.result.own c.args.turns.now.passes w.0 c.args.pass.now.seen c.enter-turn.result.seen c.enter-turn.result.state c.enter-turn.ensures.turn.1 c.enter-turn.ensures.found w.1.codes_are in
    let st = subst (λ (s : State g.row.D.Denot). StandsFor g.D.Disk.told g.D.Disk.state (opening_of g.D.Disk.state c.args.turns.now.first) s (w.0 ++ f.later)) (sym c.state_mut.ensures.value) f.stands in
    let at = c.take-took.ensures.took (opening_of g.D.Disk.state c.args.turns.now.first) c.args.pass.now.number (w.0 ++ f.later) st in
    let is = sym c.outcome_of.ensures ∙ c.in-None.is in
    astray_back g.D.Disk.told g.D.Disk.state (opening_of g.D.Disk.state c.args.turns.now.first) c.args.pass.now.number w.0 c.enter-turn.result.state c.enter-turn.result.seen f c.take-took.new.state c.back.new.pass.seen (waits_stands g.D.Disk.told g.D.Disk.state (opening_of g.D.Disk.state c.args.turns.now.first) c.args.pass.now.number w.0 c.enter-turn.result.state c.enter-turn.result.seen f c.args.op.now c.take-took.new.state c.take-took.result is at) c.back.ensures.seen
