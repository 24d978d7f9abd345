use Rattle.std.proofs.Common.{List, Option, Some, ◌++◌, refl, sym, ◌∙◌, ap, subst}
use Rattle.turnstile.proofs.Places.{back_pass, found_more, left_pass}
use Rattle.dxc_num.specs.Dimensions.{Dimensions}
use Rattle.dxc_model.specs.declared.cause.Cause.{Cause}
use Rattle.dxc_model.specs.declared.entry.Entry.{Entry}
use Rattle.dxc_model.specs.declared.entry.Outcome.{Outcome}
use Rattle.dxc_model.specs.Operations.{IsApt}
use Rattle.xc_core.specs.declared.state.State.{State}
use Rattle.xc_core.specs.declared.turns.Took.TheVariants as took
use Rattle.xc_core.specs.Seeing.{TurnedBack, codes, place_of}
use Rattle.xc_core.specs.States.{StandsFor, opening_of}
use Rattle.xc_core.specs.Turns.{TakenIs, TookIs}
use Rattle.xc_core.specs.Views.{DeniesIn}
use Rattle.xc_core.proofs.Turning.{astray_back, astray_own, back_stands, found_at, leave_stands, numbered_back, numbered_own, rests_behind, saw_once, seen_own, state_shape, taken_stands, took_entry, turned_back}
use Rattle.xc_core.proofs.turns.changes.deny.Goals as goal

pub deny-requires : goal.deny-requires
deny-requires g c =
    let w = c.requires.seen in
    let f = found_at g.D.Disk.told g.D.Disk.state (opening_of g.D.Disk.state c.args.turns.now.first) c.args.pass.now.number c.enter-turn.result.own c.args.turns.now.passes w.0 c.args.pass.now.seen c.enter-turn.result.seen c.enter-turn.result.state c.enter-turn.ensures.turn.1 c.enter-turn.ensures.found w.1.codes_are in
    record { apt = subst (λ (d : Dimensions). IsApt d c.args.op.now) (sym (ap (λ (s : State g.row.D.Denot). s.table.shape) c.state.ensures ∙ state_shape g.D.Disk.told g.D.Disk.state (opening_of g.D.Disk.state c.args.turns.now.first) c.enter-turn.result.state (w.0 ++ f.later) f.stands)) c.requires.apt }

pub leave-requires-clause-stands : goal.leave-requires-clause-stands
leave-requires-clause-stands g c =
    let w = c.requires.seen in
    let f = found_at g.D.Disk.told g.D.Disk.state (opening_of g.D.Disk.state c.args.turns.now.first) c.args.pass.now.number c.enter-turn.result.own c.args.turns.now.passes w.0 c.args.pass.now.seen c.enter-turn.result.seen c.enter-turn.result.state c.enter-turn.ensures.turn.1 c.enter-turn.ensures.found w.1.codes_are in
    let st = subst (λ (s : State g.row.D.Denot). StandsFor g.D.Disk.told g.D.Disk.state (opening_of g.D.Disk.state c.args.turns.now.first) s (w.0 ++ f.later)) (sym c.state.ensures) f.stands in
    let says = subst (λ (a : Option Cause). DeniesIn g.D.Disk c.args.op.now c.state.result.now a) c.in-Some.is c.deny.ensures.denied in
    let at = subst (λ (s : State g.row.D.Denot). TakenIs g.D.Disk.told g.D.Disk.state (opening_of g.D.Disk.state c.args.turns.now.first) c.args.pass.now.number (w.0 ++ f.later) c.args.op.now s (took.Denied c.in-Some.cause)) c.state.ensures (says (opening_of g.D.Disk.state c.args.turns.now.first) c.args.pass.now.number (w.0 ++ f.later) st (rests_behind c.args.pass.now.number w.0 f.later f.others w.2)) in
    let is = ap (λ (x : Outcome). Some x) (sym c.refused-outcome.ensures) in
    leave_stands g.D.Disk.told g.D.Disk.state (opening_of g.D.Disk.state c.args.turns.now.first) c.args.pass.now.number w.0 c.enter-turn.result.state c.enter-turn.result.seen f c.enter-turn.result.state c.number-place.result c.args.op.now c.refused-outcome.result (c.number-place.ensures ∙ c.enter-turn.ensures.out.0) refl (taken_stands g.D.Disk.told g.D.Disk.state (opening_of g.D.Disk.state c.args.turns.now.first) c.args.pass.now.number w.0 c.enter-turn.result.state c.enter-turn.result.seen f c.args.op.now c.enter-turn.result.state (took.Denied c.in-Some.cause) c.refused-outcome.result is at)

pub back-requires-clause-stands : goal.back-requires-clause-stands
back-requires-clause-stands g c =
    let w = c.requires.seen in
    let f = found_at g.D.Disk.told g.D.Disk.state (opening_of g.D.Disk.state c.args.turns.now.first) c.args.pass.now.number c.enter-turn.result.own c.args.turns.now.passes w.0 c.args.pass.now.seen c.enter-turn.result.seen c.enter-turn.result.state c.enter-turn.ensures.turn.1 c.enter-turn.ensures.found w.1.codes_are in
    back_stands g.D.Disk.told g.D.Disk.state (opening_of g.D.Disk.state c.args.turns.now.first) c.args.pass.now.number w.0 c.enter-turn.result.state c.enter-turn.result.seen f c.enter-turn.result.state refl f.stands

pub returns-in-Some-clause-denied : goal.returns-in-Some-clause-denied
returns-in-Some-clause-denied g c = λ h saw.
    let w = c.requires.seen in
    let f = found_at g.D.Disk.told g.D.Disk.state (opening_of g.D.Disk.state c.args.turns.now.first) c.args.pass.now.number c.enter-turn.result.own c.args.turns.now.passes w.0 c.args.pass.now.seen c.enter-turn.result.seen c.enter-turn.result.state c.enter-turn.ensures.turn.1 c.enter-turn.ensures.found w.1.codes_are in
    let st = subst (λ (s : State g.row.D.Denot). StandsFor g.D.Disk.told g.D.Disk.state (opening_of g.D.Disk.state c.args.turns.now.first) s (w.0 ++ f.later)) (sym c.state.ensures) f.stands in
    let says = subst (λ (a : Option Cause). DeniesIn g.D.Disk c.args.op.now c.state.result.now a) c.in-Some.is c.deny.ensures.denied in
    let at = subst (λ (s : State g.row.D.Denot). TakenIs g.D.Disk.told g.D.Disk.state (opening_of g.D.Disk.state c.args.turns.now.first) c.args.pass.now.number (w.0 ++ f.later) c.args.op.now s (took.Denied c.in-Some.cause)) c.state.ensures (says (opening_of g.D.Disk.state c.args.turns.now.first) c.args.pass.now.number (w.0 ++ f.later) st (rests_behind c.args.pass.now.number w.0 f.later f.others w.2)) in
    let is = ap (λ (x : Outcome). Some x) (sym c.refused-outcome.ensures) in
    subst (λ (l : List Entry). TookIs g.D.Disk.told g.D.Disk.state (opening_of g.D.Disk.state c.args.turns.now.first) c.args.pass.now.number l c.args.op.now c.leave.new.pass.seen (took.Denied c.in-Some.cause)) (saw_once (opening_of g.D.Disk.state c.args.turns.now.first) c.args.pass.now.seen w.0 h w.1 saw)
    (took_entry g.D.Disk.told g.D.Disk.state (opening_of g.D.Disk.state c.args.turns.now.first) c.args.pass.now.number w.0 c.enter-turn.result.state c.enter-turn.result.seen f c.args.op.now c.enter-turn.result.state (took.Denied c.in-Some.cause) c.refused-outcome.result c.leave.new.pass.seen is at (seen_own g.D.Disk.told g.D.Disk.state (opening_of g.D.Disk.state c.args.turns.now.first) c.args.pass.now.number w.0 c.enter-turn.result.state c.enter-turn.result.seen f c.number-place.result c.args.op.now c.refused-outcome.result c.leave.new.pass.seen (c.number-place.ensures ∙ c.enter-turn.ensures.out.0) c.leave.ensures.seen))

pub returns-in-None-clause-denied : goal.returns-in-None-clause-denied
returns-in-None-clause-denied g c = λ h saw.
    let w = c.requires.seen in
    let f = found_at g.D.Disk.told g.D.Disk.state (opening_of g.D.Disk.state c.args.turns.now.first) c.args.pass.now.number c.enter-turn.result.own c.args.turns.now.passes w.0 c.args.pass.now.seen c.enter-turn.result.seen c.enter-turn.result.state c.enter-turn.ensures.turn.1 c.enter-turn.ensures.found w.1.codes_are in
    subst (λ (l : List Entry). TurnedBack (opening_of g.D.Disk.state c.args.turns.now.first) c.args.pass.now.number l c.back.new.pass.seen) (saw_once (opening_of g.D.Disk.state c.args.turns.now.first) c.args.pass.now.seen w.0 h w.1 saw) (turned_back g.D.Disk.told g.D.Disk.state (opening_of g.D.Disk.state c.args.turns.now.first) c.args.pass.now.number w.0 c.enter-turn.result.state c.enter-turn.result.seen f c.enter-turn.result.state c.back.new.pass.seen f.stands c.back.ensures.seen)

pub returns-in-Some-clause-pass : goal.returns-in-Some-clause-pass
returns-in-Some-clause-pass g c =
    left_pass codes place_of c.args.turns.now c.args.pass.now c.enter-turn.new.pass c.leave.new.pass c.enter-turn.result _ c.requires.pass c.enter-turn.ensures.turn.1 (found_more c.enter-turn.ensures.found) c.enter-turn.ensures.dated c.enter-turn.ensures.out c.leave.ensures.pass c.leave.ensures.heard c.leave.ensures.dated c.leave.ensures.seen
    (numbered_own g.D.Disk.told g.D.Disk.state (opening_of g.D.Disk.state c.args.turns.now.first) c.enter-turn.result.own c.args.turns.now.passes c.args.pass.now.seen c.enter-turn.result.seen c.enter-turn.result.state c.enter-turn.ensures.found c.args.pass.now.number c.number-place.result c.args.op.now c.refused-outcome.result c.leave.new.pass.seen (c.number-place.ensures ∙ c.enter-turn.ensures.out.0) c.requires.pass.2 c.leave.ensures.seen)

pub returns-in-None-clause-pass : goal.returns-in-None-clause-pass
returns-in-None-clause-pass g c =
    back_pass codes place_of c.args.turns.now c.args.pass.now c.enter-turn.new.pass c.back.new.pass c.enter-turn.result c.requires.pass c.enter-turn.ensures.turn.1 (found_more c.enter-turn.ensures.found) c.enter-turn.ensures.dated c.enter-turn.ensures.out c.back.ensures.pass c.back.ensures.heard c.back.ensures.dated c.back.ensures.seen
    (numbered_back g.D.Disk.told g.D.Disk.state (opening_of g.D.Disk.state c.args.turns.now.first) c.enter-turn.result.own c.args.turns.now.passes c.args.pass.now.seen c.enter-turn.result.seen c.enter-turn.result.state c.enter-turn.ensures.found c.back.new.pass.seen c.back.ensures.seen)

pub returns-in-Some-clause-astray : goal.returns-in-Some-clause-astray
returns-in-Some-clause-astray g c =
    let w = c.requires.seen in
    let f = found_at g.D.Disk.told g.D.Disk.state (opening_of g.D.Disk.state c.args.turns.now.first) c.args.pass.now.number c.enter-turn.result.own c.args.turns.now.passes w.0 c.args.pass.now.seen c.enter-turn.result.seen c.enter-turn.result.state c.enter-turn.ensures.turn.1 c.enter-turn.ensures.found w.1.codes_are in
    let st = subst (λ (s : State g.row.D.Denot). StandsFor g.D.Disk.told g.D.Disk.state (opening_of g.D.Disk.state c.args.turns.now.first) s (w.0 ++ f.later)) (sym c.state.ensures) f.stands in
    let says = subst (λ (a : Option Cause). DeniesIn g.D.Disk c.args.op.now c.state.result.now a) c.in-Some.is c.deny.ensures.denied in
    let at = subst (λ (s : State g.row.D.Denot). TakenIs g.D.Disk.told g.D.Disk.state (opening_of g.D.Disk.state c.args.turns.now.first) c.args.pass.now.number (w.0 ++ f.later) c.args.op.now s (took.Denied c.in-Some.cause)) c.state.ensures (says (opening_of g.D.Disk.state c.args.turns.now.first) c.args.pass.now.number (w.0 ++ f.later) st (rests_behind c.args.pass.now.number w.0 f.later f.others w.2)) in
    let is = ap (λ (x : Outcome). Some x) (sym c.refused-outcome.ensures) in
    astray_own g.D.Disk.told g.D.Disk.state (opening_of g.D.Disk.state c.args.turns.now.first) c.args.pass.now.number w.0 c.enter-turn.result.state c.enter-turn.result.seen f c.enter-turn.result.state c.number-place.result c.args.op.now c.refused-outcome.result c.leave.new.pass.seen (c.number-place.ensures ∙ c.enter-turn.ensures.out.0) (taken_stands g.D.Disk.told g.D.Disk.state (opening_of g.D.Disk.state c.args.turns.now.first) c.args.pass.now.number w.0 c.enter-turn.result.state c.enter-turn.result.seen f c.args.op.now c.enter-turn.result.state (took.Denied c.in-Some.cause) c.refused-outcome.result is at) c.leave.ensures.seen

pub returns-in-None-clause-astray : goal.returns-in-None-clause-astray
returns-in-None-clause-astray g c =
    let w = c.requires.seen in
    let f = found_at g.D.Disk.told g.D.Disk.state (opening_of g.D.Disk.state c.args.turns.now.first) c.args.pass.now.number c.enter-turn.result.own c.args.turns.now.passes w.0 c.args.pass.now.seen c.enter-turn.result.seen c.enter-turn.result.state c.enter-turn.ensures.turn.1 c.enter-turn.ensures.found w.1.codes_are in
    astray_back g.D.Disk.told g.D.Disk.state (opening_of g.D.Disk.state c.args.turns.now.first) c.args.pass.now.number w.0 c.enter-turn.result.state c.enter-turn.result.seen f c.enter-turn.result.state c.back.new.pass.seen f.stands c.back.ensures.seen
