use Rattle.std.proofs.Common.{ℕ, ◌++◌, sym, ◌∙◌, ap, subst}
use Rattle.turnstile.proofs.Places.{back_pass, found_more, left_pass}
use Rattle.user_admin.specs.declared.shared.SharedUsers.{SharedUsers}
use Rattle.user_admin.specs.Marks.{mark_for, place_of}
use Rattle.user_admin.specs.Shared.{SharedFor, opening_at}
use Rattle.user_admin.specs.Turns.{codes}
use Rattle.user_admin.proofs.Marking.{marked_place}
use Rattle.user_admin.proofs.Turning.{at_turn, ends, given_by, gives_back, left_by, numbered_back, numbered_own, took_back, took_left}
use Rattle.user_admin.proofs.Resting.{gave_rests, took_rests}
use Rattle.user_admin.proofs.turns.take.Goals as goal

pub leave-requires-clause-number : goal.leave-requires-clause-number
leave-requires-clause-number g c = marked_place c.args.pass.now.number c.args.op.now c.plan-planned.result c.in-Some.mark (ap (λ (n : ℕ). mark_for n c.args.op.now c.plan-planned.result) (sym (c.number.ensures ∙ c.enter-turn.ensures.out.0)) ∙ sym c.mark_of.ensures ∙ c.in-Some.is) ∙ sym c.enter-turn.ensures.turn.1

pub leave-requires-clause-stands : goal.leave-requires-clause-stands
leave-requires-clause-stands g c =
    ends g.D.Disk.told g.D.Disk.state (opening_at g.D.Disk.state c.args.turns.now.first) c.args.pass.now.number c.enter-turn.result.own c.args.turns.now.passes c.args.pass.now.seen c.enter-turn.result.seen c.enter-turn.result.state c.enter-turn.ensures.turn.1 c.enter-turn.ensures.found
    (c.requires.seen.1.marks, c.requires.seen.1.codes_are) c.plan-planned.new.self c.in-Some.mark (c.plan-planned.ensures.first ∙ ap (λ (s : SharedUsers g.row.D.Denot). s.first) c.state_mut.ensures.value) (λ l st. left_by g.D.Disk.told g.D.Disk.state (opening_at g.D.Disk.state c.args.turns.now.first) c.args.pass.now.number c.args.op.now l c.plan-planned.new.self c.plan-planned.result c.in-Some.mark (ap (λ (n : ℕ). mark_for n c.args.op.now c.plan-planned.result) (sym (c.number.ensures ∙ c.enter-turn.ensures.out.0)) ∙ sym c.mark_of.ensures ∙ c.in-Some.is) (c.plan-planned.ensures.planned (opening_at g.D.Disk.state c.args.turns.now.first) c.args.pass.now.number l (subst (λ (s : SharedUsers g.row.D.Denot). SharedFor g.D.Disk.told g.D.Disk.state (opening_at g.D.Disk.state c.args.turns.now.first) s l) (sym c.state_mut.ensures.value) st)))

pub back-requires-clause-stands : goal.back-requires-clause-stands
back-requires-clause-stands g c =
    gives_back g.D.Disk.told g.D.Disk.state (opening_at g.D.Disk.state c.args.turns.now.first) c.args.pass.now.number c.enter-turn.result.own c.args.turns.now.passes c.args.pass.now.seen c.enter-turn.result.seen c.enter-turn.result.state c.enter-turn.ensures.turn.1 c.enter-turn.ensures.found
    (c.requires.seen.1.marks, c.requires.seen.1.codes_are) c.plan-planned.new.self (c.plan-planned.ensures.first ∙ ap (λ (s : SharedUsers g.row.D.Denot). s.first) c.state_mut.ensures.value) (λ l st. given_by g.D.Disk.told g.D.Disk.state (opening_at g.D.Disk.state c.args.turns.now.first) c.args.pass.now.number c.args.op.now l c.plan-planned.new.self c.plan-planned.result (ap (λ (n : ℕ). mark_for n c.args.op.now c.plan-planned.result) (sym (c.number.ensures ∙ c.enter-turn.ensures.out.0)) ∙ sym c.mark_of.ensures ∙ c.in-None.is) (c.plan-planned.ensures.planned (opening_at g.D.Disk.state c.args.turns.now.first) c.args.pass.now.number l (subst (λ (s : SharedUsers g.row.D.Denot). SharedFor g.D.Disk.told g.D.Disk.state (opening_at g.D.Disk.state c.args.turns.now.first) s l) (sym c.state_mut.ensures.value) st)))

pub returns-in-Some-clause-took : goal.returns-in-Some-clause-took
returns-in-Some-clause-took g c = λ h saw.
    let f = at_turn g.D.Disk.told g.D.Disk.state (opening_at g.D.Disk.state c.args.turns.now.first) c.args.pass.now.number c.enter-turn.result.own c.args.turns.now.passes c.args.pass.now.seen c.enter-turn.result.seen c.enter-turn.result.state c.enter-turn.ensures.turn.1 c.enter-turn.ensures.found saw.marks saw.codes_are in
    took_left g.D.Disk.told g.D.Disk.state (opening_at g.D.Disk.state c.args.turns.now.first) c.args.pass.now.number saw.marks c.enter-turn.result.state c.enter-turn.result.seen f h saw.entries_are c.args.op.now c.plan-planned.new.self c.plan-planned.result c.in-Some.mark c.leave.new.pass.seen (ap (λ (n : ℕ). mark_for n c.args.op.now c.plan-planned.result) (sym (c.number.ensures ∙ c.enter-turn.ensures.out.0)) ∙ sym c.mark_of.ensures ∙ c.in-Some.is) (c.plan-planned.ensures.planned (opening_at g.D.Disk.state c.args.turns.now.first) c.args.pass.now.number (saw.marks ++ f.later) (subst (λ (s : SharedUsers g.row.D.Denot). SharedFor g.D.Disk.told g.D.Disk.state (opening_at g.D.Disk.state c.args.turns.now.first) s (saw.marks ++ f.later)) (sym c.state_mut.ensures.value) f.stands)) c.leave.ensures.seen

pub returns-in-None-clause-took : goal.returns-in-None-clause-took
returns-in-None-clause-took g c = λ h saw.
    let f = at_turn g.D.Disk.told g.D.Disk.state (opening_at g.D.Disk.state c.args.turns.now.first) c.args.pass.now.number c.enter-turn.result.own c.args.turns.now.passes c.args.pass.now.seen c.enter-turn.result.seen c.enter-turn.result.state c.enter-turn.ensures.turn.1 c.enter-turn.ensures.found saw.marks saw.codes_are in
    took_back g.D.Disk.told g.D.Disk.state (opening_at g.D.Disk.state c.args.turns.now.first) c.args.pass.now.number saw.marks c.enter-turn.result.state c.enter-turn.result.seen f h saw.entries_are c.args.op.now c.plan-planned.new.self c.plan-planned.result c.back.new.pass.seen (ap (λ (n : ℕ). mark_for n c.args.op.now c.plan-planned.result) (sym (c.number.ensures ∙ c.enter-turn.ensures.out.0)) ∙ sym c.mark_of.ensures ∙ c.in-None.is) (c.plan-planned.ensures.planned (opening_at g.D.Disk.state c.args.turns.now.first) c.args.pass.now.number (saw.marks ++ f.later) (subst (λ (s : SharedUsers g.row.D.Denot). SharedFor g.D.Disk.told g.D.Disk.state (opening_at g.D.Disk.state c.args.turns.now.first) s (saw.marks ++ f.later)) (sym c.state_mut.ensures.value) f.stands)) c.back.ensures.seen

pub returns-in-Some-clause-pass : goal.returns-in-Some-clause-pass
returns-in-Some-clause-pass g c =
    left_pass codes place_of c.args.turns.now c.args.pass.now c.enter-turn.new.pass c.leave.new.pass c.enter-turn.result _ c.requires.pass c.enter-turn.ensures.turn.1 (found_more c.enter-turn.ensures.found) c.enter-turn.ensures.dated c.enter-turn.ensures.out c.leave.ensures.pass c.leave.ensures.heard c.leave.ensures.dated c.leave.ensures.seen
    (numbered_own g.D.Disk.told g.D.Disk.state (opening_at g.D.Disk.state c.args.turns.now.first) c.enter-turn.result.own c.args.turns.now.passes c.args.pass.now.seen c.enter-turn.result.seen c.enter-turn.result.state c.enter-turn.ensures.found c.args.pass.now.number c.in-Some.mark c.leave.new.pass.seen (marked_place c.args.pass.now.number c.args.op.now c.plan-planned.result c.in-Some.mark (ap (λ (n : ℕ). mark_for n c.args.op.now c.plan-planned.result) (sym (c.number.ensures ∙ c.enter-turn.ensures.out.0)) ∙ sym c.mark_of.ensures ∙ c.in-Some.is)) c.requires.pass.2 c.leave.ensures.seen)

pub returns-in-None-clause-pass : goal.returns-in-None-clause-pass
returns-in-None-clause-pass g c =
    back_pass codes place_of c.args.turns.now c.args.pass.now c.enter-turn.new.pass c.back.new.pass c.enter-turn.result c.requires.pass c.enter-turn.ensures.turn.1 (found_more c.enter-turn.ensures.found) c.enter-turn.ensures.dated c.enter-turn.ensures.out c.back.ensures.pass c.back.ensures.heard c.back.ensures.dated c.back.ensures.seen
    (numbered_back g.D.Disk.told g.D.Disk.state (opening_at g.D.Disk.state c.args.turns.now.first) c.enter-turn.result.own c.args.turns.now.passes c.args.pass.now.seen c.enter-turn.result.seen c.enter-turn.result.state c.enter-turn.ensures.found c.back.new.pass.seen c.back.ensures.seen)

pub returns-in-Some-clause-rests : goal.returns-in-Some-clause-rests
returns-in-Some-clause-rests g c =
    took_rests g.D.Disk.told g.D.Disk.state (opening_at g.D.Disk.state c.args.turns.now.first) c.enter-turn.result.own c.args.turns.now.passes c.args.pass.now c.leave.new.pass c.enter-turn.result.seen c.enter-turn.result.state c.enter-turn.ensures.turn.1 (c.leave.ensures.pass.2 ∙ c.enter-turn.ensures.out.0) c.enter-turn.ensures.found
    c.in-Some.mark c.leave.ensures.seen c.args.op.now c.plan-planned.result (ap (λ (n : ℕ). mark_for n c.args.op.now c.plan-planned.result) (sym (c.number.ensures ∙ c.enter-turn.ensures.out.0)) ∙ sym c.mark_of.ensures ∙ c.in-Some.is)

pub returns-in-None-clause-rests : goal.returns-in-None-clause-rests
returns-in-None-clause-rests g c =
    gave_rests g.D.Disk.told g.D.Disk.state (opening_at g.D.Disk.state c.args.turns.now.first) c.enter-turn.result.own c.args.turns.now.passes c.args.pass.now c.back.new.pass c.enter-turn.result.seen c.enter-turn.result.state c.enter-turn.ensures.turn.1 (c.back.ensures.pass.2 ∙ c.enter-turn.ensures.out.0) c.enter-turn.ensures.found
    c.args.op.now c.plan-planned.result (ap (λ (n : ℕ). mark_for n c.args.op.now c.plan-planned.result) (sym (c.number.ensures ∙ c.enter-turn.ensures.out.0)) ∙ sym c.mark_of.ensures ∙ c.in-None.is) c.back.ensures.seen
