use Rattle.std.proofs.Common.{refl, ◌∙◌, ap}
use Rattle.std.specs.Prelude.{slice_get}
use Rattle.turnstile.proofs.Places.{back_pass, found_more}
use Rattle.user_admin.specs.declared.shared.SharedUsers.{SharedUsers}
use Rattle.user_admin.specs.Marks.{place_of}
use Rattle.user_admin.specs.Occupants.{is_out}
use Rattle.user_admin.specs.Shared.{opening_at}
use Rattle.user_admin.specs.Turns.{codes}
use Rattle.user_admin.proofs.Turning.{gives_back, looked_at, numbered_back}
use Rattle.user_admin.proofs.Resting.{back_rests}
use Rattle.user_admin.proofs.turns.is_cancelled.Goals as goal

pub back-requires-clause-stands : goal.back-requires-clause-stands
back-requires-clause-stands g c =
    gives_back g.D.Disk.told g.D.Disk.state (opening_at g.D.Disk.state c.args.turns.now.first) c.args.pass.now.number c.enter-turn.result.own c.args.turns.now.passes c.args.pass.now.seen c.enter-turn.result.seen c.enter-turn.result.state c.enter-turn.ensures.turn.1 c.enter-turn.ensures.found
    (c.requires.seen.1.marks, c.requires.seen.1.codes_are) c.enter-turn.result.state refl (λ l st. st)

pub returns-clause-pass : goal.returns-clause-pass
returns-clause-pass g c =
    back_pass codes place_of c.args.turns.now c.args.pass.now c.enter-turn.new.pass c.back.new.pass c.enter-turn.result c.requires.pass c.enter-turn.ensures.turn.1 (found_more c.enter-turn.ensures.found) c.enter-turn.ensures.dated c.enter-turn.ensures.out c.back.ensures.pass c.back.ensures.heard c.back.ensures.dated c.back.ensures.seen
    (numbered_back g.D.Disk.told g.D.Disk.state (opening_at g.D.Disk.state c.args.turns.now.first) c.enter-turn.result.own c.args.turns.now.passes c.args.pass.now.seen c.enter-turn.result.seen c.enter-turn.result.state c.enter-turn.ensures.found c.back.new.pass.seen c.back.ensures.seen)

pub returns-clause-rests : goal.returns-clause-rests
returns-clause-rests g c =
    back_rests g.D.Disk.told g.D.Disk.state (opening_at g.D.Disk.state c.args.turns.now.first) c.enter-turn.result.own c.args.turns.now.passes c.args.pass.now c.back.new.pass c.enter-turn.result.seen c.enter-turn.result.state c.enter-turn.ensures.turn.1 (c.back.ensures.pass.2 ∙ c.enter-turn.ensures.out.0) c.enter-turn.ensures.found c.back.ensures.seen

pub returns-clause-looked : goal.returns-clause-looked
returns-clause-looked g c = λ h saw.
    looked_at g.D.Disk.told g.D.Disk.state (opening_at g.D.Disk.state c.args.turns.now.first) c.args.pass.now.number c.enter-turn.result.own c.args.turns.now.passes c.args.pass.now.seen c.enter-turn.result.seen c.enter-turn.result.state c.enter-turn.ensures.turn.1 c.enter-turn.ensures.found h saw c.back.new.pass.seen c.has_ended-cancelled.result c.back.ensures.seen
    (c.has_ended-cancelled.ensures ∙ (λ i. is_out (slice_get (ap (λ (s : SharedUsers g.row.D.Denot). s.occupants) c.state.ensures i) ((c.number.ensures ∙ c.enter-turn.ensures.out.0) i))))
