use Rattle.std.proofs.Common.{◌≡◌, None, sym, ◌∙◌, ap, subst}
use Rattle.turnstile.proofs.Places.{found_more, left_pass}
use Rattle.user_admin.specs.declared.op.UserMark.TheVariants.{Entered}
use Rattle.tl1_users.specs.declared.op.UserOp.{UserOp}
use Rattle.user_admin.specs.declared.op.UserOutcome.TheVariants.{Answered}
use Rattle.user_admin.specs.declared.shared.SharedUsers.{SharedUsers}
use Rattle.user_admin.specs.Marks.{place_of}
use Rattle.user_admin.specs.Histories.{IsReading}
use Rattle.user_admin.specs.Occupants.{answered, login_op}
use Rattle.user_admin.specs.Shared.{opening_at}
use Rattle.user_admin.specs.Users.{Users}
use Rattle.user_admin.specs.Verdicts.{login, refusal}
use Rattle.user_admin.specs.Turns.{codes}
use Rattle.user_admin.proofs.Occupying.{login_allowed, login_reads}
use Rattle.user_admin.proofs.Sharing.{shared_answered}
use Rattle.user_admin.proofs.Turning.{ended, ends, listed_at, numbered_own}
use Rattle.user_admin.proofs.Resting.{by_out, left_rests}
use Rattle.user_admin.proofs.turns.login.Goals as goal

pub leave-requires-clause-stands : goal.leave-requires-clause-stands
leave-requires-clause-stands g c =
    ends g.D.Disk.told g.D.Disk.state (opening_at g.D.Disk.state c.args.turns.now.first) c.args.pass.now.number c.enter-turn.result.own c.args.turns.now.passes c.args.pass.now.seen c.enter-turn.result.seen c.enter-turn.result.state c.enter-turn.ensures.turn.1 c.enter-turn.ensures.found
    (c.requires.seen.1.marks, c.requires.seen.1.codes_are) c.answer.new.self (Entered c.number-place.result c.of-op.result Answered) (ap (λ (s : SharedUsers g.row.D.Denot). s.first) c.answer.ensures ∙ ap (λ (s : SharedUsers g.row.D.Denot). s.first) c.state_mut.ensures.value) (λ l st. shared_answered g.D.Disk.told g.D.Disk.state (λ d told. g.met.D.Disk.is_disk d told) (λ d. g.met.D.Disk.counts_on d) (opening_at g.D.Disk.state c.args.turns.now.first) l c.enter-turn.result.state c.answer.new.self c.number-place.result c.of-op.result (c.login_op-done.result) c.of-op.ensures (c.answer.ensures ∙ ap (λ (s : SharedUsers g.row.D.Denot). record s { occupants = answered c.number-place.result (c.login_op-done.result) s.occupants }) c.state_mut.ensures.value) (subst IsReading (sym c.login_op-done.ensures) (login_reads c.args.vacant c.args.uid c.login_now-class.result)) (λ users. subst (λ (x : UserOp). refusal x users ≡ None) (sym c.login_op-done.ensures) (login_allowed c.args.vacant c.args.uid c.login_now-class.result users)) st)

pub returns-clause-pass : goal.returns-clause-pass
returns-clause-pass g c =
    left_pass codes place_of c.args.turns.now c.args.pass.now c.enter-turn.new.pass c.leave.new.pass c.enter-turn.result _ c.requires.pass c.enter-turn.ensures.turn.1 (found_more c.enter-turn.ensures.found) c.enter-turn.ensures.dated c.enter-turn.ensures.out c.leave.ensures.pass c.leave.ensures.heard c.leave.ensures.dated c.leave.ensures.seen
    (numbered_own g.D.Disk.told g.D.Disk.state (opening_at g.D.Disk.state c.args.turns.now.first) c.enter-turn.result.own c.args.turns.now.passes c.args.pass.now.seen c.enter-turn.result.seen c.enter-turn.result.state c.enter-turn.ensures.found c.args.pass.now.number (Entered c.number-place.result c.of-op.result Answered) c.leave.new.pass.seen (c.number-place.ensures ∙ c.enter-turn.ensures.out.0) c.requires.pass.2 c.leave.ensures.seen)

pub returns-clause-rests : goal.returns-clause-rests
returns-clause-rests g c =
    left_rests g.D.Disk.told g.D.Disk.state (opening_at g.D.Disk.state c.args.turns.now.first) c.enter-turn.result.own c.args.turns.now.passes c.args.pass.now c.leave.new.pass c.enter-turn.result.seen c.enter-turn.result.state c.enter-turn.ensures.turn.1 (c.leave.ensures.pass.2 ∙ c.enter-turn.ensures.out.0) c.enter-turn.ensures.found
    (Entered c.number-place.result c.of-op.result Answered) c.leave.ensures.seen (λ who not. by_out c.args.pass.now.number who Answered not)

pub returns-clause-logged : goal.returns-clause-logged
returns-clause-logged g c = λ h saw. (
  ended g.D.Disk.told g.D.Disk.state (opening_at g.D.Disk.state c.args.turns.now.first) c.args.pass.now.number c.enter-turn.result.own c.args.turns.now.passes c.args.pass.now.seen c.enter-turn.result.seen c.enter-turn.result.state c.enter-turn.ensures.turn.1 c.enter-turn.ensures.found
      h saw c.answer.new.self c.number-place.result c.of-op.result (login_op c.args.vacant c.args.uid c.login_now-class.result) Answered c.leave.new.pass.seen (c.number-place.ensures ∙ c.enter-turn.ensures.out.0) (c.of-op.ensures ∙ c.login_op-done.ensures) (λ l st. shared_answered g.D.Disk.told g.D.Disk.state (λ d told. g.met.D.Disk.is_disk d told) (λ d. g.met.D.Disk.counts_on d) (opening_at g.D.Disk.state c.args.turns.now.first) l c.enter-turn.result.state c.answer.new.self c.number-place.result c.of-op.result (c.login_op-done.result) c.of-op.ensures (c.answer.ensures ∙ ap (λ (s : SharedUsers g.row.D.Denot). record s { occupants = answered c.number-place.result (c.login_op-done.result) s.occupants }) c.state_mut.ensures.value) (subst IsReading (sym c.login_op-done.ensures) (login_reads c.args.vacant c.args.uid c.login_now-class.result)) (λ users. subst (λ (x : UserOp). refusal x users ≡ None) (sym c.login_op-done.ensures) (login_allowed c.args.vacant c.args.uid c.login_now-class.result users)) st) c.leave.ensures.seen,
  c.login_now-class.ensures ∙ ap (λ (m : Users). login c.args.uid c.args.pid.now m) (ap (λ (s : SharedUsers g.row.D.Denot). s.list) c.state.ensures ∙ listed_at g.D.Disk.told g.D.Disk.state (opening_at g.D.Disk.state c.args.turns.now.first) c.args.pass.now.number c.enter-turn.result.own c.args.turns.now.passes c.args.pass.now.seen c.enter-turn.result.seen c.enter-turn.result.state c.enter-turn.ensures.turn.1 c.enter-turn.ensures.found h saw),
)
