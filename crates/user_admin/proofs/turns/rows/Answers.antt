use Rattle.std.proofs.Common.{◌≡◌, None, [], ◌∷◌, ◌++◌, refl, sym, ◌∙◌, ap, subst}
use Rattle.turnstile.proofs.Places.{found_more, left_pass}
use Rattle.user_admin.specs.declared.op.UserMark.TheVariants.{Entered}
use Rattle.tl1_users.specs.declared.op.UserOp.{UserOp}
use Rattle.tl1_users.specs.declared.op.UserOp.TheVariants.{Rows}
use Rattle.user_admin.specs.declared.op.UserOutcome.{UserOutcome}
use Rattle.user_admin.specs.declared.op.UserOutcome.TheVariants.{Answered}
use Rattle.user_admin.specs.declared.shared.SharedUsers.{SharedUsers}
use Rattle.user_admin.specs.Marks.{place_of}
use Rattle.user_admin.specs.Histories.{IsReading}
use Rattle.user_admin.specs.Occupants.{answered}
use Rattle.user_admin.specs.Shared.{SharedFor, opening_at}
use Rattle.user_admin.specs.States.{entry}
use Rattle.user_admin.specs.Turns.{Turned, codes}
use Rattle.user_admin.specs.Users.{Users}
use Rattle.user_admin.specs.Verdicts.{Refuses, refusal, rows_in}
use Rattle.user_admin.proofs.Sharing.{shared_denied, shared_read}
use Rattle.user_admin.proofs.Turning.{ended, ends, listed_at, numbered_own}
use Rattle.user_admin.proofs.Resting.{by_out, left_rests}
use Rattle.user_admin.proofs.turns.rows.Goals as goal

pub leave-requires-clause-stands : goal.leave-requires-clause-stands
leave-requires-clause-stands g c =
    ends g.D.Disk.told g.D.Disk.state (opening_at g.D.Disk.state c.args.turns.now.first) c.args.pass.now.number c.enter-turn.result.own c.args.turns.now.passes c.args.pass.now.seen c.enter-turn.result.seen c.enter-turn.result.state c.enter-turn.ensures.turn.1 c.enter-turn.ensures.found
    (c.requires.seen.1.marks, c.requires.seen.1.codes_are) c.enter-turn.result.state (Entered c.number-place.result c.of-op.result Answered) refl (λ l st. shared_read g.D.Disk.told g.D.Disk.state (λ d told. g.met.D.Disk.is_disk d told) (λ d. g.met.D.Disk.counts_on d) (opening_at g.D.Disk.state c.args.turns.now.first) l c.enter-turn.result.state c.number-place.result c.of-op.result (subst (λ (x : UserOp). c.enter-turn.result.state.occupants ≡ answered c.number-place.result x c.enter-turn.result.state.occupants) (sym c.of-op.ensures) refl) (subst IsReading (sym c.of-op.ensures) tt) (subst (λ (x : UserOp). refusal x c.enter-turn.result.state.list ≡ None) (sym c.of-op.ensures) (subst (λ (m : Users). refusal (Rows c.args.which) m ≡ None) (ap (λ (s : SharedUsers g.row.D.Denot). s.list) c.state.ensures) c.in-Ok.ensures.0)) st)

pub returns-in-Ok-clause-pass : goal.returns-in-Ok-clause-pass
returns-in-Ok-clause-pass g c =
    left_pass codes place_of c.args.turns.now c.args.pass.now c.enter-turn.new.pass c.leave.new.pass c.enter-turn.result _ c.requires.pass c.enter-turn.ensures.turn.1 (found_more c.enter-turn.ensures.found) c.enter-turn.ensures.dated c.enter-turn.ensures.out c.leave.ensures.pass c.leave.ensures.heard c.leave.ensures.dated c.leave.ensures.seen
    (numbered_own g.D.Disk.told g.D.Disk.state (opening_at g.D.Disk.state c.args.turns.now.first) c.enter-turn.result.own c.args.turns.now.passes c.args.pass.now.seen c.enter-turn.result.seen c.enter-turn.result.state c.enter-turn.ensures.found c.args.pass.now.number (Entered c.number-place.result c.of-op.result Answered) c.leave.new.pass.seen (c.number-place.ensures ∙ c.enter-turn.ensures.out.0) c.requires.pass.2 c.leave.ensures.seen)

pub returns-in-Ok-clause-rows : goal.returns-in-Ok-clause-rows
returns-in-Ok-clause-rows g c = λ h saw. (
  ended g.D.Disk.told g.D.Disk.state (opening_at g.D.Disk.state c.args.turns.now.first) c.args.pass.now.number c.enter-turn.result.own c.args.turns.now.passes c.args.pass.now.seen c.enter-turn.result.seen c.enter-turn.result.state c.enter-turn.ensures.turn.1 c.enter-turn.ensures.found
      h saw c.enter-turn.result.state c.number-place.result c.of-op.result (Rows c.args.which) Answered c.leave.new.pass.seen (c.number-place.ensures ∙ c.enter-turn.ensures.out.0) c.of-op.ensures (λ l st. shared_read g.D.Disk.told g.D.Disk.state (λ d told. g.met.D.Disk.is_disk d told) (λ d. g.met.D.Disk.counts_on d) (opening_at g.D.Disk.state c.args.turns.now.first) l c.enter-turn.result.state c.number-place.result c.of-op.result (subst (λ (x : UserOp). c.enter-turn.result.state.occupants ≡ answered c.number-place.result x c.enter-turn.result.state.occupants) (sym c.of-op.ensures) refl) (subst IsReading (sym c.of-op.ensures) tt) (subst (λ (x : UserOp). refusal x c.enter-turn.result.state.list ≡ None) (sym c.of-op.ensures) (subst (λ (m : Users). refusal (Rows c.args.which) m ≡ None) (ap (λ (s : SharedUsers g.row.D.Denot). s.list) c.state.ensures) c.in-Ok.ensures.0)) st) c.leave.ensures.seen,
  c.in-Ok.ensures.1 ∙ ap (λ (m : Users). rows_in m c.args.which) ((ap (λ (s : SharedUsers g.row.D.Denot). s.list) c.state.ensures) ∙ listed_at g.D.Disk.told g.D.Disk.state (opening_at g.D.Disk.state c.args.turns.now.first) c.args.pass.now.number c.enter-turn.result.own c.args.turns.now.passes c.args.pass.now.seen c.enter-turn.result.seen c.enter-turn.result.state c.enter-turn.ensures.turn.1 c.enter-turn.ensures.found h saw),
)

pub leave-requires-in-Err-clause-stands : goal.leave-requires-in-Err-clause-stands
leave-requires-in-Err-clause-stands g c =
    ends g.D.Disk.told g.D.Disk.state (opening_at g.D.Disk.state c.args.turns.now.first) c.args.pass.now.number c.enter-turn.result.own c.args.turns.now.passes c.args.pass.now.seen c.enter-turn.result.seen c.enter-turn.result.state c.enter-turn.ensures.turn.1 c.enter-turn.ensures.found
    (c.requires.seen.1.marks, c.requires.seen.1.codes_are) c.enter-turn.result.state (Entered c.number-place.result c.of-op.result c.refused-outcome.result) refl (λ l st. subst (λ (u : UserOutcome). SharedFor g.D.Disk.told g.D.Disk.state (opening_at g.D.Disk.state c.args.turns.now.first) c.enter-turn.result.state (l ++ Entered c.number-place.result c.of-op.result u ∷ [])) (sym c.refused-outcome.ensures) (shared_denied g.D.Disk.told g.D.Disk.state (λ d told. g.met.D.Disk.is_disk d told) (λ d. g.met.D.Disk.counts_on d) (opening_at g.D.Disk.state c.args.turns.now.first) l c.enter-turn.result.state c.number-place.result c.of-op.result c.in-Err.cause (subst (λ (x : UserOp). Refuses x c.enter-turn.result.state.list c.in-Err.cause) (sym c.of-op.ensures) (subst (λ (m : Users). Refuses (Rows c.args.which) m c.in-Err.cause) (ap (λ (s : SharedUsers g.row.D.Denot). s.list) c.state.ensures) c.in-Err.ensures)) st))

pub returns-in-Err-clause-pass : goal.returns-in-Err-clause-pass
returns-in-Err-clause-pass g c =
    left_pass codes place_of c.args.turns.now c.args.pass.now c.enter-turn.new.pass c.leave-in-Err.new.pass c.enter-turn.result _ c.requires.pass c.enter-turn.ensures.turn.1 (found_more c.enter-turn.ensures.found) c.enter-turn.ensures.dated c.enter-turn.ensures.out c.leave-in-Err.ensures.pass c.leave-in-Err.ensures.heard c.leave-in-Err.ensures.dated c.leave-in-Err.ensures.seen
    (numbered_own g.D.Disk.told g.D.Disk.state (opening_at g.D.Disk.state c.args.turns.now.first) c.enter-turn.result.own c.args.turns.now.passes c.args.pass.now.seen c.enter-turn.result.seen c.enter-turn.result.state c.enter-turn.ensures.found c.args.pass.now.number (Entered c.number-place.result c.of-op.result c.refused-outcome.result) c.leave-in-Err.new.pass.seen (c.number-place.ensures ∙ c.enter-turn.ensures.out.0) c.requires.pass.2 c.leave-in-Err.ensures.seen)

pub returns-in-Err-clause-rows : goal.returns-in-Err-clause-rows
returns-in-Err-clause-rows g c = λ h saw. subst (λ (u : UserOutcome). Turned (opening_at g.D.Disk.state c.args.turns.now.first) c.args.pass.now.number h (entry c.args.pass.now.number (Rows c.args.which) u) c.leave-in-Err.new.pass.seen) c.refused-outcome.ensures
    (ended g.D.Disk.told g.D.Disk.state (opening_at g.D.Disk.state c.args.turns.now.first) c.args.pass.now.number c.enter-turn.result.own c.args.turns.now.passes c.args.pass.now.seen c.enter-turn.result.seen c.enter-turn.result.state c.enter-turn.ensures.turn.1 c.enter-turn.ensures.found
    h saw c.enter-turn.result.state c.number-place.result c.of-op.result (Rows c.args.which) c.refused-outcome.result c.leave-in-Err.new.pass.seen (c.number-place.ensures ∙ c.enter-turn.ensures.out.0) c.of-op.ensures (λ l st. subst (λ (u : UserOutcome). SharedFor g.D.Disk.told g.D.Disk.state (opening_at g.D.Disk.state c.args.turns.now.first) c.enter-turn.result.state (l ++ Entered c.number-place.result c.of-op.result u ∷ [])) (sym c.refused-outcome.ensures) (shared_denied g.D.Disk.told g.D.Disk.state (λ d told. g.met.D.Disk.is_disk d told) (λ d. g.met.D.Disk.counts_on d) (opening_at g.D.Disk.state c.args.turns.now.first) l c.enter-turn.result.state c.number-place.result c.of-op.result c.in-Err.cause (subst (λ (x : UserOp). Refuses x c.enter-turn.result.state.list c.in-Err.cause) (sym c.of-op.ensures) (subst (λ (m : Users). Refuses (Rows c.args.which) m c.in-Err.cause) (ap (λ (s : SharedUsers g.row.D.Denot). s.list) c.state.ensures) c.in-Err.ensures)) st)) c.leave-in-Err.ensures.seen)

pub returns-in-Ok-clause-rests : goal.returns-in-Ok-clause-rests
returns-in-Ok-clause-rests g c =
    left_rests g.D.Disk.told g.D.Disk.state (opening_at g.D.Disk.state c.args.turns.now.first) c.enter-turn.result.own c.args.turns.now.passes c.args.pass.now c.leave.new.pass c.enter-turn.result.seen c.enter-turn.result.state c.enter-turn.ensures.turn.1 (c.leave.ensures.pass.2 ∙ c.enter-turn.ensures.out.0) c.enter-turn.ensures.found
    (Entered c.number-place.result c.of-op.result Answered) c.leave.ensures.seen (λ who not. by_out c.args.pass.now.number who Answered not)

pub returns-in-Err-clause-rests : goal.returns-in-Err-clause-rests
returns-in-Err-clause-rests g c =
    left_rests g.D.Disk.told g.D.Disk.state (opening_at g.D.Disk.state c.args.turns.now.first) c.enter-turn.result.own c.args.turns.now.passes c.args.pass.now c.leave-in-Err.new.pass c.enter-turn.result.seen c.enter-turn.result.state c.enter-turn.ensures.turn.1 (c.leave-in-Err.ensures.pass.2 ∙ c.enter-turn.ensures.out.0) c.enter-turn.ensures.found
    (Entered c.number-place.result c.of-op.result c.refused-outcome.result) c.leave-in-Err.ensures.seen (λ who not. by_out c.args.pass.now.number who c.refused-outcome.result not)
