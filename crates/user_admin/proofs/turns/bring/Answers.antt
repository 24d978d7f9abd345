use Rattle.std.proofs.Common.{ℕ, List, [], ◌∷◌, ◌++◌, refl, sym, ◌∙◌, ap, subst}
use Rattle.turnstile.proofs.Places.{found_more, left_pass}
use Rattle.user_admin.specs.declared.op.UserMark.{UserMark}
use Rattle.user_admin.specs.declared.op.UserMark.TheVariants.{Entered}
use Rattle.tl1_users.specs.declared.op.UserOp.{UserOp}
use Rattle.user_admin.specs.declared.shared.SharedUsers.{SharedUsers}
use Rattle.user_admin.specs.Marks.{entries_of, place_of}
use Rattle.user_admin.specs.Shared.{HasKept, SharedFor, opening_at}
use Rattle.user_admin.specs.States.{entry}
use Rattle.user_admin.specs.Turns.{Turned, codes}
use Rattle.user_admin.proofs.Sharing.{kept_later}
use Rattle.user_admin.proofs.Turning.{at_turn, ends_at, numbered_own, same_marks, turned_at}
use Rattle.user_admin.proofs.Resting.{home_rests}
use Rattle.user_admin.proofs.turns.bring.Goals as goal

pub bring-requires : goal.bring-requires
bring-requires g c =
    let w = c.requires.kept in
    let f = at_turn g.D.Disk.told g.D.Disk.state (opening_at g.D.Disk.state c.args.turns.now.first) c.args.pass.now.number c.enter-turn.result.own c.args.turns.now.passes c.args.pass.now.seen c.enter-turn.result.seen c.enter-turn.result.state c.enter-turn.ensures.turn.1 c.enter-turn.ensures.found w.0 w.1 in
    record { may = ((opening_at g.D.Disk.state c.args.turns.now.first), c.args.pass.now.number, c.args.op.now, w.0 ++ f.later, subst (λ (s : SharedUsers g.row.D.Denot). SharedFor g.D.Disk.told g.D.Disk.state (opening_at g.D.Disk.state c.args.turns.now.first) s (w.0 ++ f.later)) (sym c.state_mut.ensures.value) f.stands, kept_later g.D.Disk.told g.D.Disk.state (λ d told. g.met.D.Disk.is_disk d told) (λ d. g.met.D.Disk.counts_on d) (opening_at g.D.Disk.state c.args.turns.now.first) c.args.pass.now.number c.args.op.now w.0 f.later c.args.keeper.value c.args.outcome f.others f.stands.turns w.2) }

pub leave-requires-clause-stands : goal.leave-requires-clause-stands
leave-requires-clause-stands g c =
    let w = c.requires.kept in
    let f = at_turn g.D.Disk.told g.D.Disk.state (opening_at g.D.Disk.state c.args.turns.now.first) c.args.pass.now.number c.enter-turn.result.own c.args.turns.now.passes c.args.pass.now.seen c.enter-turn.result.seen c.enter-turn.result.state c.enter-turn.ensures.turn.1 c.enter-turn.ensures.found w.0 w.1 in
    ends_at g.D.Disk.told g.D.Disk.state (opening_at g.D.Disk.state c.args.turns.now.first) c.args.pass.now.number c.enter-turn.result.own c.args.turns.now.passes c.args.pass.now.seen c.enter-turn.result.seen c.enter-turn.result.state c.enter-turn.ensures.turn.1 c.enter-turn.ensures.found
    w.0 w.1 c.bring.new.self (Entered c.number-place.result c.of-op.result c.args.outcome) (c.bring.ensures.first ∙ ap (λ (s : SharedUsers g.row.D.Denot). s.first) c.state_mut.ensures.value) (subst (λ (n : ℕ). SharedFor g.D.Disk.told g.D.Disk.state (opening_at g.D.Disk.state c.args.turns.now.first) c.bring.new.self ((w.0 ++ f.later) ++ Entered n c.of-op.result c.args.outcome ∷ [])) (sym (c.number-place.ensures ∙ c.enter-turn.ensures.out.0)) (c.bring.ensures.brought (opening_at g.D.Disk.state c.args.turns.now.first) c.args.pass.now.number c.of-op.result (w.0 ++ f.later) (subst (λ (s : SharedUsers g.row.D.Denot). SharedFor g.D.Disk.told g.D.Disk.state (opening_at g.D.Disk.state c.args.turns.now.first) s (w.0 ++ f.later)) (sym c.state_mut.ensures.value) f.stands) (subst (λ (x : UserOp). HasKept g.D.Disk.told g.D.Disk.state (opening_at g.D.Disk.state c.args.turns.now.first) c.args.pass.now.number x (w.0 ++ f.later) c.args.keeper.value c.args.outcome) (sym c.of-op.ensures) (kept_later g.D.Disk.told g.D.Disk.state (λ d told. g.met.D.Disk.is_disk d told) (λ d. g.met.D.Disk.counts_on d) (opening_at g.D.Disk.state c.args.turns.now.first) c.args.pass.now.number c.args.op.now w.0 f.later c.args.keeper.value c.args.outcome f.others f.stands.turns w.2))))

pub returns-clause-brought : goal.returns-clause-brought
returns-clause-brought g c = λ ms saw.
    let w = c.requires.kept in
    let f = at_turn g.D.Disk.told g.D.Disk.state (opening_at g.D.Disk.state c.args.turns.now.first) c.args.pass.now.number c.enter-turn.result.own c.args.turns.now.passes c.args.pass.now.seen c.enter-turn.result.seen c.enter-turn.result.state c.enter-turn.ensures.turn.1 c.enter-turn.ensures.found w.0 w.1 in
    subst (λ (l : List UserMark). Turned (opening_at g.D.Disk.state c.args.turns.now.first) c.args.pass.now.number (entries_of l) (entry c.args.pass.now.number c.args.op.now c.args.outcome) c.leave.new.pass.seen) (same_marks c.args.pass.now.seen w.0 ms w.1 saw)
    (turned_at g.D.Disk.told g.D.Disk.state (opening_at g.D.Disk.state c.args.turns.now.first) c.args.pass.now.number w.0 c.enter-turn.result.state c.enter-turn.result.seen f (entries_of w.0) refl c.bring.new.self (Entered c.number-place.result c.of-op.result c.args.outcome) (entry c.args.pass.now.number c.args.op.now c.args.outcome) c.leave.new.pass.seen (λ i. entry ((c.number-place.ensures ∙ c.enter-turn.ensures.out.0) i) (c.of-op.ensures i) c.args.outcome ∷ []) (subst (λ (n : ℕ). SharedFor g.D.Disk.told g.D.Disk.state (opening_at g.D.Disk.state c.args.turns.now.first) c.bring.new.self ((w.0 ++ f.later) ++ Entered n c.of-op.result c.args.outcome ∷ [])) (sym (c.number-place.ensures ∙ c.enter-turn.ensures.out.0)) (c.bring.ensures.brought (opening_at g.D.Disk.state c.args.turns.now.first) c.args.pass.now.number c.of-op.result (w.0 ++ f.later) (subst (λ (s : SharedUsers g.row.D.Denot). SharedFor g.D.Disk.told g.D.Disk.state (opening_at g.D.Disk.state c.args.turns.now.first) s (w.0 ++ f.later)) (sym c.state_mut.ensures.value) f.stands) (subst (λ (x : UserOp). HasKept g.D.Disk.told g.D.Disk.state (opening_at g.D.Disk.state c.args.turns.now.first) c.args.pass.now.number x (w.0 ++ f.later) c.args.keeper.value c.args.outcome) (sym c.of-op.ensures) (kept_later g.D.Disk.told g.D.Disk.state (λ d told. g.met.D.Disk.is_disk d told) (λ d. g.met.D.Disk.counts_on d) (opening_at g.D.Disk.state c.args.turns.now.first) c.args.pass.now.number c.args.op.now w.0 f.later c.args.keeper.value c.args.outcome f.others f.stands.turns w.2)))) c.leave.ensures.seen)

pub returns-clause-pass : goal.returns-clause-pass
returns-clause-pass g c =
    left_pass codes place_of c.args.turns.now c.args.pass.now c.enter-turn.new.pass c.leave.new.pass c.enter-turn.result _ c.requires.pass c.enter-turn.ensures.turn.1 (found_more c.enter-turn.ensures.found) c.enter-turn.ensures.dated c.enter-turn.ensures.out c.leave.ensures.pass c.leave.ensures.heard c.leave.ensures.dated c.leave.ensures.seen
    (numbered_own g.D.Disk.told g.D.Disk.state (opening_at g.D.Disk.state c.args.turns.now.first) c.enter-turn.result.own c.args.turns.now.passes c.args.pass.now.seen c.enter-turn.result.seen c.enter-turn.result.state c.enter-turn.ensures.found c.args.pass.now.number (Entered c.number-place.result c.of-op.result c.args.outcome) c.leave.new.pass.seen (c.number-place.ensures ∙ c.enter-turn.ensures.out.0) c.requires.pass.2 c.leave.ensures.seen)

pub returns-clause-rests : goal.returns-clause-rests
returns-clause-rests g c =
    home_rests g.D.Disk.told g.D.Disk.state (opening_at g.D.Disk.state c.args.turns.now.first) c.enter-turn.result.own c.args.turns.now.passes c.args.pass.now c.leave.new.pass c.enter-turn.result.seen c.enter-turn.result.state c.enter-turn.ensures.turn.1 (c.leave.ensures.pass.2 ∙ c.enter-turn.ensures.out.0) c.enter-turn.ensures.found
    (Entered c.number-place.result c.of-op.result c.args.outcome) c.leave.ensures.seen c.requires.kept.2.homing
