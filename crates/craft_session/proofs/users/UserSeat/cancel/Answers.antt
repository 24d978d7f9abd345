use Rattle.std.proofs.Common.{List, ◌∙◌, ap, subst}
use Rattle.std.specs.Arc.{arc_value}
use Rattle.turnstile.specs.Passing.{TurnstileView}
use Rattle.user_admin.specs.declared.op.UserEntry.{UserEntry}
use Rattle.user_admin.specs.declared.op.UserOutcome.TheVariants.{Answered}
use Rattle.user_admin.specs.declared.shared.SharedUsers.{SharedUsers}
use Rattle.tl1_users.specs.declared.op.UserOp.TheVariants.{Cancel}
use Rattle.user_admin.specs.Shared.{opening_at}
use Rattle.user_admin.specs.States.{entry}
use Rattle.user_admin.specs.Turns.{Cancels, Saw}
use Rattle.craft_session.specs.Seats.{UserSeatAt, UserSeatGoesOn, user_seat_at}
use Rattle.craft_session.proofs.Keeping.{user_seat_goes}
use Rattle.craft_session.proofs.Seating.{turn_seen, user_seated_on, users_saw_there}
use Rattle.craft_session.proofs.users.UserSeat.cancel.Goals as goal

pub invariant_of-self : goal.invariant_of-self
invariant_of-self g c =
    let t = arc_value c.self.inside.turns in
    let p = c.self.inside.pass in
    let w = c.self.invariant.1 in
    let o = opening_at g.U.Disk.state c.deref.result.now.first in
    let turn = c.cancel.ensures.cancelled w.0 (users_saw_there g.U.Disk.state p t c.deref.result.now w.0 c.deref.ensures w.1) in
    user_seated_on g.U.Disk.state c.cancel.new.pass t c.deref.result.now c.deref.ensures c.cancel.ensures.pass.has (turn_seen o p.number w.0 (entry p.number (Cancel c.args.uid) Answered) c.cancel.new.pass.seen turn) (c.cancel.ensures.rests c.self.invariant.2)

pub returns-clause-cancelled : goal.returns-clause-cancelled
returns-clause-cancelled g c =
    let eq = ap (λ (t : TurnstileView (SharedUsers g.row.U.Denot)). user_seat_at g.U.Disk.state c.self.inside.pass t) c.deref.ensures ∙ c.self.view_is in
    subst (λ (s : UserSeatAt). (h : List UserEntry) → Saw s.opening s.seen h → Cancels s.opening s.place h c.args.uid c.cancel.new.pass.seen) eq c.cancel.ensures.cancelled

pub returns-clause-goes : goal.returns-clause-goes
returns-clause-goes g c =
    let t = arc_value c.self.inside.turns in
    let eq = ap (λ (x : TurnstileView (SharedUsers g.row.U.Denot)). user_seat_at g.U.Disk.state c.self.inside.pass x) c.deref.ensures ∙ c.self.view_is in
    subst (λ (s : UserSeatAt). UserSeatGoesOn s (user_seat_at g.U.Disk.state c.cancel.new.pass t)) eq (user_seat_goes g.U.Disk.state c.self.inside.pass c.cancel.new.pass t c.deref.result.now c.cancel.ensures.pass)
