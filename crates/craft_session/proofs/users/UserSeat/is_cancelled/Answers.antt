use Rattle.std.proofs.Common.{List, ◌++◌, ◌∙◌, ap, subst}
use Rattle.std.specs.Arc.{arc_value}
use Rattle.turnstile.specs.Passing.{TurnstileView}
use Rattle.user_admin.specs.declared.op.UserEntry.{UserEntry}
use Rattle.user_admin.specs.declared.shared.SharedUsers.{SharedUsers}
use Rattle.user_admin.specs.Shared.{opening_at}
use Rattle.user_admin.specs.Turns.{LookedAt, Saw}
use Rattle.craft_session.specs.Seats.{UserSeatAt, UserSeatGoesOn, user_seat_at}
use Rattle.craft_session.proofs.Keeping.{user_seat_goes}
use Rattle.craft_session.proofs.Seating.{user_seated_on, users_saw_there}
use Rattle.craft_session.proofs.users.UserSeat.is_cancelled.Goals as goal

pub invariant_of-self : goal.invariant_of-self
invariant_of-self g c =
    let t = arc_value c.self.inside.turns in
    let p = c.self.inside.pass in
    let w = c.self.invariant.1 in
    let o = opening_at g.U.Disk.state c.deref.result.now.first in
    let turn = c.is_cancelled.ensures.looked w.0 (users_saw_there g.U.Disk.state p t c.deref.result.now w.0 c.deref.ensures w.1) in
    user_seated_on g.U.Disk.state c.is_cancelled.new.pass t c.deref.result.now c.deref.ensures c.is_cancelled.ensures.pass.has (w.0 ++ turn.0.later, turn.0.saw) (c.is_cancelled.ensures.rests c.self.invariant.2)

pub returns-clause-looked : goal.returns-clause-looked
returns-clause-looked g c =
    let eq = ap (λ (t : TurnstileView (SharedUsers g.row.U.Denot)). user_seat_at g.U.Disk.state c.self.inside.pass t) c.deref.ensures ∙ c.self.view_is in
    subst (λ (s : UserSeatAt). (h : List UserEntry) → Saw s.opening s.seen h → LookedAt s.opening s.place h c.is_cancelled.new.pass.seen c.is_cancelled.result) eq c.is_cancelled.ensures.looked

pub returns-clause-goes : goal.returns-clause-goes
returns-clause-goes g c =
    let t = arc_value c.self.inside.turns in
    let eq = ap (λ (x : TurnstileView (SharedUsers g.row.U.Denot)). user_seat_at g.U.Disk.state c.self.inside.pass x) c.deref.ensures ∙ c.self.view_is in
    subst (λ (s : UserSeatAt). UserSeatGoesOn s (user_seat_at g.U.Disk.state c.is_cancelled.new.pass t)) eq (user_seat_goes g.U.Disk.state c.self.inside.pass c.is_cancelled.new.pass t c.deref.result.now c.is_cancelled.ensures.pass)
