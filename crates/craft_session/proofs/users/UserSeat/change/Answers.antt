use Rattle.std.proofs.Common.{List, ◌∙◌, ap, subst}
use Rattle.std.specs.Arc.{arc_value}
use Rattle.turnstile.specs.Passing.{TurnstileView}
use Rattle.user_admin.specs.declared.op.UserEntry.{UserEntry}
use Rattle.user_admin.specs.declared.shared.SharedUsers.{SharedUsers}
use Rattle.user_admin.specs.Shared.{opening_at}
use Rattle.user_admin.specs.Turns.{Saw, TookIs}
use Rattle.craft_session.specs.Seats.{UserSeatAt, UserSeatGoesOn, user_seat_at}
use Rattle.craft_session.proofs.Keeping.{user_seat_goes}
use Rattle.craft_session.proofs.Seating.{took_seen, user_seated_on, users_saw_there}
use Rattle.craft_session.proofs.users.UserSeat.change.Goals as goal

pub invariant_of-self : goal.invariant_of-self
invariant_of-self g c =
    let t = arc_value c.self.inside.turns in
    let p = c.self.inside.pass in
    let w = c.self.invariant.1 in
    let o = opening_at g.U.Disk.state c.deref.result.now.first in
    let turn = c.change.ensures.took w.0 (users_saw_there g.U.Disk.state p t c.deref.result.now w.0 c.deref.ensures w.1) in
    user_seated_on g.U.Disk.state c.change.new.pass t c.deref.result.now c.deref.ensures c.change.ensures.pass.has (took_seen o p.number w.0 c.args.op c.change.new.pass.seen c.change.result turn) (c.change.ensures.rests c.self.invariant.2)

pub returns-clause-took : goal.returns-clause-took
returns-clause-took g c =
    let eq = ap (λ (t : TurnstileView (SharedUsers g.row.U.Denot)). user_seat_at g.U.Disk.state c.self.inside.pass t) c.deref.ensures ∙ c.self.view_is in
    subst (λ (s : UserSeatAt). (h : List UserEntry) → Saw s.opening s.seen h → TookIs s.opening s.place h c.args.op c.change.new.pass.seen c.change.result) eq c.change.ensures.took

pub returns-clause-goes : goal.returns-clause-goes
returns-clause-goes g c =
    let t = arc_value c.self.inside.turns in
    let eq = ap (λ (x : TurnstileView (SharedUsers g.row.U.Denot)). user_seat_at g.U.Disk.state c.self.inside.pass x) c.deref.ensures ∙ c.self.view_is in
    subst (λ (s : UserSeatAt). UserSeatGoesOn s (user_seat_at g.U.Disk.state c.change.new.pass t)) eq (user_seat_goes g.U.Disk.state c.self.inside.pass c.change.new.pass t c.deref.result.now c.change.ensures.pass)
