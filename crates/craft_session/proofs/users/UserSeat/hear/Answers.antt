use Rattle.std.proofs.Common.{◌≡◌, List, length, sym, ◌∙◌, ap, subst}
use Rattle.std.specs.Arc.{arc_value}
use Rattle.turnstile.specs.Dating.{Stamp, newest}
use Rattle.turnstile.specs.Passing.{Token, with_heard}
use Rattle.craft_session.specs.Seats.{IsUserSeated, UserSeatAt, user_seat_at, users_hearing}
use Rattle.craft_session.proofs.users.UserSeat.hear.Goals as goal

pub invariant_of-self : goal.invariant_of-self
invariant_of-self g c = subst (λ (q : Token). IsUserSeated g.U.Disk.state q (arc_value c.self.inside.turns)) (sym c.hear.ensures.heard) c.self.invariant

pub returns-clause-heard : goal.returns-clause-heard
returns-clause-heard g c =
    ap (λ (q : Token). user_seat_at g.U.Disk.state q (arc_value c.self.inside.turns)) c.hear.ensures.heard
    ∙ ap (λ (l : List Stamp). user_seat_at g.U.Disk.state (with_heard c.self.inside.pass (newest l)) (arc_value c.self.inside.turns)) c.pass.ensures.stamps
    ∙ ap (λ (s : UserSeatAt). users_hearing s (newest c.args.seat.now.stamps)) c.self.view_is

pub returns-clause-as_many : goal.returns-clause-as_many
returns-clause-as_many g c = (subst (λ (q : Token). length q.stamps ≡ length q.seen) (sym c.hear.ensures.heard) c.self.invariant.0.4, c.pass.ensures.as_many)
