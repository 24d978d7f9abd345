use Rattle.std.proofs.Common.{◌≡◌, List, length, sym, ◌∙◌, ap, subst}
use Rattle.std.specs.Arc.{arc_value}
use Rattle.turnstile.specs.Dating.{Stamp, newest}
use Rattle.turnstile.specs.Passing.{Token, with_heard}
use Rattle.craft_session.specs.Seats.{IsSeated, SeatAt, hearing, seat_at}
use Rattle.craft_session.proofs.seat.Seat.hear.Goals as goal

pub invariant_of-self : goal.invariant_of-self
invariant_of-self g c = subst (λ (q : Token). IsSeated g.D.Disk.told g.D.Disk.state q (arc_value c.self.inside.turns) (arc_value c.self.inside.fabric)) (sym c.hear.ensures.heard) c.self.invariant

pub returns-clause-heard : goal.returns-clause-heard
returns-clause-heard g c =
    ap (λ (q : Token). seat_at g.D.Disk.state q (arc_value c.self.inside.turns)) c.hear.ensures.heard
    ∙ ap (λ (l : List Stamp). seat_at g.D.Disk.state (with_heard c.self.inside.pass (newest l)) (arc_value c.self.inside.turns)) c.pass.ensures.stamps
    ∙ ap (λ (s : SeatAt). hearing s (newest c.args.users.now.stamps)) c.self.view_is

pub returns-clause-as_many : goal.returns-clause-as_many
returns-clause-as_many g c = (subst (λ (q : Token). length q.stamps ≡ length q.seen) (sym c.hear.ensures.heard) c.self.invariant.0.4, c.pass.ensures.as_many)
