use Rattle.std.proofs.Common.{◌≡◌, length, ap, subst}
use Rattle.craft_session.specs.Seats.{SeatAt}
use Rattle.craft_session.proofs.seat.Seat.pass.Goals as goal

pub returns-clause-stamps : goal.returns-clause-stamps
returns-clause-stamps g c = ap (λ (s : SeatAt). s.stamps) c.self.view_is

pub returns-clause-as_many : goal.returns-clause-as_many
returns-clause-as_many g c = subst (λ (s : SeatAt). length s.stamps ≡ length s.seen) c.self.view_is c.self.invariant.0.4
