use Rattle.std.proofs.Common.{List, subst}
use Rattle.user_admin.specs.declared.op.UserEntry.{UserEntry}
use Rattle.user_admin.specs.Resting.{SawRest}
use Rattle.user_admin.specs.Turns.{AreNumbered, Saw}
use Rattle.craft_session.specs.Seats.{UserSeatAt}
use Rattle.craft_session.proofs.users.UserSeat.seen.Goals as goal

pub returns-clause-history : goal.returns-clause-history
returns-clause-history g c = let w = c.self.invariant.1 in subst (λ (s : UserSeatAt). (h : List UserEntry) × Saw s.opening s.seen h) c.self.view_is (w.0, w.1)

pub returns-clause-numbers : goal.returns-clause-numbers
returns-clause-numbers g c = subst (λ (s : UserSeatAt). AreNumbered s.places s.seen) c.self.view_is c.self.invariant.0.3

pub returns-clause-rests : goal.returns-clause-rests
returns-clause-rests g c = subst (λ (s : UserSeatAt). SawRest s.place s.seen) c.self.view_is c.self.invariant.2
