use Rattle.std.proofs.Common.{List, subst}
use Rattle.dxc_model.specs.declared.entry.Entry.{Entry}
use Rattle.xc_core.specs.Seeing.{Saw}
use Rattle.xc_core.specs.Turns.{AreNumbered, SawNoneAstray}
use Rattle.craft_session.specs.Seats.{SeatAt}
use Rattle.craft_session.proofs.seat.Seat.seen.Goals as goal

pub returns-clause-history : goal.returns-clause-history
returns-clause-history g c = let w = c.self.invariant.2 in subst (λ (s : SeatAt). (h : List Entry) × Saw s.opening s.seen h) c.self.view_is (w.0, w.1)

pub returns-clause-numbers : goal.returns-clause-numbers
returns-clause-numbers g c = subst (λ (s : SeatAt). AreNumbered s.places s.seen) c.self.view_is c.self.invariant.0.3

pub returns-clause-astray : goal.returns-clause-astray
returns-clause-astray g c = subst (λ (s : SeatAt). SawNoneAstray g.D.Disk.told s.seen) c.self.view_is c.self.invariant.3
