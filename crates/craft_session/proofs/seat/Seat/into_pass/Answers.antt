use Rattle.craft_session.proofs.seat.Seat.into_pass.Goals as goal

pub returns-clause-seat : goal.returns-clause-seat
returns-clause-seat g c = c.self.view_is

pub returns-clause-pass : goal.returns-clause-pass
returns-clause-pass g c = c.self.invariant.0
