use Rattle.std.proofs.Common.{◌∙◌, ap}
use Rattle.craft_session.specs.Seats.{PlaceAt}
use Rattle.craft_session.proofs.place.Place.into_pass.Goals as goal

pub returns-clause-seat : goal.returns-clause-seat
returns-clause-seat g c = c.into_pass.ensures.seat ∙ ap (λ (p : PlaceAt). p.seat) c.self.view_is

pub returns-clause-pass : goal.returns-clause-pass
returns-clause-pass g c = c.into_pass.ensures.pass
