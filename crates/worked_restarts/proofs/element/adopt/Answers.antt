use Rattle.std.proofs.Common.{subst}
use Rattle.fabric_words.specs.Seats.{FabricId}
use Rattle.xc_core.specs.States.{opening_of}
use Rattle.craft_session.specs.Places.{IsAtOpening}
use Rattle.craft_session.proofs.FreshPlaces.{at_opening}
use Rattle.worked_restarts.proofs.element.adopt.Goals as goal

pub returns-in-State-clause-opening : goal.returns-in-State-clause-opening
returns-in-State-clause-opening g c =
    let o = opening_of g.D.Disk.state c.in-State.state in
    let opens = c.in-State.ensures.state.0.opens in
    let at = at_opening g.D.Disk.told (g.D.Disk.state c.args.disk).reads_as c.args.shelf.now c.args.seat.fabric o opens in
    subst (λ (i : FabricId). IsAtOpening o c.args.shelf.now i) c.requires.own at
