use Rattle.std.proofs.Common.{◌<◌, length, rules, subst, sym}
use Rattle.std.specs.Arc.{arc_value}
use Rattle.user_admin.specs.States.{opening_of as users_opening}
use Rattle.xc_core.specs.States.{opening_of}
use Rattle.craft_session.specs.Places.{IsLonePlace}
use Rattle.craft_session.specs.Seats.{PlaceAt}
use Rattle.craft_session.proofs.FreshPlaces.{lone}
use Rattle.craft_session.proofs.places.lone_place.Goals as goal

pub returns : goal.returns
returns g c =
    let ps = c.in_ok-places in
    let some : 0 < length ps.places.items = search (rules, ps.ensures.each) in
    let s = arc_value c.args.shelf.now in
    let o = opening_of g.D.Disk.state c.args.state in
    let u = users_opening g.U.Disk.state c.args.users in
    subst (λ (p : PlaceAt). IsLonePlace s o u p) (sym c.remove.ensures.value) (lone s o u ps.places.items c.remove.result ps.ensures.places some)
