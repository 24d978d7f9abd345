use Rattle.std.proofs.Common.{rules, arith, ◌∙◌, ap, subst}
use Rattle.std.specs.Arc.{arc_value}
use Rattle.user_admin.specs.declared.shared.SharedUsers.{SharedUsers}
use Rattle.user_admin.specs.declared.state.UserState.{UserState}
use Rattle.user_admin.specs.Coding.{opening_coded as users_coded}
use Rattle.user_admin.specs.Histories.{Opening as UsersOpening}
use Rattle.user_admin.specs.Shared.{opening_at as shared_opening}
use Rattle.user_admin.specs.States.{opening_of as users_opening}
use Rattle.xc_core.specs.declared.state.State.{State}
use Rattle.xc_core.specs.States.{opening_of}
use Rattle.craft_session.specs.Places.{ArePlaces, IsMadeFor, place_at, turnstiles_of}
use Rattle.craft_session.proofs.FreshPlaces.{places_more}
use Rattle.craft_session.proofs.places.open_places.Goals as goal

pub loop-number-preserved : goal.loop-number-preserved
loop-number-preserved g c =
    let s = arc_value c.args.shelf.now in
    let o = opening_of g.D.Disk.state (arc_value c.in_ok-turns.turns).first in
    let u = shared_opening g.U.Disk.state (arc_value c.in_ok-users.users).first in
    let i = c.loop-number.invariant in
    let t = turnstiles_of (arc_value c.in_ok-turns.turns) (arc_value c.in_ok-users.users) in
    let at = c.in_ok-place.ensures ∙ ap (place_at s o u t) (omega (arith, i.made)) in
    record {
      fresh = (c.next_pass-pass.ensures.next _ _ i.fresh).1;
      users_fresh = (c.next_pass-users_pass.ensures.next _ _ i.users_fresh).1;
      left = search rules;
      users_left = search rules;
      made = search rules;
      room = search rules;
      places = rw c.push_reserved.ensures.items (places_more s o u t 0 c.loop-number.places.items c.in_ok-place.place i.places at);
    }

pub returns-clause-places : goal.returns-clause-places
returns-clause-places g c =
    let turns = c.in_ok-turns.ensures in
    let users = c.in_ok-users.ensures in
    let t = turnstiles_of (arc_value c.in_ok-turns.turns) (arc_value c.in_ok-users.users) in
    let began = ap (λ (x : UserState g.row.U.Denot). users_opening g.U.Disk.state x) c.in_ok-shared.ensures.first in
    let opened = ap (λ (x : SharedUsers g.row.U.Denot). shared_opening g.U.Disk.state x) users.turns.0 ∙ began in
    record {
      turnstiles = t;
      count = turns.turns.1;
      each = subst (λ (x : State g.row.D.Denot × UsersOpening). ArePlaces (arc_value c.args.shelf.now) (opening_of g.D.Disk.state x.0) x.1 t 0 c.loop-number.places.items) (λ k. (turns.turns.0 k, opened k)) c.loop-number.invariant.places;
      state_made = turns.made;
      users_made = subst (λ (x : UsersOpening). IsMadeFor (users_coded.code x) c.args.count (arc_value c.in_ok-users.users).id) began users.made;
    }

pub place_of-requires-clause-fresh : goal.place_of-requires-clause-fresh
place_of-requires-clause-fresh g c = (c.next_pass-pass.ensures.next _ _ c.loop-number.invariant.fresh).0

pub place_of-requires-clause-users_fresh : goal.place_of-requires-clause-users_fresh
place_of-requires-clause-users_fresh g c = (c.next_pass-users_pass.ensures.next _ _ c.loop-number.invariant.users_fresh).0
