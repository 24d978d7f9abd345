use Rattle.worked_restarts.proofs.element.next_place.Goals as goal

pub place_of-requires-clause-fresh : goal.place_of-requires-clause-fresh
place_of-requires-clause-fresh g c = (c.next_pass-pass.ensures.next _ _ c.requires.fresh).0

pub place_of-requires-clause-users_fresh : goal.place_of-requires-clause-users_fresh
place_of-requires-clause-users_fresh g c = (c.next_pass-users_pass.ensures.next _ _ c.requires.users_fresh).0
