use Rattle.std.specs.Arc.{arc_value}
use Rattle.craft_session.proofs.FreshPlaces.{seated, users_seated}
use Rattle.worked_restarts.proofs.places.place_of.Goals as goal

pub new-requires-clause-seated : goal.new-requires-clause-seated
new-requires-clause-seated g c =
    let r = c.requires in
    let at = seated g.D.Disk.told g.D.Disk.state c.args.pass (arc_value c.args.turns.now) (arc_value c.args.fabric.now) c.args.number r.fresh r.within r.opening.fabric in
    rw (c.in-Ok-Ok-Ok-Ok.ensures'', c.in-Ok-Ok-Ok-Ok.ensures') at

pub new-requires-clause-users_seated : goal.new-requires-clause-users_seated
new-requires-clause-users_seated g c =
    let r = c.requires in
    let at = users_seated g.U.Disk.told g.U.Disk.state c.args.users_pass (arc_value c.args.users.now) c.args.number r.users_fresh r.users_within r.users_stand in
    rw c.in-Ok-Ok-Ok-Ok.ensures''' at
