use Rattle.std.proofs.Common.{◌≡◌, ◌≤◌, ◌-◌, Ok, drop, length}
use Rattle.std.specs.Arc.{arc_value}
use Rattle.craft_session.specs.declared.end.Progress.TheVariants.{On}
use Rattle.craft_session.specs.Gated.{AreEntered}
use Rattle.craft_session.specs.Gathered.{GoesTo, desk_at, to_read}
use Rattle.craft_session.specs.Noted.{HasNoted, stood}
use Rattle.craft_session.specs.Seats.{IsSameSeat, IsSameUserSeat}
use Rattle.craft_session.specs.Sessions.{Writes}
use Rattle.craft_session.specs.Timely.{telling}
use Rattle.craft_session.proofs.session.serve_units.Given as goal

abbrev pub invariant-loop-at : goal.invariant-loop-at
invariant-loop-at g l =
    let state = g.K.Link.state in
    let coming = g.C.Timestamps.coming in
    record {
      shelf : l.desk.shelf ≡ l.fn.desk.shelf;
      seat : IsSameSeat l.fn.desk.seat l.desk.seat;
      users : IsSameUserSeat l.fn.desk.users.seat l.desk.users.seat;
      link : Writes g.K.Link.told (state l.fn.link) (state l.link);
      hung_up : g.K.Link.hung_up l.link ≡ g.K.Link.hung_up l.fn.link;
      gate : g.G.Gate.stops l.gate ≡ g.G.Gate.stops l.fn.gate;
      within : l.at ≤ length l.piece;
      asked : AreEntered l.fn.desk.seat l.fn.desk.users.seat (g.G.Gate.asked l.fn.gate l.gate) l.desk.seat.seen l.desk.users.seat.seen;
      noted : HasNoted (arc_value l.fn.desk.shelf) (telling g.K.Link.told g.C.Timestamps.told g.C.Timestamps.stamped) (stood (state l.fn.link) (coming l.fn.clock) l.fn.desk.seat l.fn.desk.users.seat l.fn.desk.attending) (stood (state l.link) (coming l.clock) l.desk.seat l.desk.users.seat l.desk.attending) (g.N.Notes.noted l.fn.notes l.notes);
      goes : GoesTo (telling g.K.Link.told g.C.Timestamps.told g.C.Timestamps.stamped) (desk_at (state l.fn.link) (coming l.fn.clock) l.fn.desk) (desk_at (state l.link) (coming l.clock) l.desk) (to_read l.fn.desk.attending l.fn.desk.reader l.piece) l.desk.reader (drop l.at l.piece) (Ok On);
    }

abbrev pub decreases-loop-at : goal.decreases-loop-at
decreases-loop-at g l = length l.piece - l.at
