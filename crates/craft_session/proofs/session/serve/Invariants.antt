use Rattle.std.proofs.Common.{◌≡◌, ◌<◌, [], false, length}
use Rattle.std.specs.Arc.{arc_value}
use Rattle.dxc_causes.specs.Causes.{Counted}
use Rattle.tl1_text.specs.declared.reader.UnitKind.TheVariants.{More}
use Rattle.user_admin.specs.Turns.{Saw as SawUsers}
use Rattle.xc_core.specs.Seeing.{Saw}
use Rattle.dxc_model.specs.declared.user.SessionUser.TheVariants.{Nobody}
use Rattle.craft_session.specs.Cancelling.{Heeds}
use Rattle.craft_session.specs.Desks.{now}
use Rattle.craft_session.specs.Gated.{AreEntered}
use Rattle.craft_session.specs.Meanings.{language_for}
use Rattle.craft_session.specs.Noted.{HasNoted, stood}
use Rattle.craft_session.specs.Seats.{IsSameSeat, IsSameUserSeat}
use Rattle.craft_session.specs.Sessions.{Beginning, IsAt, IsFrom, IsPrompt, Stands}
use Rattle.craft_session.specs.Timely.{IsTimely, reached, starting, telling}
use Rattle.craft_session.specs.declared.patience.Patience.TheVariants.{Limited}
use Rattle.craft_session.proofs.Idling.{Idles}
use Rattle.craft_session.proofs.Waiting.{Waits}
use Rattle.craft_session.proofs.session.serve.Given as goal

abbrev pub invariant-loop : goal.invariant-loop
invariant-loop g l =
    let state = g.K.Link.state in
    let coming = g.C.Timestamps.coming in
    record {
      shelf : l.desk.shelf ≡ l.fn.desk.shelf;
      seat : IsSameSeat l.fn.desk.seat l.desk.seat;
      users : IsSameUserSeat l.fn.desk.users.seat l.desk.users.seat;
      stands : (b : Beginning) → IsAt b l.fn.desk.seat l.fn.desk.users.seat → Saw b.opening l.fn.desk.seat.seen b.before → SawUsers b.users l.fn.desk.users.seat.seen b.users_before → IsFrom b l.fn.desk.seat l.fn.desk.users.seat → Stands (language_for l.fn.desk.attending.user (arc_value l.fn.desk.shelf)) g.K.Link.told g.C.Timestamps.told (state l.fn.link) (state l.link) (coming l.fn.clock) (coming l.clock) b (now l.desk) false More l.desk.reader [];
      prompt : IsPrompt (language_for l.fn.desk.attending.user (arc_value l.fn.desk.shelf)) g.K.Link.begun g.K.Link.told g.C.Timestamps.told (state l.fn.link) (state l.link) (coming l.fn.clock) l.fn.desk.seat l.fn.desk.users.seat;
      timely : (b : Beginning) (at : IsAt b l.fn.desk.seat l.fn.desk.users.seat) (saw : Saw b.opening l.fn.desk.seat.seen b.before) (users_saw : SawUsers b.users l.fn.desk.users.seat.seen b.users_before) (first : IsFrom b l.fn.desk.seat l.fn.desk.users.seat)
          → IsTimely (language_for l.fn.desk.attending.user (arc_value l.fn.desk.shelf)) (telling g.K.Link.told g.C.Timestamps.told g.C.Timestamps.stamped) (starting (state l.fn.link) (coming l.fn.clock) b) (state l.fn.link) (reached (state l.link).written l.desk.seat.seen l.desk.users.seat.seen) (stands b at saw users_saw first).past.walk;
      gate : g.G.Gate.stops l.gate ≡ g.G.Gate.stops l.fn.gate;
      counted : Counted (state l.fn.link).reads (state l.link).reads l.counter;
      faults : (state l.link).read_faults ≡ (state l.fn.link).read_faults;
      not_ended : 0 < l.counter → (state l.link).ended ≡ false;
      hung_up : g.K.Link.hung_up l.link ≡ g.K.Link.hung_up l.fn.link;
      room : 0 < length l.piece;
      asked : AreEntered l.fn.desk.seat l.fn.desk.users.seat (g.G.Gate.asked l.fn.gate l.gate) l.desk.seat.seen l.desk.users.seat.seen;
      noted : HasNoted (arc_value l.fn.desk.shelf) (telling g.K.Link.told g.C.Timestamps.told g.C.Timestamps.stamped) (stood (state l.fn.link) (coming l.fn.clock) l.fn.desk.seat l.fn.desk.users.seat l.fn.desk.attending) (stood (state l.link) (coming l.clock) l.desk.seat l.desk.users.seat l.desk.attending) (g.N.Notes.noted l.fn.notes l.notes);
      waits : Waits (l.fn.patience ≡ Limited) (language_for l.fn.desk.attending.user (arc_value l.fn.desk.shelf)) g.K.Link.begun g.K.Link.told g.C.Timestamps.told (state l.fn.link) (coming l.fn.clock) l.fn.desk.seat l.fn.desk.users.seat (state l.link) l.counter l.waited;
      idles : Idles (l.fn.patience ≡ Limited) ((arc_value l.fn.desk.shelf).idle) (language_for l.fn.desk.attending.user (arc_value l.fn.desk.shelf)) g.K.Link.begun g.K.Link.told g.C.Timestamps.told (state l.fn.link) (coming l.fn.clock) l.fn.desk.seat l.fn.desk.users.seat (state l.link) l.desk.attending.user l.counter l.silent;
      heeds : l.fn.patience ≡ Limited → Heeds (language_for l.fn.desk.attending.user (arc_value l.fn.desk.shelf)) g.K.Link.begun g.K.Link.told g.C.Timestamps.told (state l.fn.link) (coming l.fn.clock) l.fn.desk.seat l.fn.desk.users.seat (state l.link);
      vacant : l.fn.patience ≡ Limited → l.counter ≡ 0 → l.desk.attending.user ≡ Nobody;
    }
