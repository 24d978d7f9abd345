use Rattle.std.proofs.Common.{◌≡◌, ◌+◌, length}
use Rattle.std.specs.Prelude.{vec_capacity}
use Rattle.std.specs.Arc.{arc_value}
use Rattle.user_admin.specs.Shared.{opening_at as users_opening}
use Rattle.xc_core.specs.States.{opening_of}
use Rattle.craft_session.specs.Places.{AreFresh, ArePlaces, turnstiles_of}
use Rattle.craft_session.proofs.places.open_places.Given as goal

abbrev pub invariant-loop-number : goal.invariant-loop-number
invariant-loop-number g l = record {
  fresh : AreFresh (arc_value l.turns).id l.number l.passes.items;
  users_fresh : AreFresh (arc_value l.users).id l.number l.users_passes.items;
  left : length l.passes.items + l.number ≡ l.fn.count;
  users_left : length l.users_passes.items + l.number ≡ l.fn.count;
  made : length l.places.items ≡ l.number;
  room : vec_capacity l.places ≡ l.fn.count;
  places : ArePlaces (arc_value l.shelf) (opening_of g.D.Disk.state (arc_value l.turns).first) (users_opening g.U.Disk.state (arc_value l.users).first) (turnstiles_of (arc_value l.turns) (arc_value l.users)) 0 l.places.items;
}
