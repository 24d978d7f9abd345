use Rattle.std.proofs.Common.{◌≡◌, ◌+◌, [], length}
use Rattle.std.specs.Arc.{arc_value}
use Rattle.user_admin.specs.Shared.{SharedStands as UsersStand}
use Rattle.craft_session.specs.Places.{AreFresh}
use Rattle.worked_restarts.proofs.element.places_of.Given as goal

abbrev pub invariant-loop-number : goal.invariant-loop-number
invariant-loop-number g l = record {
  fresh : AreFresh (arc_value l.turns).id l.number l.waiting.passes.items;
  left : length l.waiting.passes.items + l.number ≡ l.fn.count + 1;
  users_fresh : AreFresh (arc_value l.waiting.users.turns).id l.number l.waiting.users.passes.items;
  users_left : length l.waiting.users.passes.items + l.number ≡ l.fn.count + 1;
  users_within : (arc_value l.waiting.users.turns).passes ≡ l.fn.count + 1;
  users_stand : UsersStand g.U.Disk.told g.U.Disk.state (arc_value l.waiting.users.turns).first [];
}
