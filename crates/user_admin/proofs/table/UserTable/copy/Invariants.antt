use Rattle.std.proofs.Common.{◌≡◌, ◌≤◌, length}
use Rattle.std.specs.FinMap.{entries}
use Rattle.user_admin.proofs.Copying.{from_place}
use Rattle.user_admin.proofs.table.UserTable.copy.Given as goal

-- the last users are copied
abbrev pub invariant-loop-left : goal.invariant-loop-left
invariant-loop-left l = record {
  few : l.left ≤ length (entries l.fn.self);
  put : l.table ≡ from_place l.fn.self l.left;
}

abbrev pub decreases-loop-left : goal.decreases-loop-left
decreases-loop-left l = l.left
