use Rattle.std.proofs.Common.{◌≡◌, ◌≤◌, length, map, take}
use Rattle.user_admin.specs.Verdicts.{row}
use Rattle.user_admin.proofs.table.rows_of.Given as goal

-- the rows of so many users
abbrev pub invariant-loop-at : goal.invariant-loop-at
invariant-loop-at l = record {
  few : length l.rows.items ≤ l.at;
  whole : l.rows.items ≡ map row (take l.at l.fn.users);
}
