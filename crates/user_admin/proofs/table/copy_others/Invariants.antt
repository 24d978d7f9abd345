use Rattle.std.proofs.Common.{◌≡◌, ◌+◌, ◌≤◌, take}
use Rattle.indexmap.specs.IndexMap.{index_map_len, spare}
use Rattle.user_admin.specs.Places.{keyed, others_of}
use Rattle.user_admin.proofs.table.copy_others.Given as goal

-- the others of so many users were copied
abbrev pub invariant-loop-at : goal.invariant-loop-at
invariant-loop-at l = record {
  entries : l.map.entries ≡ keyed (others_of l.fn.name (take l.at l.fn.users));
  room : 64 ≤ index_map_len l.map + spare l.map;
}
