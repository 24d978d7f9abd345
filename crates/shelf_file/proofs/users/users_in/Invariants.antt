use Rattle.std.proofs.Common.{◌≡◌, None, map, take}
use Rattle.toml.specs.View.{view}
use Rattle.shelf_file.specs.Keys.{tables_in}
use Rattle.shelf_file.specs.Checks.{first_some}
use Rattle.shelf_file.specs.Contents.{AreUsers}
use Rattle.shelf_file.specs.Users.{entries_of}
use Rattle.shelf_file.proofs.Growing.{checks_up_to}
use Rattle.shelf_file.proofs.users.users_in.Given as goal

abbrev pub invariant-loop-place : goal.invariant-loop-place
invariant-loop-place l = record {
  users : AreUsers (take l.place (tables_in (map view l.list.items))) (entries_of l.users.items);
  faultless : first_some (checks_up_to (tables_in (map view l.list.items)) l.place) ≡ None;
}
