use Rattle.std.proofs.Common.{◌≡◌, ℕ, ◌≤◌, List, length, take}
use Rattle.dxc_disk.specs.Disks.{Looks, ReadsNoMore, Spends}
use Rattle.journal_core.specs.Books.{listed}
use Rattle.user_admin.specs.Files.{FoldsTo}
use Rattle.user_admin.proofs.fold.fold.Given as goal

abbrev pub invariant-loop-i : goal.invariant-loop-i
invariant-loop-i g l = record {
  described : l.lists.described ≡ l.fn.lists.described;
  book : l.journal.1 ≡ l.fn.journal.1;
  looks : g.D.Disk.told → Looks (g.D.Disk.state l.fn.journal.0) (g.D.Disk.state l.journal.0);
  no_more : g.D.Disk.told → ReadsNoMore (g.D.Disk.state l.fn.journal.0) (g.D.Disk.state l.journal.0);
  later : (g.D.Disk.state l.fn.journal.0).faults ≤ (g.D.Disk.state l.journal.0).faults;
  spent : Spends l.i (g.D.Disk.state l.fn.journal.0) (g.D.Disk.state l.journal.0);
  so_far : (records : List (List ℕ)) × (length records ≡ l.i) × (g.D.Disk.told → records ≡ take l.i (listed l.fn.journal.1 (g.D.Disk.state l.fn.journal.0).reads_as)) × FoldsTo l.fn.lists.described records l.lists.users;
}
