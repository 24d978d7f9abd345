use Rattle.std.proofs.Common.{◌≡◌, ◌+◌, ◌*◌, ◌≤◌, ◌++◌, length, map, take, Option}
use Rattle.dxc_disk.specs.Disks.{LeavesOnly, Spends}
use Rattle.journal_core.specs.declared.spare.SpareArea.TheVariants.{Drafted}
use Rattle.journal_core.specs.Books.{IsWhole, draft_of, rows}
use Rattle.user_admin.specs.declared.op.UserChange.{UserChange}
use Rattle.user_admin.specs.Users.{Users}
use Rattle.user_admin.specs.Files.{IsOldOrDoubted}
use Rattle.user_admin.specs.Journals.{IsAtHome}
use Rattle.user_admin.specs.Records.{spelling}
use Rattle.user_admin.proofs.checkpoint.add_rows.Given as goal

abbrev pub invariant-loop-at : goal.invariant-loop-at
invariant-loop-at g l =
    let a = g.D.Disk.state l.fn.journal.0 in
    let m = g.D.Disk.state l.journal.0 in
    record {
      low : l.at ≤ length l.fn.changes;
      book : l.journal.1 ≡ record l.fn.journal.1 { spare = Drafted (record { equipped = (draft_of l.fn.journal.1.spare).equipped; rows = (draft_of l.fn.journal.1.spare).rows + l.at }) };
      whole : IsWhole l.journal.1;
      rows : g.D.Disk.told → rows l.journal.1 m.reads_as ≡ rows l.fn.journal.1 a.reads_as ++ map spelling (take l.at l.fn.changes);
      home : (shelf users : Users) → (doubt : Option UserChange) → IsAtHome g.D.Disk.told a l.fn.journal.1 shelf users doubt → IsAtHome g.D.Disk.told m l.journal.1 shelf users doubt;
      moments : g.D.Disk.told → (shelf users : Users) → (doubt : Option UserChange) → IsAtHome g.D.Disk.told a l.fn.journal.1 shelf users doubt → LeavesOnly a m (IsOldOrDoubted l.fn.journal.1.shape shelf users doubt);
      later : a.faults ≤ m.faults;
      room : Spends (66 * l.at) a m;
    }
