use Rattle.std.proofs.Common.{◌≡◌, ◌-◌, ◌*◌, ◌≤◌, length, take, Option}
use Rattle.dxc_disk.specs.Disks.{LeavesOnly, Spends}
use Rattle.dxc_model.specs.declared.op.Op.{Op}
use Rattle.journal_core.specs.declared.spare.SpareArea.TheVariants.{Drafted}
use Rattle.journal_core.specs.Books.{IsWhole, draft_of, listed, rows}
use Rattle.journal_core.specs.Turns.{Keeps}
use Rattle.xc_recovery.specs.Rows.{IsRowAt, checkpoint}
use Rattle.xc_core.specs.Reckonings.{IsTable, Past}
use Rattle.xc_core.specs.Journals.{IsAtHome, IsOldOrDoubted}
use Rattle.xc_core.proofs.checkpoint.add_rows.Given as goal

abbrev pub invariant-loop-row : goal.invariant-loop-row
invariant-loop-row g l =
    let a = g.D.Disk.state l.fn.journal.0 in
    let m = g.D.Disk.state l.journal.0 in
    record {
      at : IsRowAt l.fn.table l.i l.port;
      low : l.i ≤ length (checkpoint l.fn.table l.fn.matrix);
      book : l.journal.1 ≡ record l.fn.journal.1 { spare = Drafted (record { equipped = (draft_of l.fn.journal.1.spare).equipped; rows = l.i }) };
      whole : IsWhole l.journal.1;
      rows : g.D.Disk.told → rows l.journal.1 m.reads_as ≡ take l.i (checkpoint l.fn.table l.fn.matrix);
      home : (b : Past) → (doubt : Option Op) → IsAtHome g.D.Disk.told a l.fn.journal.1 b doubt → IsAtHome g.D.Disk.told m l.journal.1 b doubt;
      moments : g.D.Disk.told → (b : Past) → (doubt : Option Op) → IsAtHome g.D.Disk.told a l.fn.journal.1 b doubt → IsTable b l.fn.table l.fn.matrix → LeavesOnly a m (IsOldOrDoubted b doubt);
      same : g.D.Disk.told → listed l.journal.1 m.reads_as ≡ listed l.fn.journal.1 a.reads_as;
      keeps : g.D.Disk.told → (b : Past) → (doubt : Option Op) → IsAtHome g.D.Disk.told a l.fn.journal.1 b doubt → Keeps a m l.fn.journal.1;
      later : a.faults ≤ m.faults;
      room : Spends (66 * l.i) a m;
    }

abbrev pub decreases-loop-row : goal.decreases-loop-row
decreases-loop-row g l = 6_145 - l.i
