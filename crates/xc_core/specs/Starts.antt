-- What a start has read of its journal.
use Rattle.std.specs.Prelude.{◌≡◌, ℕ, false, List, length, None, Result, Ok, Err}
use Rattle.dbchg_reports.specs.Recent.{no_changes}
use Rattle.dxc_disk.specs.Disks.{DiskState, Looks, ReadsNoMore, files}
use Rattle.dxc_num.specs.Dimensions.{Dimensions}
use Rattle.fabric_words.specs.Seats.{MoverAt}
use Rattle.journal_core.specs.declared.book.Book.{Book}
use Rattle.journal_core.specs.Headers.{IsNew}
use Rattle.journal_core.specs.Books.{IsKept, IsWhole, listed}
use Rattle.journal_core.specs.Opens.{OpensNew, OpensOld, made_head}
use Rattle.shelf_file.specs.Contents.{Contents}
use Rattle.xc_recovery.specs.Replays.{ComesTo}
use Rattle.xc_recovery.specs.declared.fault.ReplayFault.{ReplayFault}
use Rattle.xc_recovery.specs.declared.fault.ReplayFault.TheVariants as replay
use Rattle.xc_core.specs.declared.fault.OpenFault.{OpenFault}
use Rattle.xc_core.specs.declared.fault.OpenFault.TheVariants as open_fault
use Rattle.xc_core.specs.declared.start.Blank.{Blank}
use Rattle.xc_core.specs.declared.start.Housed.{Housed}
use Rattle.xc_core.specs.declared.start.Start.{Start}
use Rattle.xc_core.specs.Openings.{disk_of_fault}
use Rattle.xc_core.specs.Provisioners.{HasRoom}

-- the disk that is read, or handed back
abbrev pub disk_left : {D : Type 0} → Result (Start D) (OpenFault D) → D
disk_left (Ok x) = x.p.journal.0
disk_left (Err e) = disk_of_fault e

-- why a journal on this disk couldn't be read
abbrev pub read_fault : {D : Type 0} → ReplayFault → D → OpenFault D
read_fault (replay.BadRecord i) d = open_fault.BadRecord i d
read_fault replay.Disk d = open_fault.Disk d

-- memory for a journal of this shape
pub record IsBlank (d : Dimensions) (x : Blank) : Type 0 where
  pub table : x.table.shape ≡ d
  pub matrix : x.matrix.shape ≡ d
  pub fresh : x.reports ≡ no_changes
  pub room : HasRoom d x.replayed

-- As many records were read as the journal counts that was opened, where the disk tells its content these; table and matrix are what they
-- come to. The Provisioner is otherwise as nothing made it.
pub record IsStart {D : Type 0} (told : Type 0) (state : D → DiskState) (shelf : Contents) (a : DiskState) (seat : MoverAt) (x : Start D) : Type 0 where
  -- as it was opened
  pub journal : D × Book
  pub handed : files (state x.handed.value).readings ≡ files a.readings
  pub fresh : x.reports ≡ no_changes
  pub held : x.p ≡ record { matrix = x.p.matrix; journal = x.p.journal; mover = seat; doubt = None; changes = 0; halted = false; spent = 0; replayed = x.p.replayed }
  pub old : told → (IsNew a.reads_as → ⊥) → OpensOld shelf.shape a (state journal.0) (Ok journal.1)
  pub new : told → IsNew a.reads_as → OpensNew shelf.shape (made_head shelf.equipped) a (state journal.0) (Ok journal.1)
  pub whole_book : IsWhole journal.1
  pub shape : journal.1.shape ≡ shelf.shape
  pub whole : journal.1.to_mend ≡ false
  pub still : journal.1.turning ≡ false
  pub same : x.p.journal.1 ≡ journal.1
  pub looks : told → Looks (state journal.0) (state x.p.journal.0)
  pub no_more : told → ReadsNoMore (state journal.0) (state x.p.journal.0)
  pub kept : told → IsKept (state journal.0) journal.1 → IsKept (state x.p.journal.0) x.p.journal.1
  pub records : List (List ℕ)
  pub number : length records ≡ journal.1.count
  pub read : told → records ≡ listed journal.1 (state journal.0).reads_as
  pub comes : ComesTo journal.1.shape journal.1.head records x.table x.p.matrix x.last.ops.items
  pub room : HasRoom shelf.shape x.p.replayed

-- the same, with its Provisioner in a box
pub record IsHoused {D : Type 0} (x : Start D) (h : Housed D) : Type 0 where
  pub table : h.beside.table ≡ x.table
  pub reports : h.beside.reports ≡ x.reports
  pub last : h.beside.last ≡ x.last
  pub handed : h.beside.handed.value ≡ x.handed.value
  pub p : h.driver.value.p ≡ x.p
