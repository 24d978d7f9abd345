-- What stands for the changes of a history where the Provisioner is home: what a crash leaves of its journal, now or at any moment before, and a standby's copy.
use Rattle.std.specs.Prelude.{◌≡◌, ◌≤◌, ◌<◌, ℕ, List, length, None, IfSome, Box}
use Rattle.std.specs.declared.alloc.Global.{Global}
use Rattle.dxc_disk.specs.Disks.{DiskState, IsSynced, Leaves}
use Rattle.dxc_model.specs.declared.entry.Entry.{Entry}
use Rattle.dxc_model.specs.Histories.{changes_of}
use Rattle.shelf_file.specs.Contents.{Contents}
use Rattle.standby_link.specs.Laws.{KeepsUp, named}
use Rattle.standby_link.specs.Lines.{LineState}
use Rattle.standby_link.specs.Mirrored.{IsCurrent, Mirrors, ReadsAlong}
use Rattle.standby_link.specs.Mirrors.{Pair, Primary}
use Rattle.standby_link.specs.Moves.{mirrored}
use Rattle.xc_core.specs.declared.provisioner.Driver.{Driver}
use Rattle.xc_core.specs.declared.provisioner.Provisioner.{Provisioner}
use Rattle.xc_core.specs.declared.state.Home.{Home}
use Rattle.xc_core.specs.declared.state.Home.TheVariants.{In, Out}
use Rattle.xc_core.specs.Adoptions.{IsStrange}
use Rattle.xc_core.specs.Journals.{IsOldOrDoubted}
use Rattle.xc_core.specs.Operations.{EndsAt, HasRead}
use Rattle.xc_core.specs.Reckonings.{Past, ReckonsTo}
use Rattle.xc_core.specs.States.{IsUncertain, Opening, outset_of}
use Rattle.core_laws.specs.Mirrorings.{EndedBy, EndedByReading, StandsForFirst}

-- Each file that a crash may leave of the journal stands for these changes, or for these and the one in doubt. One that a crash at an earlier moment left stands for
-- the changes of the first operations that made these, or for one more, and so does a standby's.
pub record StandsForChanges {D : Type 0} (told : Type 0) (state : D → DiskState) (o : Opening) (h : List Entry) (p : Provisioner D) : Type 0 where
  pub past : Past
  pub reckoned : ReckonsTo o.first (changes_of h) past
  pub crash : told → Leaves (state p.journal.0) (IsOldOrDoubted past p.doubt)
  -- All that the journal's disk has read since it was handed out it read in operations, which made these changes; where nothing is uncertain it synced last.
  pub read : told → HasRead (outset_of o) (changes_of h) past (state p.journal.0)
  pub synced : told → (IsUncertain h → ⊥) → IsSynced (state p.journal.0)
  -- Whatever moment since the end of one of these operations a crash came at, also while a command used the journal: the file that it leaves stands for the changes of
  -- the first of them, with all that had ended by that end, and maybe for one more.
  pub crashes : (t : told) → (at : ℕ) (file : List ℕ) → EndsAt (read t).operations at → (state p.journal.0).left_since at file
      → StandsForFirst o.first (read t).operations p.doubt (EndedBy (read t).operations at) file
  -- Of each primary that the disk reads along with, whenever either end stopped or was lost, in the middle of an operation too: by its name its standby's copy is no
  -- file, or one that stands for the changes of the first of these operations, and maybe for one more. All operations that ended by the last sync that was answered
  -- while Joined are among the first.
  pub standby : (t : told) → (pair : Pair) (by : ℕ) → length o.readings ≤ by → (0 < pair.standby.synced → KeepsUp pair) → ReadsAlong (state p.journal.0) pair.primary by
      → IfSome (named pair.standby) (StandsForFirst o.first (read t).operations p.doubt (EndedByReading (outset_of o) (read t).operations by))
  -- Where nothing is uncertain, and the mirror is Joined, the primary is current: no call came after the last sync that it answered.
  pub joined : told → (IsUncertain h → ⊥) → (line : LineState) (primary : Primary) (by : ℕ) → Mirrors told (mirrored (state p.journal.0) line) primary by → line.lost ≡ None
      → IsCurrent (state p.journal.0) primary
  -- The file of a standby whose primary is current stands for all of these changes, or for these and the one in doubt; and it isn't strange to the registers.
  pub copy : told → (pair : Pair) → KeepsUp pair → IsCurrent (state p.journal.0) pair.primary → IsOldOrDoubted past p.doubt pair.standby.file
  pub adopted : told → (pair : Pair) → KeepsUp pair → IsCurrent (state p.journal.0) pair.primary
      → (shelf : Contents) → shelf.shape ≡ p.journal.1.shape → IsStrange (Unit {0}) pair.standby.file shelf p.mover → ⊥

abbrev pub LeavesChanges : {D : Type 0} → Type 0 → (D → DiskState) → Opening → List Entry → Home D → Type 0
LeavesChanges told state o h (In d) = StandsForChanges told state o h d.value.p
LeavesChanges told state o h (Out e) = Unit {0}

-- the Provisioner is home, and all of that stands for the history's changes
pub record IsBroughtHome {D : Type 0} (told : Type 0) (state : D → DiskState) (o : Opening) (h : List Entry) (home : Home D) : Type 0 where
  pub driver : Box (Driver D) Global
  pub is : home ≡ In driver
  pub stands : StandsForChanges told state o h driver.value.p
