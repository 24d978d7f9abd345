-- The users' journal, beside the users.
use Rattle.std.specs.Prelude.{◌≡◌, ℕ, ◌<◌, true, List, [], length, take, get_or, Option, Some, Result, Ok, Err}
use Rattle.dxc_disk.specs.Disks.{DiskState, LeavesOnly}
use Rattle.dxc_disk.specs.declared.disk.Disk.{Ghosts as DiskOf}
use Rattle.journal_core.specs.declared.book.Book.{Book}
use Rattle.journal_core.specs.Books.{IsKept, doubted, is_tried, listed, rows}
use Rattle.user_admin.specs.declared.op.UserChange.{UserChange}
use Rattle.user_admin.specs.declared.fold.FoldFault.{FoldFault}
use Rattle.user_admin.specs.declared.fold.FoldFault.TheVariants.{BadRecord, Disk}
use Rattle.user_admin.specs.declared.state.Lists.{Lists}
use Rattle.user_admin.specs.Users.{Users}
use Rattle.user_admin.specs.Changes.{Fits}
use Rattle.user_admin.specs.Records.{Means}
use Rattle.user_admin.specs.Files.{FoldsTo, IsOldOrDoubted}

-- of a disk that doesn't tell its content nothing is known
module _ (told : Type 0) (s : DiskState) (book : Book) (shelf users : Users) where
  -- the record in doubt is that of the change in doubt
  pub record HoldsDoubt (doubt : Option UserChange) : Type 0 where
    pub change : UserChange
    pub asked : doubt ≡ Some change
    pub fits : Fits change users
    pub reads : told → Means shelf (doubted book s.reads_as) change

  -- The list leads from the shelf's users to these, and so do the rows of a turn that was tried; a record may stand after the list, that
  -- of the change in doubt.
  pub record IsAtHome (doubt : Option UserChange) : Type 0 where
    pub kept : told → IsKept s book
    pub lists : told → FoldsTo shelf (listed book s.reads_as) users
    pub doubts : book.to_mend ≡ true → HoldsDoubt doubt
    pub tried : told → is_tried book.spare ≡ true → FoldsTo shelf (rows book s.reads_as) users

-- the shelf's users, and those that are kept
abbrev pub lists : Users → Users → Lists
lists shelf users = record { described = shelf; users = users }

-- a journal with its disk is at home with both
abbrev pub IsHome : {D : Type 0} → DiskOf D → D × Book → Lists → Option UserChange → Type 0
IsHome g j l doubt = IsAtHome g.told (g.state j.0) j.1 l.described l.users doubt

-- as it was at home, so it is still
abbrev pub StaysHome : {D : Type 0} → DiskOf D → (old new : D × Book) → Lists → Type 0
StaysHome g j k l = (doubt : Option UserChange) → IsHome g j l doubt → IsHome g k l doubt

-- what a crash leaves meanwhile stands for the users as they were, or for these after the change in doubt
abbrev pub LeavesHome : {D : Type 0} → DiskOf D → (old new : D × Book) → Lists → Type 0
LeavesHome g j k l = (doubt : Option UserChange) → IsHome g j l doubt → LeavesOnly (g.state j.0) (g.state k.0) (IsOldOrDoubted j.1.shape l.described l.users doubt)

-- record i means no change that fits the users after the records before it, which have such changes
pub record IsBadRecord (shelf : Users) (records : List (List ℕ)) (i : ℕ) (users : Users) : Type 0 where
  pub within : i < length records
  pub before : FoldsTo shelf (take i records) users
  pub bad : (c : UserChange) → Means shelf (get_or records i []) c → Fits c users → ⊥

-- what the taking of all records comes to
abbrev pub Replays : Users → List (List ℕ) → Result (Unit {0}) FoldFault → Users → Type 0
Replays shelf records (Ok v) users = FoldsTo shelf records users
Replays shelf records (Err (BadRecord i)) users = IsBadRecord shelf records i users
Replays shelf records (Err Disk) users = Unit {0}
