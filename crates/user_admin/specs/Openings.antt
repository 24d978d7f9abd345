-- What an opening of the users finds on its disk, and where a change asks the gate.
use Rattle.std.specs.Prelude.{◌≡◌, ◌⊎◌, ℕ, List, [], ◌∷◌, length, Result, Ok, Err}
use Rattle.dxc_disk.specs.Disks.{DiskState, IsSettled, LeavesOnly}
use Rattle.dxc_model.specs.declared.cause.Cause.{Cause}
use Rattle.dxc_model.specs.declared.cause.Cause.TheVariants.{DiskFault}
use Rattle.dxc_outside.specs.declared.gate.GatePlace.{GatePlace}
use Rattle.dxc_outside.specs.declared.gate.GatePlace.TheVariants as place
use Rattle.dxc_outside.specs.declared.stopped.Stopped.{Stopped}
use Rattle.journal_core.specs.declared.fault.JournalWhy.TheVariants as why
use Rattle.journal_core.specs.declared.head.Head.{Head}
use Rattle.journal_core.specs.Headers.{IsNew, Stands as FileStands, StandsAlike, header}
use Rattle.journal_core.specs.Makes.{IsFresh}
use Rattle.journal_core.specs.Opens.{IsRefused, made_head}
use Rattle.shelf_file.specs.Contents.{Contents}
use Rattle.user_admin.specs.declared.fault.UserOpenFault.{UserOpenFault}
use Rattle.user_admin.specs.declared.fault.UserOpenFault.TheVariants.{Journal, BadRecord, Disk, NoMemory}
use Rattle.user_admin.specs.declared.fold.FoldFault.{FoldFault}
use Rattle.user_admin.specs.declared.fold.FoldFault.TheVariants as fold
use Rattle.user_admin.specs.declared.op.UserDone.{UserDone}
use Rattle.user_admin.specs.declared.op.UserDone.TheVariants.{Done, Denied}
use Rattle.user_admin.specs.declared.state.UserState.{UserState}
use Rattle.user_admin.specs.declared.turns.UserTook.{UserTook}
use Rattle.user_admin.specs.declared.turns.UserTook.TheVariants as took
use Rattle.user_admin.specs.Users.{Users, shelf_users}
use Rattle.user_admin.specs.Files.{FoldsTo}
use Rattle.user_admin.specs.Journals.{IsBadRecord}
use Rattle.user_admin.specs.Histories.{Opening}
use Rattle.user_admin.specs.States.{Stands, opening_of}

-- there are as many records as these, as the disk gave them, that lead to the users; where it tells its content, these
pub record IsFoldOf (told : Type 0) (shelf : Users) (records : List (List ℕ)) (users : Users) : Type 0 where
  pub read : List (List ℕ)
  pub number : length read ≡ length records
  pub same : told → read ≡ records
  pub folds : FoldsTo shelf read users

-- The users at the opening are those that the file's records lead to; a new file has none. Of a disk that doesn't tell: what its journal gave.
pub record IsOpening (told : Type 0) (file : List ℕ) (shelf : Contents) (o : Opening) : Type 0 where
  pub shelf_is : o.shelf ≡ shelf
  pub folded : IsFoldOf told (shelf_users shelf) o.records o.users
  pub made : told → IsNew file → o.records ≡ []
  pub found : told → ¬ IsNew file → (head : Head) × FileStands shelf.shape head o.records file

-- the record of this number is the first of the file that means no change that fits, and the file that is left has the same records
pub record HasBadRecord (file left : List ℕ) (shelf : Contents) (i : ℕ) : Type 0 where
  pub head : Head
  pub records : List (List ℕ)
  pub stands : FileStands shelf.shape head records file
  pub stays : FileStands shelf.shape head records left
  pub users : Users
  pub bad : IsBadRecord (shelf_users shelf) records i users

-- why they weren't taken up; faults of the disk are told by their count, and want of memory by nothing
abbrev pub Fails : {D : Type 0} → (D → DiskState) → DiskState → Contents → UserOpenFault D → Type 0
Fails state a shelf (Journal fault) = (bytes : List ℕ) → fault.why ≡ why.BadHeader bytes → ¬ IsNew a.reads_as × IsRefused shelf.shape a (state fault.disk) bytes
Fails state a shelf (BadRecord i d) = ¬ IsNew a.reads_as × HasBadRecord a.reads_as (state d).reads_as shelf i
Fails state a shelf (Disk d) = Unit {0}
Fails state a shelf (NoMemory d) = Unit {0}

-- why the records of a journal on this disk couldn't be taken
abbrev pub read_fault : {D : Type 0} → FoldFault → D → UserOpenFault D
read_fault (fold.BadRecord i) d = BadRecord i d
read_fault fold.Disk d = Disk d

-- a call on the disk failed
abbrev pub IsDiskErr : {D : Type 0} → Result (UserState D) (UserOpenFault D) → Type 0
IsDiskErr (Ok s) = ⊥
IsDiskErr (Err (Journal fault)) = fault.why ≡ why.Disk
IsDiskErr (Err (BadRecord i d)) = ⊥
IsDiskErr (Err (Disk d)) = Unit {0}
IsDiskErr (Err (NoMemory d)) = ⊥

-- the disk that an opening leaves: the one of the state's journal, or the one that is handed back
abbrev pub disk_left : {D : Type 0} → Result (UserState D) (UserOpenFault D) → D
disk_left (Ok s) = s.journal.0
disk_left (Err (Journal fault)) = fault.disk
disk_left (Err (BadRecord i d)) = d
disk_left (Err (Disk d)) = d
disk_left (Err (NoMemory d)) = d

-- the state begins with the opening that it keeps, which is that of its disk, and no crash takes anything back
pub record Begins {D : Type 0} (told : Type 0) (state : D → DiskState) (s : UserState D) : Type 0 where
  pub stands : Stands told state s []
  pub counts : s.journal.1.count ≡ length (opening_of state s).records
  pub faults : (opening_of state s).faults ≡ (state s.journal.0).faults
  pub margin : (opening_of state s).margin ≡ (state s.journal.0).margin
  pub room : (opening_of state s).room ≡ (state s.journal.0).room
  pub settled : told → IsSettled (state s.journal.0)

-- A crash at any moment of an opening leaves what the disk might have left before, or a file that stands for the same list; where a
-- journal was made on a settled disk, a new file or one with no record.
pub record LeavesOpened (shelf : Contents) (a b : DiskState) : Type 0 where
  pub found : ¬ IsNew a.reads_as → LeavesOnly a b (λ c. a.may_leave c ⊎ StandsAlike shelf.shape a.reads_as c)
  pub made : IsNew a.reads_as → IsSettled a → LeavesOnly a b (IsFresh (header shelf.shape (made_head shelf.equipped)))

-- what denied an operation: the disk alone does so after the gate
abbrev pub asked_before : Cause → List GatePlace
asked_before DiskFault = place.Journal ∷ []
asked_before _ = []

-- where a change asked the gate: before the journal is called, if it came to that
abbrev pub asked_at : Result UserDone Stopped → List GatePlace
asked_at (Ok (Done c)) = place.Journal ∷ []
asked_at (Ok (Denied q)) = asked_before q
asked_at (Err e) = place.Journal ∷ []

-- where a turn asked it in which the users were to be changed
abbrev pub asked_at_turn : Result UserTook Stopped → List GatePlace
asked_at_turn (Ok took.Done) = place.Journal ∷ []
asked_at_turn (Ok (took.Denied q)) = asked_before q
asked_at_turn (Err e) = place.Journal ∷ []
