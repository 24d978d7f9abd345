-- When a state of the users stands for their history.
use Rattle.std.specs.Prelude.{◌≡◌, ◌⊎◌, ℕ, ◌+◌, ◌-◌, ◌≤◌, ◌<◌, min, true, List, [], ◌∷◌, ◌++◌, length, replicate, Option, Some, Result, Ok, Err}
use Rattle.std.specs.FinMap.{len}
use Rattle.dxc_causes.specs.Causes.{last}
use Rattle.dxc_disk.specs.Disks.{DiskState, Leaves, files}
use Rattle.dxc_disk.specs.declared.disk.Disk.{Ghosts as DiskOf}
use Rattle.dxc_disk.specs.declared.disk.DiskFault.{DiskFault as Fault}
use Rattle.dxc_model.specs.declared.cause.Cause.{Cause}
use Rattle.dxc_model.specs.declared.cause.Cause.TheVariants.{DiskFault}
use Rattle.dxc_outside.specs.declared.stopped.Stopped.{Stopped}
use Rattle.journal_core.specs.declared.book.Book.{Book}
use Rattle.journal_core.specs.Books.{IsWhole, listed}
use Rattle.user_admin.specs.declared.op.UserChange.{UserChange}
use Rattle.user_admin.specs.declared.op.UserDone.{UserDone}
use Rattle.user_admin.specs.declared.op.UserDone.TheVariants as done
use Rattle.user_admin.specs.declared.op.UserEntry.{UserEntry}
use Rattle.tl1_users.specs.declared.op.UserOp.{UserOp}
use Rattle.user_admin.specs.declared.op.UserOutcome.{UserOutcome}
use Rattle.user_admin.specs.declared.op.UserOutcome.TheVariants.{Done, Denied, Failed, Answered}
use Rattle.user_admin.specs.declared.state.UserOrigin.{UserOrigin}
use Rattle.user_admin.specs.declared.state.UserState.{UserState}
use Rattle.user_admin.specs.Users.{shelf_users}
use Rattle.user_admin.specs.Changes.{most_users}
use Rattle.user_admin.specs.Verdicts.{Grants}
use Rattle.tl1_users.specs.Commands.{NamesUid}
use Rattle.user_admin.specs.Spellable.{AreDescribed, AreSpellable}
use Rattle.user_admin.specs.Journals.{IsAtHome}
use Rattle.user_admin.specs.Histories.{IsInDoubt, IsLegal, Opening, failures, users_after}
use Rattle.user_admin.specs.Operations.{HasRead, IsFileAfter, IsFileOf, IsFileWithDoubt}

-- the records that a journal lists; of a disk that doesn't tell its content only their number counts
abbrev pub recorded : Book → List ℕ → List (List ℕ)
recorded book file = listed book file ++ replicate (book.count - length (listed book file)) []

-- the opening that is kept as snapshots of shelf, disk, users and journal
abbrev pub opening_in : {D : Type 0} → (D → DiskState) → UserOrigin D → Opening
opening_in state o = record {
  shelf = o.shelf.value;
  records = recorded o.journal.value.1 (state o.journal.value.0).reads_as;
  users = o.users.value;
  readings = files (state o.disk.value).readings;
  faults = (state o.journal.value.0).faults;
  margin = (state o.journal.value.0).margin;
  room = (state o.journal.value.0).room;
}

-- the opening that a state keeps
abbrev pub opening_of : {D : Type 0} → (D → DiskState) → UserState D → Opening
opening_of state s = opening_in state s.origin

-- the most of a disk's room that a change takes: 3 to mend, 4,207,144 for a checkpoint and 69 for the record
abbrev pub most_room : ℕ
most_room = 4_207_216

-- what an operation took at most
abbrev pub cost : UserOutcome → ℕ
cost (Done c) = most_room
cost (Denied q) = 0
cost (Failed q) = most_room
cost Answered = 0

abbrev pub room_in : List UserEntry → ℕ
room_in [] = 0
room_in (e ∷ es) = cost e.outcome + room_in es

-- what is left of the room and the margin that the disk had: each fault lowers the margin
pub record IsLeftOf (o : Opening) (taken : ℕ) (s : DiskState) : Type 0 where
  pub room : o.room ≤ s.room + taken
  pub margin : s.faults + s.margin ≤ o.faults + o.margin

-- where the room was enough
abbrev pub SpendsOf : Opening → ℕ → DiskState → Type 0
SpendsOf o taken s = taken ≤ o.room → IsLeftOf o taken s

-- where the disk's room was more than enough, as many operations failed by it as its margin was at most
abbrev pub IsPaid : Opening → List UserEntry → Type 0
IsPaid o h = room_in h < o.room → failures h ≤ o.margin

-- the state is of the opening's shelf, whose users a record can hold
pub record IsOfShelf {D : Type 0} (o : Opening) (s : UserState D) : Type 0 where
  pub sid : s.sid ≡ o.shelf.sid
  pub described : s.lists.value.described ≡ shelf_users o.shelf
  pub shape : s.journal.1.shape ≡ o.shelf.shape
  pub few : len (shelf_users o.shelf) ≤ most_users
  pub spelled : AreDescribed (shelf_users o.shelf)

-- how an operation that is denied is entered: what the disk stood against has failed
abbrev pub refused : Cause → UserOutcome
refused DiskFault = Failed DiskFault
refused q = Denied q

abbrev pub entry : ℕ → UserOp → UserOutcome → UserEntry
entry n op outcome = record { place = n; op = op; outcome = outcome }

module _ {D : Type 0} (told : Type 0) (state : D → DiskState) where
  pub record StandsFor (o : Opening) (s : UserState D) (h : List UserEntry) : Type 0 where
    pub users : s.lists.value.users ≡ users_after o h
    pub legal : IsLegal o h
    pub reads : told → IsFileOf o h (state s.journal.0).reads_as ⊎ (IsFileWithDoubt o h (state s.journal.0).reads_as × (s.journal.1.to_mend ≡ true))
    pub images : told → Leaves (state s.journal.0) (IsFileAfter o h)
    -- each such failure was a fault that the disk counted
    pub faults : min (o.faults + failures h) last ≤ (state s.journal.0).faults
    pub spends : SpendsOf o (room_in h) (state s.journal.0)
    pub paid : IsPaid o h
    pub of_shelf : IsOfShelf o s
    pub spellable : AreSpellable (shelf_users o.shelf) (users_after o h)
    pub book : IsWhole s.journal.1
    pub doubt : Option UserChange
    pub doubted : (c : UserChange) → doubt ≡ Some c → IsInDoubt o h c
    pub home : IsAtHome told (state s.journal.0) s.journal.1 (shelf_users o.shelf) (users_after o h) doubt
    pub read : told → HasRead o h (state s.journal.0)

  -- from its own opening on
  abbrev pub Stands : UserState D → List UserEntry → Type 0
  Stands s h = StandsFor (opening_of state s) s h

  -- a place's operation was done, or denied, or the gate stopped before anything was done
  abbrev pub ChangedIs : Opening → List UserEntry → ℕ → UserOp → UserState D → Result UserDone Stopped → Type 0
  ChangedIs o h n op s (Ok (done.Done c)) = StandsFor o s (h ++ entry n op (Done c) ∷ [])
  ChangedIs o h n op s (Ok (done.Denied q)) = StandsFor o s (h ++ entry n op (refused q) ∷ [])
  ChangedIs o h n op s (Err e) = StandsFor o s h

  -- the users may keep this change: an operation is granted it
  pub record IsGranted (o : Opening) (h : List UserEntry) (op : UserOp) (s : UserState D) (c : UserChange) : Type 0 where
    pub stands : StandsFor o s h
    pub names : NamesUid op
    pub granted : Grants s.sid op s.lists.value.users c

  -- it was kept and taken, or the disk stood against it
  abbrev pub NotedIs : Opening → List UserEntry → ℕ → UserOp → UserChange → UserState D → Result (Unit {0}) Fault → Type 0
  NotedIs o h n op c s (Ok v) = StandsFor o s (h ++ entry n op (Done c) ∷ [])
  NotedIs o h n op c s (Err e) = StandsFor o s (h ++ entry n op (Failed DiskFault) ∷ [])

-- an operation of a place after a history
pub record Asked : Type 0 where
  pub opening : Opening
  pub history : List UserEntry
  pub place : ℕ
  pub op : UserOp

abbrev pub asked_after : Opening → List UserEntry → ℕ → UserOp → Asked
asked_after o h n op = record { opening = o; history = h; place = n; op = op }

abbrev pub Answers : {D : Type 0} → DiskOf D → Asked → UserState D → Result UserDone Stopped → Type 0
Answers g a s result = ChangedIs g.told g.state a.opening a.history a.place a.op s result

abbrev pub MayNote : {D : Type 0} → DiskOf D → UserState D → UserChange → Type 0
MayNote g s c = (o : Opening) × (h : List UserEntry) × (op : UserOp) × IsGranted g.told g.state o h op s c

-- whatever history and whatever place that is
abbrev pub IsNoted : {D : Type 0} → DiskOf D → UserState D → UserChange → UserState D → Result (Unit {0}) Fault → Type 0
IsNoted g s c t result = (o : Opening) (h : List UserEntry) (n : ℕ) (op : UserOp) → IsGranted g.told g.state o h op s c → NotedIs g.told g.state o h n op c t result
