-- What the words name is opened, or why it isn't.
use Rattle.std.specs.Prelude.{◌≡◌, ◌≢◌, ◌⊎◌, ◌≤◌, ◌<◌, ◌+◌, ℕ, List, [], ◌∷◌, ◌++◌, length, codes, Option, Some, Result, Err, MatchResult}
use Rattle.std.specs.Arc.{arc_value}
use Rattle.dxc_causes.specs.Causes.{Rose, last}
use Rattle.dxc_disk.specs.Disks.{DiskState, IsSound, files}
use Rattle.dxc_outside.specs.Asked.{Asking, shelf_named, journal_named}
use Rattle.dxc_outside.specs.Openings.{OpenerState, IsShelfPart}
use Rattle.dxc_leaving.specs.Values.{AnyValue, any_value}
use Rattle.fabric_words.specs.New.{AreNew}
use Rattle.fabric_words.specs.Seats.{FabricId}
use Rattle.journal_core.specs.Rooms.{opening_room}
use Rattle.shelf_file.specs.declared.fault.ShelfFault.TheVariants as fault
use Rattle.shelf_file.specs.Contents.{Contents, IsShelf}
use Rattle.shelf_file.specs.Checks.{IsFirstFault}
use Rattle.xc_core.specs.declared.fault.OpenFault.{OpenFault}
use Rattle.xc_core.specs.Openings.{Begins, Fails, IsDiskFault, IsOpening, IsStopFault, LeavesOpened, disk_of_fault}
use Rattle.xc_core.specs.States.{Opening, opening_of}
use Rattle.user_admin.specs.declared.fault.UserOpenFault.{UserOpenFault}
use Rattle.user_admin.specs.declared.state.UserState.{UserState}
use Rattle.user_admin.specs.Histories.{Opening as UsersOpening}
use Rattle.user_admin.specs.Openings.{Begins as UsersBegin, Fails as UsersFail, IsDiskErr as IsUsersDiskErr, IsOpening as IsUsersOpening, LeavesOpened as LeavesUsersOpened, disk_left as users_disk_left}
use Rattle.user_admin.specs.States.{opening_of as users_opening}
use Rattle.dxc_element.specs.declared.opening.Controller.{Controller}
use Rattle.dxc_element.specs.declared.opening.Element.{Element}
use Rattle.dxc_args.specs.declared.status.Status.{Status}
use Rattle.dxc_args.specs.declared.status.Status.TheVariants.{Done, BadWords, BadShelf, BadJournal, Disk, CannotOpen, NoThread, NoMemory, Link, Stopped, Spent, BadMessage, NotEmpty}
use Rattle.dxc_element.specs.Lenders.{Lender}
use Rattle.dxc_element.specs.Statuses.{status_of_fault, status_of_users_fault}

-- the names of a shelf file and a journal
pub record Named : Type 0 where
  pub shelf : List ℕ
  pub journal : List ℕ

abbrev pub named : List ℕ → List ℕ → Named
named shelf journal = record { shelf = shelf; journal = journal }

-- by which names an element is opened, and for how many workers
pub record Wanted : Type 0 where
  pub names : Named
  pub workers : ℕ

abbrev pub wanted : Named → ℕ → Wanted
wanted names workers = record { names = names; workers = workers }

-- the name of the users' journal beside a journal of this name
abbrev pub users_name : List ℕ → List ℕ
users_name journal = journal ++ codes ".users"

-- what an opener is asked for by these names
abbrev pub files_asked : Named → List Asking
files_asked names = shelf_named names.shelf ∷ journal_named names.journal ∷ journal_named (users_name names.journal) ∷ []

-- what an opening asks: the opener, which would hand out these disks by name, and the gate, by its count of stops
pub record Sources (D : Type 0) : Type 0 where
  pub opener : OpenerState
  pub journal_at : List ℕ → Option D
  pub stops : ℕ

abbrev pub sources : {D : Type 0} → OpenerState → (List ℕ → Option D) → ℕ → Sources D
sources o at n = record { opener = o; journal_at = at; stops = n }

-- where the opener tells what it holds, these bytes are the file's, as far as they are read
abbrev pub IsFile : (told : Type 0) (o : OpenerState) (name file : List ℕ) → Type 0
IsFile told o name file = told → IsShelfPart o name file

-- a shelf that the file of this name describes
abbrev pub HasShelf : (told : Type 0) (o : OpenerState) (name : List ℕ) → Contents → Type 0
HasShelf told o name s = (file : List ℕ) × IsFile told o name file × IsShelf file s

-- why there is none
abbrev pub NoShelf : (told : Type 0) (o p : OpenerState) (name : List ℕ) → Status → Type 0
NoShelf told o p name (BadShelf f) = (file : List ℕ) × IsFile told o name file × IsFirstFault file f × (f ≢ fault.NoMemory)
NoShelf told o p name CannotOpen = Rose o.faults p.faults
NoShelf told o p name NoMemory = Unit {0}
NoShelf told o p name Done = ⊥
NoShelf told o p name BadWords = ⊥
NoShelf told o p name NoThread = ⊥
NoShelf told o p name Link = ⊥
NoShelf told o p name Stopped = ⊥
NoShelf told o p name (BadJournal f) = ⊥
NoShelf told o p name Disk = ⊥
NoShelf told o p name Spent = ⊥
NoShelf told o p name BadMessage = ⊥
NoShelf told o p name NotEmpty = ⊥

-- why something couldn't be opened
abbrev pub IsUnopened : (faults later : ℕ) → Status → Type 0
IsUnopened faults later status = (status ≡ NoMemory) ⊎ ((status ≡ CannotOpen) × Rose faults later)

-- the opener would hand out of this name what it would have handed out before, where it tells that: it handed out none
abbrev pub IsKept : (opener_told : Type 0) {D : Type 0} (name : List ℕ) (before after : List ℕ → Option D) → Type 0
IsKept opener_told name before after = opener_told → after name ≡ before name

-- no disk was handed out for this name, and why
abbrev pub NoDisk : (opener_told : Type 0) {D : Type 0} (name : List ℕ) → Sources D → Sources D → Status → Type 0
NoDisk opener_told name before after status = IsUnopened before.opener.faults after.opener.faults status × IsKept opener_told name before.journal_at after.journal_at

-- An opening of a disk left these faults, room and margin: it took of the room what it may, and each fault in it lowered the margin.
pub record IsTaken (d : DiskState) (faults room margin : ℕ) : Type 0 where
  pub later : d.faults ≤ faults
  pub kept : opening_room ≤ d.room → d.room ≤ room + opening_room
  pub paid : opening_room ≤ d.room → faults + margin ≤ d.faults + d.margin
  pub counts : 0 < room → faults < last

-- A fault of which this holds was let go, with the disk that it hands back, and the status is the fault's.
pub record LetGoOf {F : Type 0} (gone : AnyValue → Type 0) (status_of : F → Status) (holds : F → Type 0) (status : Status) : Type 0 where
  pub fault : F
  pub is : status ≡ status_of fault
  pub fails : holds fault
  pub let_go : gone (any_value fault)

module _ {D : Type 0} (disk_told : Type 0) (state : D → DiskState) where
  -- A start on this disk came to this fault, which hands the disk back. A crash at any moment of it leaves what the disk might have left before, or a file
  -- that stands for the same list. The gate stopped only where its count rose.
  pub record StartFails (disk : D) (s : Contents) (rose : Type 0) (fault : OpenFault D) : Type 0 where
    pub why : disk_told → Fails state (state disk) s.shape fault
    pub left : disk_told → LeavesOpened s (state disk) (state (disk_of_fault fault))
    pub disk_failed : IsDiskFault fault → IsSound opening_room (state disk) → ⊥
    pub stopped : IsStopFault fault → rose

  -- why the controller didn't start on this disk, which was let go as the start handed it back
  abbrev pub NotStarted : (gone : AnyValue → Type 0) → D → Contents → (rose : Type 0) → Status → Type 0
  NotStarted gone disk s rose status = LetGoOf gone status_of_fault (StartFails disk s rose) status

  -- where the history begins that the disk's journal came to, on a fabric of its own
  pub record HasOpening (disk : D) (s : Contents) (o : Opening) : Type 0 where
    pub fabric : FabricId
    pub opening : IsOpening disk_told (state disk).reads_as s fabric o
    -- of that disk, as it was handed out
    pub handed : o.readings ≡ files (state disk).readings
    pub taken : IsTaken (state disk) o.faults o.room o.margin

  -- It started on the shelf, with so many workers, on a fabric of its own; the state stands for no entry after what the disk's journal came to.
  pub record IsStarted (disk : D) (s : Contents) (workers : ℕ) (x : Controller D) : Type 0 where
    pub shelf : arc_value x.shelf ≡ s
    pub size : (arc_value x.fabric).size ≡ record { shape = s.shape; workers = workers }
    pub opening : IsOpening disk_told (state disk).reads_as s (arc_value x.fabric) (opening_of state x.state)
    pub handed : (opening_of state x.state).readings ≡ files (state disk).readings
    pub begins : Begins disk_told state x.state
    pub shape : (opening_of state x.state).first.fold.table.shape ≡ s.shape
    pub taken : IsTaken (state disk) (opening_of state x.state).faults (opening_of state x.state).room (opening_of state x.state).margin
    pub seats : AreNew (arc_value x.fabric) 0 x.seats.items
    pub each : length x.seats.items ≡ workers

  -- a controller that had started on this disk was let go so
  pub record LeftStarted (gone : AnyValue → Type 0) (disk : D) (s : Contents) : Type 0 where
    pub workers : ℕ
    pub controller : Controller D
    pub started : IsStarted disk s workers controller
    pub let_go : gone (any_value controller)

-- the shelf that the file of the name describes, and the disk that the opener handed out for the journal
pub record Found (opener_told : Type 0) {D : Type 0} (names : Named) (before : Sources D) : Type 0 where
  pub shelf : Contents
  pub described : HasShelf opener_told before.opener names.shelf shelf
  pub disk : D
  pub handed : opener_told → before.journal_at names.journal ≡ Some disk

-- the disk that the opener handed out for the users' journal
pub record FoundUsers (opener_told : Type 0) {D : Type 0} (names : Named) (before : Sources D) : Type 0 where
  pub disk : D
  pub handed : opener_told → before.journal_at (users_name names.journal) ≡ Some disk

module _ {D : Type 0} (disk_told : Type 0) (state : D → DiskState) where
  -- the users were taken up from what this disk's journal came to, and their state stands for no entry after it
  pub record AreUsersStarted (disk : D) (s : Contents) (x : UserState D) : Type 0 where
    pub opening : IsUsersOpening disk_told (state disk).reads_as s (users_opening state x)
    pub handed : (users_opening state x).readings ≡ files (state disk).readings
    pub begins : UsersBegin disk_told state x
    pub taken : IsTaken (state disk) (users_opening state x).faults (users_opening state x).room (users_opening state x).margin

  -- a taking up from this disk came to this fault, which hands the disk back, as a start does
  pub record UsersStartFails (disk : D) (s : Contents) (fault : UserOpenFault D) : Type 0 where
    pub why : disk_told → UsersFail state (state disk) s fault
    pub left : disk_told → LeavesUsersOpened s (state disk) (state (users_disk_left (Err fault)))
    pub disk_failed : IsUsersDiskErr (Err fault) → IsSound opening_room (state disk) → ⊥

  -- why they weren't taken up; the disk was let go as it was handed back
  abbrev pub AreUsersNotStarted : (gone : AnyValue → Type 0) → D → Contents → Status → Type 0
  AreUsersNotStarted gone disk s status = LetGoOf gone status_of_users_fault (UsersStartFails disk s) status

-- the disks of a controller's journal and of its users', the shelf, and where the controller's history began
pub record OpenedOn (D : Type 0) : Type 0 where
  pub disk : D
  pub users_disk : D
  pub shelf : Contents
  pub opening : Opening

abbrev pub opened_on : {D : Type 0} → D → D → Contents → Opening → OpenedOn D
opened_on disk users_disk s o = record { disk = disk; users_disk = users_disk; shelf = s; opening = o }

-- A controller with one worker was let go as it was opened, with its users: on their disks nothing was done after the opening.
pub record WasLetGo {D : Type 0} (disk_told : Type 0) (state : D → DiskState) (gone : AnyValue → Type 0) (on : OpenedOn D) : Type 0 where
  pub element : Element D D
  pub let_go : gone (any_value element)
  pub started : IsStarted disk_told state on.disk on.shelf 1 element.controller
  pub opening_is : on.opening ≡ opening_of state element.controller.state
  pub users_started : AreUsersStarted disk_told state on.users_disk on.shelf element.users

module _ (opener_told : Type 0) {D : Type 0} (disk_told : Type 0) (state : D → DiskState) where
  -- the controller that the names stand for
  abbrev pub HasController : Named → ℕ → Sources D → Controller D → Type 0
  HasController names workers before x = (f : Found opener_told names before) × IsStarted disk_told state f.disk f.shelf workers x

  -- the users of that journal
  abbrev pub HasUsers : Named → Sources D → Contents → UserState D → Type 0
  HasUsers names before s x = (u : FoundUsers opener_told names before) × AreUsersStarted disk_told state u.disk s x

  -- the controller that the names stand for, and its users
  abbrev pub IsOpened : Named → ℕ → Sources D → Element D D → Type 0
  IsOpened names workers before x = (h : HasController names workers before x.controller) × HasUsers names before h.0.shelf x.users

  -- where the users' history begins that the second disk's journal came to
  pub record Began (names : Named) (before : Sources D) (s : Contents) : Type 0 where
    pub found : FoundUsers opener_told names before
    pub opening : UsersOpening
    pub is : IsUsersOpening disk_told (state found.disk).reads_as s opening
    pub handed : opening.readings ≡ files (state found.disk).readings
    pub taken : IsTaken (state found.disk) opening.faults opening.room opening.margin

module _ (opener_told : Type 0) {D : Type 0} (disk_told : Type 0) (state : D → DiskState) (gone : AnyValue → Type 0) where
  -- no shelf, no disk, or one on which the controller didn't start
  abbrev pub NoController : Named → (before after : Sources D) → Status → Type 0
  NoController names before after status =
      ((after.stops ≡ before.stops) × NoShelf opener_told before.opener after.opener names.shelf status × IsKept opener_told names.journal before.journal_at after.journal_at)
      ⊎ (((s : Contents) × HasShelf opener_told before.opener names.shelf s × (after.stops ≡ before.stops) × NoDisk opener_told names.journal before after status)
      ⊎ ((f : Found opener_told names before) × NotStarted disk_told state gone f.disk f.shelf (Rose before.stops after.stops) status))

  -- no disk for the users' journal, or one on which they weren't taken up
  abbrev pub NoUsers : Named → (before after : Sources D) → Contents → Status → Type 0
  NoUsers names before after s status =
      NoDisk opener_told (users_name names.journal) before after status
      ⊎ ((u : FoundUsers opener_told names before) × AreUsersNotStarted disk_told state gone u.disk s status)

  -- No controller, and no disk for its users, or none of its users. What was opened was let go so.
  abbrev pub NotOpened : Named → (before after : Sources D) → Status → Type 0
  NotOpened names before after status =
      (NoController names before after status × IsKept opener_told (users_name names.journal) before.journal_at after.journal_at)
      ⊎ ((f : Found opener_told names before) × LeftStarted disk_told state gone f.disk f.shelf × (after.stops ≡ before.stops) × NoUsers names before after f.shelf status)

  -- Nothing was opened, why, and nothing else happened; or this was done on what was opened.
  abbrev pub Opens : (names : Named) (before after : Sources D) (untouched : Type 0) (done : (f : Found opener_told names before) → Opening → Began opener_told disk_told state names before f.shelf → Type 0) → Status → Type 0
  Opens names before after untouched done status =
      (NotOpened names before after status × untouched)
      ⊎ ((f : Found opener_told names before) × (o : Opening) × HasOpening disk_told state f.disk f.shelf o × (u : Began opener_told disk_told state names before f.shelf) × done f o u)

module _ {O : Type 0} (w : Lender O) where
  -- the controller that is wanted, or why there is none
  abbrev pub OpensController : Wanted → (before after : Sources w.Disk) → Result (Controller w.Disk) Status → Type 0
  OpensController x before after result = MatchResult result (HasController w.opener.told w.disk.told w.disk.state x.names x.workers before) (NoController w.opener.told w.disk.told w.disk.state w.gone x.names before after)

  -- with its users
  abbrev pub OpensElement : Wanted → (before after : Sources w.Disk) → Result (Element w.Disk w.Disk) Status → Type 0
  OpensElement x before after result = MatchResult result (IsOpened w.opener.told w.disk.told w.disk.state x.names x.workers before) (NotOpened w.opener.told w.disk.told w.disk.state w.gone x.names before after)
