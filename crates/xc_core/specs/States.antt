-- When a state stands for a history.
use Rattle.std.specs.Prelude.{◌≡◌, ◌⊎◌, ℕ, Bool, true, false, ◌+◌, ◌-◌, ◌≢◌, ◌≤◌, ◌<◌, min, List, [], ◌∷◌, ◌++◌, length, replicate, Option, Some, None}
use Rattle.std.specs.List.{AllByRecursion}
use Rattle.dxc_causes.specs.Causes.{last}
use Rattle.dxc_disk.specs.Disks.{DiskState, IsSynced, files}
use Rattle.dxc_model.specs.declared.cause.Cause.{Cause}
use Rattle.dxc_model.specs.declared.cause.Cause.TheVariants.{DiskFault, JournalAstray}
use Rattle.dxc_model.specs.declared.op.Op.{Op}
use Rattle.dxc_model.specs.declared.op.Op.TheVariants.{Restart}
use Rattle.dxc_model.specs.declared.op.Change.{Change}
use Rattle.dxc_model.specs.declared.entry.Outcome.{Outcome}
use Rattle.dxc_model.specs.declared.entry.Outcome.TheVariants.{Done, Denied, Failed, Answered, Restarted, Cut, Taken}
use Rattle.dxc_model.specs.declared.entry.Entry.{Entry}
use Rattle.dxc_model.specs.Histories.{Rules, Lasts, IsLegal, IsDoubtful, IsSettling, IsStopped, IsRestartDue, KeepsTurns, holder, changes_of}
use Rattle.dbchg_reports.specs.Recent.{recent_of}
use Rattle.dxc_model.specs.Tables.{Board}
use Rattle.roll_plan.specs.declared.work.Work.{Work}
use Rattle.journal_core.specs.declared.book.Book.{Book}
use Rattle.journal_core.specs.Books.{listed}
use Rattle.xc_core.specs.declared.provisioner.Provisioner.{Provisioner}
use Rattle.xc_core.specs.declared.origin.Origin.{Origin}
use Rattle.xc_core.specs.declared.state.Errand.{Errand}
use Rattle.xc_core.specs.declared.state.Errand.TheVariants as errand
use Rattle.xc_core.specs.declared.state.Home.{Home}
use Rattle.xc_core.specs.declared.state.Home.TheVariants.{In, Out}
use Rattle.xc_core.specs.declared.state.State.{State}
use Rattle.xc_core.specs.Reckonings.{Past, Meets, ReckonsTo}
use Rattle.xc_core.specs.Operations.{HasRead, Outset}
use Rattle.xc_core.specs.Provisioners.{Ground, IsHome, ground_of}
use Rattle.xc_core.specs.Restarts.{IsHalted}

-- where a history begins: fabric and journal, the records that the journal listed then, what there was after it, whether a restart was due, and
-- of the journal's disk what it had read when it was handed out, and the count of faults, the margin and the room
pub record Opening : Type 0 where
  pub site : Ground
  pub records : List (List ℕ)
  pub first : Past
  pub due : Bool
  pub readings : List (List ℕ)
  pub faults : ℕ
  pub margin : ℕ
  pub room : ℕ

-- the records that a journal lists; of a disk that doesn't tell its content only their number counts
abbrev pub recorded : Book → List ℕ → List (List ℕ)
recorded book file = listed book file ++ replicate (book.count - length (listed book file)) []

-- the opening that is kept as snapshots of the disk that was handed out, of table, Provisioner and last work
abbrev pub opening_at : {D : Type 0} → (D → DiskState) → D → Board → Provisioner D → Work → Opening
opening_at state handed t p w = record {
  site = ground_of p;
  records = recorded p.journal.1 (state p.journal.0).reads_as;
  first = record {
    fold = record { table = t; colours = p.matrix; work = w.ops.items; switches = p.spent };
    changes = 0;
  };
  due = p.halted;
  readings = files (state handed).readings;
  faults = (state p.journal.0).faults;
  margin = (state p.journal.0).margin;
  room = (state p.journal.0).room;
}

abbrev pub opening_in : {D : Type 0} → (D → DiskState) → Origin D → Opening
opening_in state o = opening_at state o.disk.value o.table.value o.provisioner.value o.last.value

-- the opening that a state keeps
abbrev pub opening_of : {D : Type 0} → (D → DiskState) → State D → Opening
opening_of state s = opening_in state s.origin

-- what the journal is called for begins there
abbrev pub outset_of : Opening → Outset
outset_of o = record { past = o.first; readings = o.readings }

-- an opening at which a restart was due counts as an entry that a stop cut, in front of all others
abbrev pub began : Bool → List Entry
began true = record { place = 0; op = Restart; outcome = Cut } ∷ []
began false = []

abbrev pub with_home : {D : Type 0} → Home D → State D → State D
with_home x s = record s { home = x }

-- the limit of a change, after the changes so far
abbrev pub LimitBehind : Past → List Change → Change → Option Cause → Type 0
LimitBehind first cs c met = (b : Past) × ReckonsTo first cs b × Meets b c met

abbrev pub rules_of : Opening → Rules
rules_of o = record { table = o.first.fold.table; limit = LimitBehind o.first }

-- a stop or a fault of the disk ended the operation, and nothing settled it since
abbrev pub IsUnsettled : List Entry → Op → Type 0
IsUnsettled h op = Lasts (λ e. IsDoubtful e × (e.op ≡ op)) IsSettling h

-- an operation in doubt wasn't settled; and where the Provisioner is halted, a stop came, and no restart since
abbrev pub DoubtsUnsettled : {D : Type 0} → List Entry → Provisioner D → Type 0
DoubtsUnsettled h p = (op : Op) → p.doubt ≡ Some op → IsUnsettled h op × (p.halted ≡ true → IsStopped h)

-- a stop came or the disk failed, and nothing settled it since
abbrev pub IsUncertain : List Entry → Type 0
IsUncertain = Lasts IsDoubtful IsSettling

-- how many operations failed by a fault of the disk
abbrev pub fault_in : Outcome → ℕ
fault_in (Failed DiskFault) = 1
fault_in _ = 0

abbrev pub faults_in : List Entry → ℕ
faults_in [] = 0
faults_in (e ∷ es) = fault_in e.outcome + faults_in es

-- the most of a disk's room that an operation takes before its entry: 3, 4,600,042 and 69 for a change with a checkpoint, 3 and 131,079
-- for a restart
abbrev pub most_room : ℕ
most_room = 4_600_114

-- what an operation took at most; one that is under way is counted at its end
abbrev pub cost : Outcome → ℕ
cost (Done c) = most_room
cost (Denied q) = most_room
cost (Failed q) = most_room
cost Answered = 0
cost (Restarted c) = most_room
cost Cut = most_room
cost Taken = 0

abbrev pub room_in : List Entry → ℕ
room_in [] = 0
room_in (e ∷ es) = cost e.outcome + room_in es

-- what is left of the room and the margin that a disk had: each fault lowers the margin
pub record IsLeftOf (o : Opening) (taken : ℕ) (s : DiskState) : Type 0 where
  pub room : o.room ≤ s.room + taken
  pub margin : s.faults + s.margin ≤ o.faults + o.margin

-- where the room was enough
abbrev pub SpendsOf : Opening → ℕ → DiskState → Type 0
SpendsOf o taken s = taken ≤ o.room → IsLeftOf o taken s

-- where the disk's room was more than enough, as many operations failed by it as its margin was at most
abbrev pub IsPaid : Opening → List Entry → Type 0
IsPaid o h = room_in h < o.room → faults_in h ≤ o.margin

-- a place has the Provisioner
abbrev pub IsLent : List Entry → Type 0
IsLent h = (t : Entry) × (holder None h ≡ Some t)

-- for a change, where no stop stands last
abbrev pub MayBeOutFor : Errand → List Entry → Type 0
MayBeOutFor e h = e ≡ errand.Change → IsStopped h → ⊥

-- the Provisioner is halted, or out for a restart
abbrev pub may_be_stopped : {D : Type 0} → Home D → Bool
may_be_stopped (In d) = d.value.p.halted
may_be_stopped (Out errand.Change) = false
may_be_stopped (Out errand.Restart) = true

-- no operation failed because the journal reads otherwise than it was written
abbrev pub IsNeverAstray : List Entry → Type 0
IsNeverAstray h = AllByRecursion (λ e. e.outcome ≢ Failed JournalAstray) h

module _ {D : Type 0} (told : Type 0) (state : D → DiskState) where
  -- at home the Provisioner is ready, and no stop stands last; or it is halted, and a restart is due
  abbrev pub IsReadyOrHalted : Past → List Entry → Provisioner D → Type 0
  IsReadyOrHalted b h p = (IsHome told state b p × (IsStopped h → ⊥)) ⊎ (IsHalted told state b p × IsRestartDue h)

  pub record IsHomeAfter (o : Opening) (b : Past) (h : List Entry) (p : Provisioner D) : Type 0 where
    pub ground : ground_of p ≡ o.site
    pub stage : IsReadyOrHalted b h p
    pub doubt : DoubtsUnsettled h p
    -- each such failure was a fault that the disk counted
    pub faults : min (o.faults + faults_in h) last ≤ (state p.journal.0).faults
    pub spends : SpendsOf o (room_in h) (state p.journal.0)
    -- what its disk has read since it was handed out it read in operations, which made the changes of the history
    pub read : told → HasRead (outset_of o) (changes_of h) b (state p.journal.0)
    -- where all is settled, the last that this disk did is a sync that was made
    pub synced : told → (IsUncertain h → ⊥) → IsSynced (state p.journal.0)

  -- the Provisioner is out where a place took it and hasn't brought it home; then nothing is said of it
  abbrev pub HomeIs : Opening → Past → List Entry → Home D → Type 0
  HomeIs o b h (In d) = (holder None h ≡ None) × IsHomeAfter o b h d.value.p
  HomeIs o b h (Out e) = IsLent h × MayBeOutFor e h

  -- the state is that after the history
  pub record StandsFor (o : Opening) (s : State D) (h : List Entry) : Type 0 where
    pub now : Past
    pub reckoned : ReckonsTo o.first (changes_of h) now
    pub table : s.table ≡ now.fold.table
    pub reports : s.reports ≡ recent_of (changes_of h)
    pub legal : IsLegal (rules_of o) h
    pub turns : KeepsTurns None h
    pub paid : IsPaid o h
    pub astray : told → IsNeverAstray h
    pub home : HomeIs o now h s.home

  -- it stands for what its opening counts as, and the entries after that
  abbrev pub Stands : State D → List Entry → Type 0
  Stands s h = StandsFor (opening_of state s) s (began (opening_of state s).due ++ h)
