-- What a place knows of the history, and what one of its turns does to it.
use Rattle.std.specs.Prelude.{◌≡◌, ◌≢◌, ◌⊎◌, ℕ, ◌+◌, ◌≤◌, min, slice_index, true, List, ◌++◌, map, Option, Some, None}
use Rattle.std.specs.Coded.{Coded}
use base.Stored.{Gv}
use Rattle.turnstile.specs.Places.{TurnedBy, TurnedBackBy}
use Rattle.dxc_causes.specs.Causes.{last}
use Rattle.dxc_disk.specs.Disks.{DiskState}
use Rattle.dxc_model.specs.contracts.entry.Entry as entry_row
use Rattle.dxc_model.specs.declared.cause.Cause.{Cause}
use Rattle.dxc_model.specs.declared.cause.Cause.TheVariants.{DiskFault, NoMiddle, SwitchLimit, JournalAstray}
use Rattle.dxc_model.specs.declared.op.Op.{Op}
use Rattle.dxc_model.specs.declared.op.Op.TheVariants.{Restart}
use Rattle.dxc_model.specs.declared.op.Change.{Change}
use Rattle.dxc_model.specs.declared.entry.Outcome.{Outcome}
use Rattle.dxc_model.specs.declared.entry.Outcome.TheVariants.{Denied, Failed, Taken}
use Rattle.dxc_model.specs.declared.entry.Entry.{Entry}
use Rattle.dxc_model.specs.Steps.{IsDriven, IsFault}
use Rattle.dxc_model.specs.Histories.{IsLegal, IsRestartDue, IsStopped, KeepsTurns, holder, changes_of}
use Rattle.roll_engine.specs.Rollings.{RollingAt}
use Rattle.journal_core.specs.Records.{set_seal}
use Rattle.xc_core.specs.declared.provisioner.Provisioner.{Provisioner}
use Rattle.xc_core.specs.Begins.{MayNote, Plan}
use Rattle.xc_core.specs.Reckonings.{HasWork, Past, ReckonsTo}
use Rattle.xc_core.specs.Operations.{HasRead}
use Rattle.xc_core.specs.Provisioners.{IsHome, Rolls, ground_of}
use Rattle.xc_core.specs.Restarts.{IsHalted, Resumes}
use Rattle.xc_core.specs.States.{DoubtsUnsettled, IsReadyOrHalted, IsUnsettled, Opening, began, IsPaid, SpendsOf, faults_in, most_room, outset_of, room_in, rules_of}

abbrev pub entry_coded : Coded Entry
entry_coded = entry_row.the_row.coded

abbrev pub codes : List Entry → List Gv
codes h = map entry_coded.code h

abbrev pub place_of : Entry → ℕ
place_of e = e.place

abbrev pub entry : ℕ → Op → Outcome → Entry
entry n op o = record { place = n; op = op; outcome = o }

-- what is known of every history from this opening
pub record IsHistory (o : Opening) (h : List Entry) : Type 0 where
  pub legal : IsLegal (rules_of o) h
  pub turns : KeepsTurns None h
  pub paid : IsPaid o h

-- the history that was seen is h, in front of which stands what the opening counts as
pub record Saw (o : Opening) (seen : List Gv) (h : List Entry) : Type 0 where
  pub codes_are : codes (began o.due) ++ seen ≡ codes h
  pub history : IsHistory o h

-- the place hasn't got the Provisioner out
abbrev pub Rests : ℕ → List Entry → Type 0
Rests own h = (t : Entry) → holder None h ≡ Some t → t.place ≢ own

-- after the history stand others' entries, and then this one
abbrev pub Turned : Opening → ℕ → List Entry → Entry → List Gv → Type 0
Turned = TurnedBy Saw place_of

-- after it stand others' entries alone
abbrev pub TurnedBack : Opening → ℕ → List Entry → List Gv → Type 0
TurnedBack = TurnedBackBy Saw place_of

-- how a denied operation is entered: what the table denies is Denied, all else Failed
abbrev pub refused : Cause → Outcome
refused NoMiddle = Failed NoMiddle
refused SwitchLimit = Failed SwitchLimit
refused DiskFault = Failed DiskFault
refused JournalAstray = Failed JournalAstray
refused q = Denied q

-- a restart was asked for, or is due
abbrev pub IsDueFor : Op → List Entry → Type 0
IsDueFor asked h = (asked ≡ Restart) ⊎ IsRestartDue h

-- a restart takes up a change only where a stop came, and no restart since
abbrev pub IsOfStop : Option Change → List Entry → Type 0
IsOfStop None h = Unit {0}
IsOfStop (Some c) h = IsStopped h

module _ {D : Type 0} (told : Type 0) (state : D → DiskState) where
  -- a place has the Provisioner out for this operation, and all that stands after it is as when it was taken
  pub record IsOut (o : Opening) (own : ℕ) (op : Op) (h : List Entry) (p : Provisioner D) : Type 0 where
    pub now : Past
    pub reckoned : ReckonsTo o.first (changes_of h) now
    pub held : holder None h ≡ Some (entry own op Taken)
    pub ground : ground_of p ≡ o.site
    pub faults : min (o.faults + faults_in h) last ≤ (state p.journal.0).faults
    pub spends : SpendsOf o (room_in h + most_room) (state p.journal.0)
    -- so it is with what its disk has read: the operation in hand is the last, and has made no change yet
    pub read : told → HasRead (outset_of o) (changes_of h) now (state p.journal.0)

  -- for a change, whose work is planned, in the journal, and under way
  pub record HasTaken (o : Opening) (own : ℕ) (op : Op) (h : List Entry) (p : Provisioner D) (r : RollingAt) : Type 0 where
    pub out : IsOut o own op h p
    pub change : Change
    pub within : HasWork out.now change None
    pub rolls : Rolls told state out.now op change p r
    pub unstopped : IsStopped h → ⊥

  -- for a restart, and the rest of the last record's work is under way; it was asked for by INIT-SYS, or by an operation that waits for it
  pub record HasRestart (o : Opening) (own : ℕ) (asked : Op) (h : List Entry) (p : Provisioner D) (r : RollingAt) : Type 0 where
    pub out : IsOut o own Restart h p
    pub lacking : Option Change
    pub behind : Past
    pub resumes : Resumes told state out.now lacking behind p r
    pub of_stop : IsOfStop lacking h
    pub doubt : DoubtsUnsettled h p
    pub due : IsDueFor asked h

  -- For a change, whose work is planned: the journal wasn't called since.
  pub record HasPlan (o : Opening) (own : ℕ) (h : List Entry) (p : Provisioner D) (plan : Plan) : Type 0 where
    pub out : IsOut o own plan.op h p
    pub unspent : SpendsOf o (room_in h) (state p.journal.0)
    pub may : MayNote told state out.now p plan
    pub sealed : slice_index plan.bytes 0 ≡ set_seal
    pub doubt : (x : Op) → p.doubt ≡ Some x → IsUnsettled h x
    pub unstopped : IsStopped h → ⊥

  -- For a restart: the journal wasn't called since, and the table is copied to compare with.
  pub record HasHeld (o : Opening) (own : ℕ) (asked : Op) (h : List Entry) (p : Provisioner D) : Type 0 where
    pub out : IsOut o own Restart h p
    pub unspent : SpendsOf o (room_in h) (state p.journal.0)
    pub stage : IsReadyOrHalted told state out.now h p
    pub copied : p.replayed.expected ≡ out.now.fold.table
    pub doubt : DoubtsUnsettled h p
    pub due : IsDueFor asked h

  -- The gate stopped before its journal was read: it is halted.
  pub record HasStopped (o : Opening) (own : ℕ) (asked : Op) (h : List Entry) (p : Provisioner D) : Type 0 where
    pub out : IsOut o own Restart h p
    pub halted : IsHalted told state out.now p
    pub doubt : DoubtsUnsettled h p
    pub due : IsDueFor asked h

  -- It was taken for one operation, its journal failed, or reads otherwise than it was written, and it has to come home by an entry of
  -- the operation that this is told to: the same, or the one that waited for the restart.
  pub record HasFailed (o : Opening) (own : ℕ) (taken op : Op) (cause : Cause) (h : List Entry) (p : Provisioner D) : Type 0 where
    pub out : IsOut o own taken h p
    pub upon : ((op ≡ taken) × (IsStopped h → ⊥)) ⊎ ((taken ≡ Restart) × IsDueFor op h)
    pub fault : IsFault cause
    pub driven : IsDriven op
    pub counted : cause ≡ DiskFault → min (o.faults + (faults_in h + 1)) last ≤ (state p.journal.0).faults
    pub astray : told → cause ≢ JournalAstray
    pub stage : (IsHome told state out.now p × (IsStopped h → ⊥)) ⊎ (IsHalted told state out.now p × IsDueFor op h)
    pub doubt : (x : Op) → p.doubt ≡ Some x → (((x ≡ op) × (cause ≡ DiskFault)) ⊎ IsUnsettled h x) × (p.halted ≡ true → IsStopped h)
