-- What a turn of a place comes to.
use Rattle.std.specs.Prelude.{◌≡◌, ◌≢◌, ◌⊎◌, ℕ, List, [], ◌∷◌, ◌++◌, filter, length, min, Option, Some, None, Result, Ok, Err, IfSome}
use Rattle.std.specs.List.{range_with_len}
use base.Stored.{Gv}
use Rattle.turnstile.specs.Passing.{TurnstileView, Token}
use Rattle.turnstile.specs.Places.{AreNumberedBy, HasPassBy, KeepsPassBy}
use Rattle.dxc_disk.specs.Disks.{DiskState}
use Rattle.dxc_disk.specs.declared.disk.Disk.{Ghosts as DiskOf}
use Rattle.dxc_outside.specs.declared.stopped.Stopped.{Stopped}
use Rattle.dbchg_reports.specs.Recent.{SinceIs, recent_of}
use Rattle.dxc_num.specs.Dimensions.{Dimensions, IsWorking}
use Rattle.dxc_model.specs.declared.conn.Conn.{Conn}
use Rattle.dxc_model.specs.declared.op.Selection.{Selection}
use Rattle.dxc_model.specs.declared.cause.Cause.{Cause}
use Rattle.dxc_model.specs.declared.op.Op.{Op}
use Rattle.dxc_model.specs.declared.op.Op.TheVariants.{Look, Restart, Rows}
use Rattle.dxc_model.specs.declared.op.Change.{Change}
use Rattle.dxc_model.specs.declared.entry.Outcome.{Outcome}
use Rattle.dxc_model.specs.declared.entry.Outcome.TheVariants.{Answered, Cut, Done, Failed, Restarted, Taken}
use Rattle.journal_core.specs.declared.book.Book.{Book}
use Rattle.dxc_model.specs.declared.entry.Entry.{Entry}
use Rattle.dxc_model.specs.Equipment.{has_bit}
use Rattle.dxc_model.specs.Tables.{Board, rows}
use Rattle.dxc_model.specs.Steps.{IsFault}
use Rattle.dxc_model.specs.Histories.{IsRestartDue, IsStopped, changes_of, table_after}
use Rattle.xc_core.specs.declared.provisioner.Driver.{Driver}
use Rattle.xc_core.specs.declared.state.State.{State}
use Rattle.xc_core.specs.declared.turns.Inventory.{Inventory}
use Rattle.xc_core.specs.declared.turns.Looked.{Looked}
use Rattle.xc_core.specs.declared.turns.Took.{Took}
use Rattle.xc_core.specs.declared.turns.Took.TheVariants.{Rolling, Denied, Halted, Waits}
use Rattle.xc_core.specs.declared.provisioner.Provisioner.{Provisioner}
use Rattle.xc_core.specs.declared.restarts.Held.{Held}
use Rattle.xc_core.specs.declared.restarts.Held.TheVariants as held
use Rattle.xc_core.specs.declared.resuming.Reread.{Reread}
use Rattle.xc_core.specs.declared.resuming.Reread.TheVariants as reread
use Rattle.xc_core.specs.declared.state.Home.{Home}
use Rattle.xc_core.specs.declared.state.Home.TheVariants.{In, Out}
use Rattle.xc_core.specs.Begins.{plan_of}
use Rattle.xc_core.specs.States.{IsLent, IsNeverAstray, Opening, StandsFor}
use Rattle.xc_core.specs.Seeing.{HasFailed, HasHeld, HasPlan, HasRestart, HasStopped, IsDueFor, IsOfStop, Turned, TurnedBack, codes, entry, place_of, refused}

-- each entry that was seen carries the number of one of so many passes
abbrev pub AreNumbered : ℕ → List Gv → Type 0
AreNumbered = AreNumberedBy codes place_of

-- the pass is one of the turnstile's, no turn of it is out, and what it has seen are entries of the turnstile's passes
abbrev pub HasPass : {X : Type 0} → TurnstileView X → Token → Type 0
HasPass = HasPassBy codes place_of

-- so it is after turns of it, and it is the same pass at a later time
abbrev pub KeepsPass : {X : Type 0} → TurnstileView X → Token → Token → Type 0
KeepsPass = KeepsPassBy codes place_of

-- of a disk that tells its content, no operation that was seen failed because the journal reads otherwise than it was written
abbrev pub SawNoneAstray : Type 0 → List Gv → Type 0
SawNoneAstray told seen = told → (h : List Entry) → seen ≡ codes h → IsNeverAstray h

-- the outcome with which a turn ends in which a change was to begin; none where it is given back
abbrev pub outcome_of : {D : Type 0} → Took D → Option Outcome
outcome_of (Rolling d bytes) = Some Taken
outcome_of (Denied q) = Some (refused q)
outcome_of Halted = None
outcome_of Waits = None

-- operation and outcome of the entry with which a turn ends in which a restart was to begin; none where it is given back
abbrev pub held_entry_of : {D : Type 0} → Held D → Option (Op × Outcome)
held_entry_of (held.Held d) = Some (Restart, Taken)
held_entry_of held.Waits = None

-- the journal of a Provisioner that is home, and of one that this turn took out
abbrev pub journal_home : {D : Type 0} → Home D → Option (D × Book)
journal_home (In d) = Some d.value.p.journal
journal_home (Out e) = None

abbrev pub journal_taken : {D : Type 0} → Home D → Took D → Option (D × Book)
journal_taken home (Rolling d bytes) = Some d.value.p.journal
journal_taken home _ = journal_home home

abbrev pub journal_held : {D : Type 0} → Home D → Held D → Option (D × Book)
journal_held home (held.Held d) = Some d.value.p.journal
journal_held home held.Waits = journal_home home

-- no restart may begin for this operation: a place has the Provisioner; or no stop stands last, and INIT-SYS wasn't asked for
abbrev pub MayNotRestart : Op → List Entry → Type 0
MayNotRestart asked h = IsLent h ⊎ ((asked ≢ Restart) × (IsStopped h → ⊥))

module _ {D : Type 0} (told : Type 0) (state : D → DiskState) where
  -- the state of a turn in which a change was to begin, after the history
  abbrev pub TakenIs : Opening → ℕ → List Entry → Op → State D → Took D → Type 0
  TakenIs o own h op s (Rolling d bytes) = StandsFor told state o s (h ++ entry own op Taken ∷ []) × HasPlan told state o own (h ++ entry own op Taken ∷ []) d.value.p (plan_of op d.value.rolling bytes)
  TakenIs o own h op s (Denied q) = StandsFor told state o s (h ++ entry own op (refused q) ∷ []) × (IsStopped h → ⊥) × (IsFault q → ⊥)
  TakenIs o own h op s Halted = StandsFor told state o s h × IsRestartDue h
  TakenIs o own h op s Waits = StandsFor told state o s h × IsLent h

  -- what the place has seen after it
  abbrev pub TookIs : Opening → ℕ → List Entry → Op → List Gv → Took D → Type 0
  TookIs o own h op then_seen (Rolling d bytes) = (t : Turned o own h (entry own op Taken) then_seen) × HasPlan told state o own ((h ++ t.later) ++ entry own op Taken ∷ []) d.value.p (plan_of op d.value.rolling bytes)
  TookIs o own h op then_seen (Denied q) = (t : Turned o own h (entry own op (refused q)) then_seen) × (IsStopped (h ++ t.later) → ⊥) × (IsFault q → ⊥)
  TookIs o own h op then_seen Halted = (t : TurnedBack o own h then_seen) × IsRestartDue (h ++ t.later)
  TookIs o own h op then_seen Waits = (t : TurnedBack o own h then_seen) × IsLent (h ++ t.later)

  -- the state of a turn in which a restart was to begin
  abbrev pub HeldIs : Opening → ℕ → List Entry → Op → State D → Held D → Type 0
  HeldIs o own h asked s (held.Held d) = StandsFor told state o s (h ++ entry own Restart Taken ∷ []) × HasHeld told state o own asked (h ++ entry own Restart Taken ∷ []) d.value.p
  HeldIs o own h asked s held.Waits = StandsFor told state o s h × MayNotRestart asked h

  -- what the place has seen after it
  abbrev pub HoldIs : Opening → ℕ → List Entry → Op → List Gv → Held D → Type 0
  HoldIs o own h asked then_seen (held.Held d) = (t : Turned o own h (entry own Restart Taken) then_seen) × HasHeld told state o own asked ((h ++ t.later) ++ entry own Restart Taken ∷ []) d.value.p
  HoldIs o own h asked then_seen held.Waits = (t : TurnedBack o own h then_seen) × MayNotRestart asked (h ++ t.later)

  -- what settling and reading left of a Provisioner that was taken out for a restart, outside of any turn
  abbrev pub RereadIs : Opening → ℕ → Op → List Entry → Provisioner D → Result Reread Stopped → Type 0
  RereadIs o own asked h p (Ok (reread.Warm r)) = HasRestart told state o own asked h p r
  RereadIs o own asked h p (Ok (reread.Failed q)) = HasFailed told state o own Restart asked q h p
  RereadIs o own asked h p (Err stopped) = HasStopped told state o own asked h p

  -- by a fault of the journal it came home; what was known of it holds then, and no stop came
  abbrev pub FailedIs : Opening → ℕ → List Entry → Op → Cause → Provisioner D → List Gv → Type 0
  FailedIs o own h op cause p then_seen = (t : Turned o own h (entry own op (Failed cause)) then_seen) × ((taken : Op) → HasFailed told state o own taken op cause h p → HasFailed told state o own taken op cause (h ++ t.later) p) × (IsStopped (h ++ t.later) → IsStopped h)

-- what a restart that was begun so takes up at its end
abbrev pub TakesUpOfStop : {D : Type 0} → DiskOf D → State D → Driver D → Option Change → Type 0
TakesUpOfStop g s d lacking = (o : Opening) (own : ℕ) (h : List Entry) (asked : Op) → StandsFor g.told g.state o s h → HasRestart g.told g.state o own asked h d.p d.rolling → IsOfStop lacking h

-- the table took the change
abbrev pub DoneIs : Opening → ℕ → List Entry → Op → List Gv → Type 0
DoneIs o own h op then_seen = (c : Change) × (t : Turned o own h (entry own op (Done c)) then_seen) × (IsStopped (h ++ t.later) → ⊥)

-- a stop cut it
abbrev pub CutIs : Opening → ℕ → List Entry → Op → List Gv → Type 0
CutIs o own h op then_seen = (t : Turned o own h (entry own op Cut) then_seen) × (IsStopped (h ++ t.later) → ⊥)

-- the restart ended, and the table took the change that was lacking, if one was
abbrev pub RestartedIs : Opening → ℕ → List Entry → Op → List Gv → Type 0
RestartedIs o own h asked then_seen = (lacking : Option Change) × (t : Turned o own h (entry own Restart (Restarted lacking)) then_seen) × IsDueFor asked (h ++ t.later) × IsOfStop lacking (h ++ t.later)

-- or a stop cut it
abbrev pub RestartCutIs : Opening → ℕ → List Entry → Op → List Gv → Type 0
RestartCutIs o own h asked then_seen = (t : Turned o own h (entry own Restart Cut) then_seen) × IsDueFor asked (h ++ t.later)

-- the rows of the table before the place's entry
abbrev pub RowsAre : Opening → ℕ → List Entry → Selection → List Gv → List Conn → Type 0
RowsAre o own h which then_seen given = (t : Turned o own h (entry own (Rows which) Answered) then_seen) × (given ≡ rows (table_after o.first.fold.table (h ++ t.later)) which)

-- the changes after the cursor, of those before the place's entry, and how many those are
abbrev pub LookIs : Opening → ℕ → List Entry → ℕ → List Gv → Looked → List Change → Type 0
LookIs o own h cursor then_seen looked given = (t : Turned o own h (entry own (Look cursor) Answered) then_seen) × SinceIs (recent_of (changes_of (h ++ t.later))) (min cursor (length (changes_of (h ++ t.later)))) looked.since given × (looked.newest ≡ length (changes_of (h ++ t.later)))

-- the number of the newest of them
abbrev pub MarkIs : Opening → ℕ → List Entry → List Gv → ℕ → Type 0
MarkIs o own h then_seen n = (t : Turned o own h (entry own (Look n) Answered) then_seen) × (n ≡ length (changes_of (h ++ t.later)))

-- the modules that an inventory tells as equipped
abbrev pub equipped_in : Inventory → List ℕ
equipped_in i = filter (has_bit i.equipped) (range_with_len 0 i.modules)

-- it is one of a table of this shape
abbrev pub IsInventoryOf : Dimensions → Inventory → Type 0
IsInventoryOf d i = (i.modules ≡ d.modules) × IfSome i.out (λ m. IsWorking d m.0)

-- it tells the equipped modules of the table, and the middle that is out
abbrev pub Tells : Inventory → Board → Type 0
Tells i t = (equipped_in i ≡ t.equipped) × (i.out ≡ t.out)

-- what the table before the place's entry holds, which is a look at the newest change
abbrev pub InventoryIs : Opening → ℕ → List Entry → List Gv → Inventory → Type 0
InventoryIs o own h then_seen given = (newest : ℕ) × (m : MarkIs o own h then_seen newest) × Tells given (table_after o.first.fold.table (h ++ m.0.later))
