-- A changing command of a session, and a restart, by the entries that they make.
use Rattle.std.specs.Prelude.{◌⊎◌, ℕ, List, [], ◌∷◌, ◌++◌, Option, Result, Ok, Err}
use base.Stored.{Gv}
use Rattle.turnstile.specs.Turning.{Each}
use Rattle.dxc_outside.specs.declared.stopped.Stopped.{Stopped}
use Rattle.dxc_model.specs.declared.op.Op.{Op}
use Rattle.dxc_model.specs.declared.op.Op.TheVariants.{Restart}
use Rattle.dxc_model.specs.declared.op.Change.{Change as TableChange}
use Rattle.dxc_model.specs.declared.entry.Outcome.TheVariants as outcome
use Rattle.dxc_model.specs.declared.entry.Entry.{Entry}
use Rattle.dxc_model.specs.Steps.{IsFault}
use Rattle.dxc_model.specs.Histories.{IsRestartDue, IsStopped}
use Rattle.xc_core.specs.States.{Opening}
use Rattle.xc_core.specs.Seeing.{IsDueFor, IsOfStop, Saw, entry, refused}
use Rattle.craft_session.specs.declared.change.Changed.{Changed}
use Rattle.craft_session.specs.declared.change.Changed.TheVariants.{Done, Denied}
use Rattle.craft_session.specs.declared.mend.Mended.{Mended}
use Rattle.craft_session.specs.declared.mend.Mended.TheVariants as mended
use Rattle.craft_session.specs.Walks.{IsChangeAt, IsUnused, Mends}

-- after the history stand entries that no unit of the place uses, and then this one
pub record Passed (o : Opening) (place : ℕ) (h : List Entry) (e : Entry) (then_seen : List Gv) : Type 0 where
  pub passed : List Entry
  pub unused : Each (IsUnused place) passed
  pub saw : Saw o then_seen ((h ++ passed) ++ e ∷ [])

-- the same with none after them
pub record PassedBy (o : Opening) (place : ℕ) (h : List Entry) (then_seen : List Gv) : Type 0 where
  pub passed : List Entry
  pub unused : Each (IsUnused place) passed
  pub saw : Saw o then_seen (h ++ passed)

-- after it stand such entries, and restarts that were due, and then this one
pub record MendedTo (o : Opening) (place : ℕ) (h : List Entry) (e : Entry) (then_seen : List Gv) : Type 0 where
  pub front : List Entry
  pub mends : Mends place h front
  pub saw : Saw o then_seen ((h ++ front) ++ e ∷ [])

-- the same with none after them
pub record MendedBy (o : Opening) (place : ℕ) (h : List Entry) (then_seen : List Gv) : Type 0 where
  pub front : List Entry
  pub mends : Mends place h front
  pub saw : Saw o then_seen (h ++ front)

-- what came of the command
abbrev pub ChangedIs : Opening → ℕ → List Entry → Op → List Gv → Result Changed Stopped → Type 0
ChangedIs o place h op then_seen (Ok Done) = (c : TableChange) × (m : MendedTo o place h (entry place op (outcome.Done c)) then_seen) × IsChangeAt (h ++ m.front) (outcome.Done c)
ChangedIs o place h op then_seen (Ok (Denied q)) = (m : MendedTo o place h (entry place op (refused q)) then_seen) × IsChangeAt (h ++ m.front) (refused q)
ChangedIs o place h op then_seen (Err e) =
    ((m : MendedTo o place h (entry place op outcome.Cut) then_seen) × (IsStopped (h ++ m.front) → ⊥)) ⊎ ((m : MendedTo o place h (entry place Restart outcome.Cut) then_seen) × IsRestartDue (h ++ m.front))

-- what came of turns in which a restart was to be made for what was asked
abbrev pub MendedIs : Opening → ℕ → List Entry → Op → List Gv → Result Mended Stopped → Type 0
MendedIs o place h asked then_seen (Ok mended.Ready) = (c : Option TableChange) × (p : Passed o place h (entry place Restart (outcome.Restarted c)) then_seen) × IsDueFor asked (h ++ p.passed) × IsOfStop c (h ++ p.passed)
MendedIs o place h asked then_seen (Ok (mended.Denied q)) = (p : Passed o place h (entry place asked (outcome.Failed q)) then_seen) × IsFault q × IsDueFor asked (h ++ p.passed)
MendedIs o place h asked then_seen (Err e) = (p : Passed o place h (entry place Restart outcome.Cut) then_seen) × IsDueFor asked (h ++ p.passed)
MendedIs o place h asked then_seen (Ok mended.Waits) = PassedBy o place h then_seen

-- what came of a restart that was asked for, which takes up a change only where a stop came
abbrev pub WarmRestartIs : Opening → ℕ → List Entry → List Gv → Result Changed Stopped → Type 0
WarmRestartIs o place h then_seen (Ok Done) = (c : Option TableChange) × (p : Passed o place h (entry place Restart (outcome.Restarted c)) then_seen) × IsOfStop c (h ++ p.passed)
WarmRestartIs o place h then_seen (Ok (Denied q)) = Passed o place h (entry place Restart (outcome.Failed q)) then_seen
WarmRestartIs o place h then_seen (Err e) = Passed o place h (entry place Restart outcome.Cut) then_seen
