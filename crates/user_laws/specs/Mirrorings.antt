-- What a file stands for that the users' journal's disk has read, by the operations in which it read, and so what a standby's copy stands for.
use Rattle.std.specs.Prelude.{◌⊎◌, ℕ, ◌+◌, ◌≤◌, ◌<◌, List, length, take, IfSome}
use Rattle.dxc_disk.specs.Disks.{DiskState}
use Rattle.standby_link.specs.Laws.{KeepsUp, named}
use Rattle.standby_link.specs.Mirrored.{IsReadFrom, ReadsAlong}
use Rattle.standby_link.specs.Mirrors.{Pair}
use Rattle.user_admin.specs.declared.op.UserEntry.{UserEntry}
use Rattle.user_admin.specs.declared.state.UserState.{UserState}
use Rattle.user_admin.specs.Histories.{Opening}
use Rattle.user_admin.specs.Operations.{HasRead, MayBeAtStart, StandsForFirst, readings_in}
use Rattle.user_admin.specs.States.{StandsFor}

-- It was read in the start, before any operation: the users at the opening, or a file in which no journal was made yet. No operation had ended by that time.
pub record StandsForNone (o : Opening) (before by : ℕ) (file : List ℕ) : Type 0 where
  pub earlier : by < before
  pub stands : MayBeAtStart o file

module _ {o : Opening} {h : List UserEntry} {s : DiskState} (x : HasRead o h s) where
  -- how many readings were from before the first operation
  abbrev pub readings_before : ℕ
  readings_before = length o.readings + length x.started

  -- the first n had ended by the time when it had so many readings
  abbrev pub EndedByReading : ℕ → ℕ → Type 0
  EndedByReading by n = readings_before + length (readings_in (take n x.operations)) ≤ by

  abbrev pub StandsForOperations : ℕ → List ℕ → Type 0
  StandsForOperations by file = StandsForNone o readings_before by file ⊎ StandsForFirst o x.operations (EndedByReading by) file

-- Where the users' keeper is home, each file that its disk read since it was handed out stands for the first operations of the history, with all that ended by that
-- reading or by any earlier one.
abbrev pub ReadingsStand : {D : Type 0} → Type 0 → (D → DiskState) → Type 0
ReadingsStand {D} told state = (t : told) (o : Opening) (h : List UserEntry) (s : UserState D) (st : StandsFor told state o s h) (by : ℕ) (file : List ℕ) → length o.readings ≤ by → IsReadFrom by (state s.journal.0).readings file
    → StandsForOperations (st.read t) by file

-- So by its name a standby's copy is no file, or one that stands for such operations, among which are all that ended by the last sync that was answered while Joined:
-- whatever messages came, again, never or in any order, and however long the mirror has been lost.
abbrev pub CopiesStand : {D : Type 0} → Type 0 → (D → DiskState) → Type 0
CopiesStand {D} told state = (t : told) (o : Opening) (h : List UserEntry) (s : UserState D) (st : StandsFor told state o s h) (pair : Pair) (by : ℕ) → length o.readings ≤ by → (0 < pair.standby.synced → KeepsUp pair)
    → ReadsAlong (state s.journal.0) pair.primary by → IfSome (named pair.standby) (StandsForOperations (st.read t) by)
