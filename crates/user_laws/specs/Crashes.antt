-- What a crash might have left of the users' journal at any moment of a run, in words of their history.
use Rattle.std.specs.Prelude.{◌⊎◌, ℕ, ◌≤◌, List, length, take, slice_get, Option, Some, None}
use Rattle.dxc_disk.specs.Disks.{DiskState}
use Rattle.user_admin.specs.declared.op.UserEntry.{UserEntry}
use Rattle.user_admin.specs.declared.state.UserState.{UserState}
use Rattle.user_admin.specs.Histories.{Opening}
use Rattle.user_admin.specs.Operations.{HasRead, IsFileAfter, IsFileWithChange, ended_at}
use Rattle.user_admin.specs.States.{StandsFor}

-- a file stands for the users after the history and then the change of this entry's operation, where there is one
abbrev pub IsFileWithNext : Opening → List UserEntry → Option UserEntry → List ℕ → Type 0
IsFileWithNext o h None file = ⊥
IsFileWithNext o h (Some e) file = IsFileWithChange o h e.op file

-- A file stands for the users after the first entries of the history, these at least, and maybe with one change more, that of the next entry or one in doubt.
pub record StandsForEntries (o : Opening) (h : List UserEntry) (least : ℕ) (file : List ℕ) : Type 0 where
  pub number : ℕ
  pub holds : least ≤ number
  pub stands : IsFileAfter o (take number h) file ⊎ IsFileWithNext o (take number h) (slice_get h number) file

-- the disk's moment at which the first n entries' operations had ended
abbrev pub ended : {o : Opening} {h : List UserEntry} {s : DiskState} → HasRead o h s → ℕ → ℕ
ended x n = ended_at x.begun x.operations n

-- Where the users' keeper is home: whatever moment since the start a crash came at, in the middle of a change too, the file stands for the users after the first
-- entries of the history, with all that had ended by then, and maybe with one change more.
abbrev pub CrashesStand : {D : Type 0} → Type 0 → (D → DiskState) → Type 0
CrashesStand {D} told state = (t : told) (o : Opening) (h : List UserEntry) (s : UserState D) (st : StandsFor told state o s h) (n : ℕ) (file : List ℕ) → n ≤ length h
    → (state s.journal.0).left_since (ended (st.read t) n) file → StandsForEntries o h n file
