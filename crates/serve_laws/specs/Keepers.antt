-- The users' keeper, where no place has it out.
use Rattle.std.specs.Prelude.{◌≡◌, ◌≤◌, ◌<◌, ℕ, List, length, Option, Some, None, IfSome, Box}
use Rattle.std.specs.declared.alloc.Global.{Global}
use Rattle.dxc_disk.specs.Disks.{DiskState}
use Rattle.user_admin.specs.declared.op.UserChange.{UserChange}
use Rattle.user_admin.specs.declared.op.UserMark.{UserMark}
use Rattle.user_admin.specs.declared.state.UserState.{UserState}
use Rattle.user_admin.specs.Histories.{IsInDoubt, Opening}
use Rattle.user_admin.specs.Marks.{entries_of}
use Rattle.user_admin.specs.Operations.{IsFileOf}
use Rattle.user_admin.specs.States.{StandsFor}
use Rattle.standby_link.specs.Laws.{KeepsUp, named}
use Rattle.standby_link.specs.Lines.{LineState}
use Rattle.standby_link.specs.Mirrored.{Mirrors, ReadsAlong}
use Rattle.standby_link.specs.Mirrors.{Pair}
use Rattle.standby_link.specs.Moves.{mirrored}
use Rattle.user_laws.specs.Crashes.{StandsForEntries, ended}
use Rattle.user_laws.specs.Mirrorings.{StandsForOperations}

-- It is home, and stands for the entries of the users' history; so does each file that a crash may leave of its journal, or for these and the change in doubt.
pub record IsKeeperHome {D : Type 0} (told : Type 0) (state : D → DiskState) (o : Opening) (left : List UserMark) (keeper : Option (Box (UserState D) Global)) : Type 0 where
  pub users : Box (UserState D) Global
  pub is : keeper ≡ Some users
  pub stands : StandsFor told state o users.value (entries_of left)
  -- Whatever moment since the start a crash came at, also while a command was using their journal: the file that it leaves stands for the users after the first entries of
  -- that history, with all that had ended by then, and maybe with one change more.
  pub crashes : (t : told) (n : ℕ) (file : List ℕ) → n ≤ length (entries_of left) → (state users.value.journal.0).left_since (ended (stands.read t) n) file → StandsForEntries o (entries_of left) n file
  -- Of each primary that the disk reads along with, whenever either end stopped or was lost: by its name its standby's copy of their journal is no file, or one that
  -- stands for the users after the first operations of that history, and maybe for one change more. All operations that ended by the last sync that was answered
  -- while Joined are among the first.
  pub standby : (t : told) → (pair : Pair) (by : ℕ) → length o.readings ≤ by → (0 < pair.standby.synced → KeepsUp pair) → ReadsAlong (state users.value.journal.0) pair.primary by
      → IfSome (named pair.standby) (StandsForOperations (stands.read t) by)
  -- Where no change is in doubt, and the mirror is Joined, there is no file, or it stands for the users after all of them.
  pub joined : told → ((c : UserChange) → IsInDoubt o (entries_of left) c → ⊥) → (pair : Pair) (line : LineState) (by : ℕ) → (0 < pair.standby.synced → KeepsUp pair)
      → Mirrors told (mirrored (state users.value.journal.0) line) pair.primary by → line.lost ≡ None → IfSome (named pair.standby) (IsFileOf o (entries_of left))
