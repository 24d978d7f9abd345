-- What the operations of a history were to the users' journal, as its disk tells by what it read in each, and what a crash since one of them might have left.
use Rattle.std.specs.Prelude.{◌≡◌, ◌⊎◌, ℕ, zero, suc, ◌+◌, ◌≤◌, List, [], ◌∷◌, ◌++◌, length, take, drop, slice_get, Option, Some, None}
use Rattle.std.specs.List.{AllByRecursion}
use Rattle.dxc_disk.specs.Disks.{DiskState, IsSynced, files, last_read}
use Rattle.journal_core.specs.Headers.{header}
use Rattle.journal_core.specs.Makes.{IsFresh}
use Rattle.journal_core.specs.Opens.{made_head}
use Rattle.user_admin.specs.declared.op.UserChange.{UserChange}
use Rattle.user_admin.specs.declared.op.UserEntry.{UserEntry}
use Rattle.tl1_users.specs.declared.op.UserOp.{UserOp}
use Rattle.user_admin.specs.Users.{shelf_users}
use Rattle.user_admin.specs.Changes.{effect}
use Rattle.user_admin.specs.Verdicts.{Grants}
use Rattle.user_admin.specs.Files.{IsFileOn}
use Rattle.user_admin.specs.Histories.{IsInDoubt, Opening, users_after}

-- a file stands for the users after the history, or for these after the change in doubt
abbrev pub IsFileOf : Opening → List UserEntry → List ℕ → Type 0
IsFileOf o h = IsFileOn o.shelf.shape (shelf_users o.shelf) (users_after o h)

abbrev pub IsFileWithDoubt : Opening → List UserEntry → List ℕ → Type 0
IsFileWithDoubt o h file = (c : UserChange) × IsInDoubt o h c × IsFileOn o.shelf.shape (shelf_users o.shelf) (effect c (users_after o h)) file

-- or for these after the operation's change
abbrev pub IsFileWithChange : Opening → List UserEntry → UserOp → List ℕ → Type 0
IsFileWithChange o h op file = (c : UserChange) × Grants o.shelf.sid op (users_after o h) c × IsFileOn o.shelf.shape (shelf_users o.shelf) (effect c (users_after o h)) file

-- what a crash may leave, while nothing is called
abbrev pub IsFileAfter : Opening → List UserEntry → List ℕ → Type 0
IsFileAfter o h file = IsFileOf o h file ⊎ IsFileWithDoubt o h file

-- what a file stands for that is read in an operation: the users so far, with the change in doubt or not, or with the operation's
abbrev pub MayBe : Opening → List UserEntry → UserOp → List ℕ → Type 0
MayBe o h op file = IsFileAfter o h file ⊎ IsFileWithChange o h op file

-- and in a start: the users at the opening; in a new file it may also be one in which no journal was made yet
abbrev pub MayBeAtStart : Opening → List ℕ → Type 0
MayBeAtStart o file = IsFileOf o [] file ⊎ IsFresh (header o.shelf.shape (made_head o.shelf.equipped)) file

-- An operation: its entry in the history, what the journal's disk read after each write and each sync of it (nothing where the journal wasn't called), and the
-- disk's moment when it had ended.
pub record Operation : Type 0 where
  pub entry : UserEntry
  pub readings : List (List ℕ)
  pub ended : ℕ

abbrev pub readings_in : List Operation → List (List ℕ)
readings_in [] = []
readings_in (p ∷ ps) = p.readings ++ readings_in ps

abbrev pub entries_in : List Operation → List UserEntry
entries_in [] = []
entries_in (p ∷ ps) = p.entry ∷ entries_in ps

-- Operations after this history, each where the one before ended: in each all that was read, from the file that it began with on, is what it may be.
abbrev pub AreOperations : Opening → List UserEntry → List ℕ → List Operation → Type 0
AreOperations o h file [] = Unit {0}
AreOperations o h file (p ∷ ps) = AllByRecursion (MayBe o h p.entry.op) (file ∷ p.readings) × AreOperations o (h ++ p.entry ∷ []) (last_read file p.readings) ps

-- the moment at which the first so many of these had ended, or all, if they began at that one
abbrev pub ended_at : ℕ → List Operation → ℕ → ℕ
ended_at begun ps zero = begun
ended_at begun [] (suc n) = begun
ended_at begun (p ∷ ps) (suc n) = ended_at p.ended ps n

-- the first n had ended by this moment
abbrev pub EndedBy : ℕ → List Operation → ℕ → ℕ → Type 0
EndedBy begun ps t n = ended_at begun ps n ≤ t

-- none ended before the one in front of it, nor after now
abbrev pub EndInOrder : ℕ → List Operation → ℕ → Type 0
EndInOrder begun [] now = begun ≤ now
EndInOrder begun (p ∷ ps) now = (begun ≤ p.ended) × EndInOrder p.ended ps now

-- a file stands for the users before this operation, or with its change; or after all operations, with the change in doubt or not
abbrev pub StandsAt : Opening → List UserEntry → Option Operation → List ℕ → Type 0
StandsAt o h None = IsFileAfter o h
StandsAt o h (Some p) = MayBe o h p.entry.op

-- A file stands for the users after the first operations, and maybe with one change more. Among these are all that had ended, as this tells of the first n.
pub record StandsForFirst (o : Opening) (ps : List Operation) (HadEnded : ℕ → Type 0) (file : List ℕ) : Type 0 where
  pub number : ℕ
  pub holds : (n : ℕ) → n ≤ length ps → HadEnded n → n ≤ number
  pub stands : StandsAt o (entries_in (take number ps)) (slice_get ps number) file

-- What the disk has read since it was handed out, it read in the start, and then in the operations of the history. The last that it did is a sync, unless a
-- change is in doubt. What a crash might have left since one of them had ended, or since the start, stands for first operations.
pub record HasRead (o : Opening) (h : List UserEntry) (s : DiskState) : Type 0 where
  pub started : List (List ℕ)
  pub operations : List Operation
  pub start : AllByRecursion (MayBeAtStart o) (last_read [] o.readings ∷ started)
  pub are : AreOperations o [] (last_read (last_read [] o.readings) started) operations
  pub entered : entries_in operations ≡ h
  pub readings : files s.readings ≡ o.readings ++ (started ++ readings_in operations)
  pub synced : IsSynced s ⊎ ((c : UserChange) × IsInDoubt o h c)
  -- the disk's moment when the start had ended
  pub begun : ℕ
  pub in_order : EndInOrder begun operations s.moment
  -- what was read behind the first n was read when they had ended
  pub since : (n : ℕ) → AllByRecursion (λ r. ended_at begun operations n ≤ r.at) (drop (length o.readings + (length started + length (readings_in (take n operations)))) s.readings)
  -- a crash at that moment or later leaves a file that holds them
  pub left : (n : ℕ) (file : List ℕ) → s.left_since (ended_at begun operations n) file → StandsForFirst o operations (EndedBy begun operations (ended_at begun operations n)) file
