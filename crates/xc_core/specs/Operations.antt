-- What a run of the controller does to its journal, operation by operation, as the journal's disk tells by what it read in each.
use Rattle.std.specs.Prelude.{◌≡◌, ◌⊎◌, ℕ, ◌≤◌, ◌<◌, List, [], ◌∷◌, ◌++◌, Option}
use Rattle.std.specs.List.{AllByRecursion}
use Rattle.dxc_disk.specs.Disks.{DiskState, Reading, files, last_read}
use Rattle.dxc_model.specs.declared.op.Op.{Op}
use Rattle.dxc_model.specs.declared.op.Change.{Change}
use Rattle.journal_core.specs.Headers.{header}
use Rattle.journal_core.specs.Makes.{IsFresh}
use Rattle.journal_core.specs.Opens.{made_head}
use Rattle.shelf_file.specs.Contents.{Contents}
use Rattle.xc_core.specs.Journals.{IsOld, IsOldOrDoubted, IsOldOrOneMore}
use Rattle.xc_core.specs.Reckonings.{Past, ReckonsTo}

-- what the journal is called for
pub data Task : Type 0 where
  -- a start on this shelf
  start : Contents → Task
  -- the planned change of this operation is journalled
  change : Op → Task
  -- the journal is mended, or read anew
  restart : Task

-- What a file that is read in it stands for: the changes so far, or one more; at a start in a new file it may also be one in which no journal was made yet.
abbrev pub MayBe : Past → Option Op → Task → List ℕ → Type 0
MayBe b doubt (start shelf) = λ file. IsOld b file ⊎ IsFresh (header shelf.shape (made_head shelf.equipped)) file
MayBe b doubt (change op) = IsOldOrOneMore b doubt op
MayBe b doubt restart = IsOldOrDoubted b doubt

-- An operation: what the journal is called for, the operation that was in doubt when it began, what the disk read after each write and each sync of it, the
-- disk's moment when it had ended, and the changes that the table took after it, before the next one.
pub record Operation : Type 0 where
  pub task : Task
  pub doubt : Option Op
  pub readings : List (List ℕ)
  pub ended : ℕ
  pub made : List Change

abbrev pub readings_in : List Operation → List (List ℕ)
readings_in [] = []
readings_in (x ∷ xs) = x.readings ++ readings_in xs

abbrev pub made_in : List Operation → List Change
made_in [] = []
made_in (x ∷ xs) = x.made ++ made_in xs

-- Operations from these changes on, each where the one before ended: in each all that was read, from the file that it began with on, is what it may be.
abbrev pub AreOperations : Past → List ℕ → List Operation → Past → Type 0
AreOperations b file [] now = now ≡ b
AreOperations b file (x ∷ xs) now = AllByRecursion (MayBe b x.doubt x.task) (file ∷ x.readings) × ((next : Past) × ReckonsTo b x.made next × AreOperations next (last_read file x.readings) xs now)

-- From this moment on they ended one after the other, the last of them by that one; and each read its part of these, in order, when the one before it had ended.
abbrev pub InOrder : ℕ → List Operation → List Reading → ℕ → Type 0
InOrder from [] readings by = (readings ≡ []) × (from ≤ by)
InOrder from (x ∷ xs) readings by = (from ≤ x.ended)
    × ((own : List Reading) × (later : List Reading) × (readings ≡ own ++ later) × (files own ≡ x.readings) × AllByRecursion (λ r. from ≤ r.at) own × InOrder x.ended xs later by)

-- so they did of the last readings of this disk
pub record ReadInOrder (xs : List Operation) (s : DiskState) : Type 0 where
  pub before : List Reading
  pub since : List Reading
  pub readings : s.readings ≡ before ++ since
  pub in_order : InOrder 0 xs since s.moment

-- one of them ended at this moment
abbrev pub EndsAt : List Operation → ℕ → Type 0
EndsAt [] t = ⊥
EndsAt (x ∷ xs) t = (t ≡ x.ended) ⊎ EndsAt xs t

-- A crash in one of these operations, from these changes on, that ended after this moment leaves this file.
abbrev pub LeftAfter : Past → List Operation → ℕ → List ℕ → Type 0
LeftAfter b [] t file = ⊥
LeftAfter b (x ∷ xs) t file = ((t < x.ended) × MayBe b x.doubt x.task file) ⊎ ((next : Past) × ReckonsTo b x.made next × LeftAfter next xs t file)

-- where operations begin: what there was after the changes, and what the journal's disk had read by then, which is something
pub record Outset : Type 0 where
  pub past : Past
  pub readings : List (List ℕ)

-- the first is a start
abbrev pub BeginWithStart : List Operation → Type 0
BeginWithStart [] = ⊥
BeginWithStart (x ∷ xs) = (shelf : Contents) × (x.task ≡ start shelf)

-- What the disk has read since then, it read in operations, of which the first is the start, and which made these changes. What a crash since the end of one of them
-- might have left, a crash in one that ended later leaves, or a crash now.
pub record HasRead (from : Outset) (made : List Change) (now : Past) (s : DiskState) : Type 0 where
  pub operations : List Operation
  pub begin : BeginWithStart operations
  pub are : AreOperations from.past (last_read [] from.readings) operations now
  pub made_is : made_in operations ≡ made
  pub readings : files s.readings ≡ from.readings ++ readings_in operations
  pub in_order : ReadInOrder operations s
  pub left : (t : ℕ) (c : List ℕ) → EndsAt operations t → s.left_since t c → LeftAfter from.past operations t c ⊎ s.may_leave c
