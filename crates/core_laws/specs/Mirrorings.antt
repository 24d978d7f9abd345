-- What a file stands for that a journal's disk has read, or that a crash might have left, by the operations of the run.
use Rattle.std.specs.Prelude.{◌≡◌, ◌⊎◌, ℕ, ◌+◌, ◌≤◌, List, length, take, slice_get, Option, Some, None}
use Rattle.std.specs.List.{AllByRecursion}
use Rattle.dxc_disk.specs.Disks.{DiskState, files}
use Rattle.dxc_model.specs.declared.op.Op.{Op}
use Rattle.dxc_model.specs.declared.op.Change.{Change}
use Rattle.roll_engine.specs.Rollings.{RollingAt}
use Rattle.xc_core.specs.declared.provisioner.Provisioner.{Provisioner}
use Rattle.xc_core.specs.Journals.{IsOldOrDoubted}
use Rattle.xc_core.specs.Operations.{EndsAt, HasRead, MayBe, Operation, Outset, made_in, readings_in}
use Rattle.xc_core.specs.Provisioners.{IsHome, Rolls}
use Rattle.xc_core.specs.Reckonings.{Past, ReckonsTo}
use Rattle.xc_core.specs.Restarts.{IsHalted, Resumes}

-- between two operations: home, halted, or with a work or the rest of one under way
abbrev pub IsBetween : {D : Type 0} → Type 0 → (D → DiskState) → Past → Provisioner D → Type 0
IsBetween told state b p =
    IsHome told state b p
    ⊎ (IsHalted told state b p
    ⊎ (((op : Op) × (c : Change) × (r : RollingAt) × Rolls told state b op c p r)
    ⊎ ((lacking : Option Change) × (g : Past) × (r : RollingAt) × Resumes told state b lacking g p r)))

-- a file stands for the changes in front of this operation, or for one more; or after all operations for those and maybe the one in doubt
abbrev pub StandsAt : Past → Option Op → Option Operation → List ℕ → Type 0
StandsAt b doubt None = IsOldOrDoubted b doubt
StandsAt b doubt (Some x) = MayBe b x.doubt x.task

-- A file stands for the changes of the first operations from there on, and maybe for one more. Among these are all that had ended, as this tells of the first n.
pub record StandsForFirst (first : Past) (xs : List Operation) (doubt : Option Op) (HadEnded : ℕ → Type 0) (file : List ℕ) : Type 0 where
  pub number : ℕ
  pub holds : (n : ℕ) → n ≤ length xs → HadEnded n → n ≤ number
  pub past : Past
  pub reckoned : ReckonsTo first (made_in (take number xs)) past
  pub stands : StandsAt past doubt (slice_get xs number) file

-- the first n had ended by the time when the disk had so many readings
abbrev pub EndedByReading : Outset → List Operation → ℕ → ℕ → Type 0
EndedByReading from xs by n = length from.readings + length (readings_in (take n xs)) ≤ by

-- the first n had ended by this moment
abbrev pub EndedBy : List Operation → ℕ → ℕ → Type 0
EndedBy xs t n = AllByRecursion (λ x. x.ended ≤ t) (take n xs)

-- Of a Provisioner between two operations, whatever its disk read since they began: the file of a reading stands for the first of them, with all that ended by any
-- earlier reading or by this one.
abbrev pub ReadingsStand : {D : Type 0} → Type 0 → (D → DiskState) → Type 0
ReadingsStand {D} told state = told → (from : Outset) (made : List Change) (b : Past) (p : Provisioner D) → IsBetween told state b p
    → (x : HasRead from made b (state p.journal.0)) (by place : ℕ) (file : List ℕ) → slice_get (files (state p.journal.0).readings) place ≡ Some file → by ≤ place + 1 → length from.readings ≤ place + 1
    → StandsForFirst from.past x.operations p.doubt (EndedByReading from x.operations by) file

-- Whatever moment since the end of one of them a crash came at, in the middle of an operation too: the file stands for the first of them, with all that had ended by
-- that end.
abbrev pub CrashesStand : {D : Type 0} → Type 0 → (D → DiskState) → Type 0
CrashesStand {D} told state = told → (from : Outset) (made : List Change) (b : Past) (p : Provisioner D) → IsBetween told state b p
    → (x : HasRead from made b (state p.journal.0)) (t : ℕ) (file : List ℕ) → EndsAt x.operations t → (state p.journal.0).left_since t file
    → StandsForFirst from.past x.operations p.doubt (EndedBy x.operations t) file
