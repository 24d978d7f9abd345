-- What is made of things that are opened.
use Rattle.std.specs.Prelude.{◌≡◌, ◌≢◌, ◌≤◌, ℕ, Result, Err}
use Rattle.dxc_causes.specs.Causes.{Rose}
use Rattle.dxc_args.specs.declared.status.Status.{Status}
use Rattle.dxc_args.specs.declared.status.Status.TheVariants.{Done, BadWords, BadShelf, BadJournal, Disk, CannotOpen, NoThread, NoMemory, Link, Stopped, Spent, BadMessage, NotEmpty}

-- It was made, or one of them couldn't be opened, by the count of faults, or memory was wanting.
pub record IsMade {X : Type 0} (faults later : ℕ) (made : Result X Status) : Type 0 where
  pub counted : faults ≤ later
  pub cause : made ≡ Err CannotOpen → Rose faults later
  pub only : (s : Status) → made ≡ Err s → s ≢ CannotOpen → s ≡ NoMemory

-- a status with which no opening ends
abbrev pub IsOfNoOpening : Status → Type 0
IsOfNoOpening Done = Unit {0}
IsOfNoOpening BadWords = Unit {0}
IsOfNoOpening (BadShelf f) = ⊥
IsOfNoOpening (BadJournal f) = ⊥
IsOfNoOpening Disk = ⊥
IsOfNoOpening CannotOpen = ⊥
IsOfNoOpening NoThread = Unit {0}
IsOfNoOpening NoMemory = ⊥
IsOfNoOpening Link = Unit {0}
IsOfNoOpening Stopped = ⊥
IsOfNoOpening Spent = Unit {0}
IsOfNoOpening BadMessage = Unit {0}
IsOfNoOpening NotEmpty = Unit {0}
