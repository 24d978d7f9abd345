-- What holds of all records.
use Rattle.std.specs.Prelude.{◌≡◌, ℕ, List, length, slice_index}
use Rattle.dxc_model.specs.declared.op.Change.{Change}
use Rattle.roll_plan.specs.declared.op.Choice.{Choice}
use Rattle.xc_journal.specs.Spelling.{spelling}
use Rattle.xc_journal.specs.Entries.{IsEntry}

-- no two values are spelled alike, in whichever version
abbrev pub OneValueEach : Type 0
OneValueEach = (v w : ℕ) (c d : Change) (l m : List Choice) → IsEntry v c l → IsEntry w d m → spelling c l ≡ spelling d m → (c ≡ d) × (l ≡ m)

-- what version 1 spells, version 2 does too
abbrev pub OldOnesStay : Type 0
OldOnesStay = (c : Change) (l : List Choice) → IsEntry 1 c l → IsEntry 2 c l

-- a record has 64 bytes, and its seal byte is set
abbrev pub RecordsAreSealed : Type 0
RecordsAreSealed = (v : ℕ) (c : Change) (l : List Choice) → IsEntry v c l → (length (spelling c l) ≡ 64) × (slice_index (spelling c l) 0 ≡ 165)
