-- Blocks of an answer.
use Rattle.std.specs.Prelude.{◌≡◌, ℕ, ◌≤◌, Bool, true, false, List, [], ◌∷◌, ◌++◌, length, nat_lt}
use Rattle.tl1_answer.specs.Messages.{with_line}

-- a block as it is being written: its bytes, the header and M line that it began with, and whether more may follow
pub record Draft : Type 0 where
  pub bytes : List ℕ
  pub head : List ℕ
  pub unended : Bool

-- a block that holds a header and M line, which a further block may repeat
abbrev pub IsBegun : Draft → Type 0
IsBegun d = 1 ≤ length d.head

-- a block to which lines may be added
abbrev pub IsUnended : Draft → Type 0
IsUnended d = d.unended ≡ true

-- a block of header and M line alone
abbrev pub begun : List ℕ → Draft
begun head = record { bytes = head; head = head; unended = true }

-- a block with a line more
abbrev pub lined : Draft → List ℕ → Draft
lined d text = record { bytes = with_line d.bytes text; head = d.head; unended = true }

-- these bytes have room for their ending byte
abbrev pub fits : List ℕ → Bool
fits bytes = nat_lt (length bytes) 4096

-- a block with lines more, each of which fits
abbrev pub all_lined : Draft → List (List ℕ) → Draft
all_lined d [] = d
all_lined d (l ∷ ls) = all_lined (lined d l) ls

abbrev pub AllFit : Draft → List (List ℕ) → Type 0
AllFit d [] = Unit {0}
AllFit d (l ∷ ls) = (fits (with_line d.bytes l) ≡ true) × AllFit (lined d l) ls

pub record IsAdded (old : Draft) (lines : List (List ℕ)) (new : Draft) : Type 0 where
  pub fit : AllFit old lines
  pub is : new ≡ all_lined old lines

-- a block with its ending byte
abbrev pub ended : Draft → List ℕ → Draft
ended d ending = record { bytes = d.bytes ++ ending; head = d.head; unended = false }

-- a block to which nothing is added or repeated
abbrev pub alone : List ℕ → Draft
alone bytes = record { bytes = bytes; head = []; unended = false }
