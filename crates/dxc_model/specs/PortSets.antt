-- Sets of ports as bits of words.
use Rattle.std.specs.Prelude.{◌≡◌, ℕ, ◌<◌, ◌≤◌, ◌/◌, ◌%◌, Bool, true, false, Option, Some, None, List, slice_index_or}
use Rattle.dxc_model.specs.Equipment.{has_bit}

-- the port is in the set
abbrev pub has_port : List ℕ → ℕ → Bool
has_port words p = has_bit (slice_index_or words (p / 64) 0) (p % 64)

-- the first port of the set from this one on, or there is none
abbrev pub IsNext : List ℕ → ℕ → Option ℕ → Type 0
IsNext words from None = (k : ℕ) → from ≤ k → has_port words k ≡ false
IsNext words from (Some p) = (from ≤ p) × (has_port words p ≡ true) × ((k : ℕ) → from ≤ k → k < p → has_port words k ≡ false)
