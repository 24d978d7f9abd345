-- Sets of middles, and the lowest of them.
use Rattle.std.specs.Prelude.{ℕ, ◌<◌, ◌≤◌, ◌↔◌, IsBitSet, MatchOption, Option}
use Rattle.dxc_num.specs.declared.port.Middle.{Middle}

-- up to n, the set has the middles with the property P
abbrev pub IsSetOf : (ℕ → Type 0) → ℕ → ℕ → Type 0
IsSetOf P n set = (k : ℕ) → k ≤ n → (IsBitSet set k ↔ P k)

-- the lowest number below n with the property P
abbrev pub IsLowest : (ℕ → Type 0) → ℕ → ℕ → Type 0
IsLowest P n k = (k < n) × P k × ((j : ℕ) → j < k → P j → ⊥)

-- the lowest middle below n with the property P, or none where there is none
abbrev pub FindsLowest : (ℕ → Type 0) → ℕ → Option Middle → Type 0
FindsLowest P n found = MatchOption found ((k : ℕ) → k < n → P k → ⊥) (λ m. IsLowest P n m.0)
