-- A count that rises for one cause alone.
use Rattle.std.proofs.Common.{◌≡◌, ◌≤◌, ℕ, arith}
use Rattle.dxc_causes.specs.Causes.{Rose}
use Rattle.dxc_causes.specs.Stops.{RoseOnlyFor}

-- it didn't come, and the count stands as it was
pub stands_still : (before now : ℕ) (came : Type 0) → now ≡ before → (came → ⊥) → RoseOnlyFor before now came
stands_still before now came same none = record { later = omega (arith, same); cause = λ e. absurd (none e); only = λ _. same }

-- it came, and the count rose
pub has_risen : (before now : ℕ) (came : Type 0) → before ≤ now → Rose before now → came → RoseOnlyFor before now came
has_risen before now came later rose is = record { later = later; cause = λ _. rose; only = λ other. absurd (other is) }
