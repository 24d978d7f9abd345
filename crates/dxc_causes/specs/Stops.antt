-- A count that rises for one cause alone, as that of a gate's stops.
use Rattle.std.specs.Prelude.{◌≡◌, ◌≤◌, ℕ}
use Rattle.dxc_causes.specs.Causes.{Rose}

-- a count in a call: it doesn't fall, it rises where this came, and where this didn't come it stands as it was
pub record RoseOnlyFor (before now : ℕ) (came : Type 0) : Type 0 where
  pub later : before ≤ now
  pub cause : came → Rose before now
  pub only : (came → ⊥) → now ≡ before
