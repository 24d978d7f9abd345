-- A cell as a number and a leg.
use Rattle.std.specs.Prelude.{ℕ, ◌==◌, if◌then◌else◌, Option, Some, None}
use Rattle.dxc_num.specs.declared.port.Leg.{Leg}
use Rattle.dxc_num.specs.Dimensions.{leg}

abbrev pub decoded : ℕ × Leg → Option Leg
decoded c = if c.0 == 0 then None else Some c.1

abbrev pub code_of : Option Leg → ℕ × Leg
code_of None = (0, leg 0 0)
code_of (Some l) = (1, l)
