-- Many steps of the generator in one.
use Rattle.std.specs.Prelude.{◌≡◌, ℕ, ◌+◌, ◌*◌, ◌%◌, ◌^◌}
use Rattle.dxc_load.specs.declared.draw.Stride.{Stride}
use Rattle.dxc_load.specs.Script.{number_after}

-- the number that a stride leads to
abbrev pub strided : Stride → ℕ → ℕ
strided s x = (x * s.factor + s.addend) % 2 ^ 64

-- it is so many steps
abbrev pub IsStride : Stride → ℕ → Type 0
IsStride s n = (x : ℕ) → strided s x ≡ number_after x n
