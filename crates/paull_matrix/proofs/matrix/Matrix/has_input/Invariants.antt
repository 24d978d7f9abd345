use Rattle.std.proofs.Common.{◌≡◌, ◌≢◌, ◌<◌, ℕ, Some}
use Rattle.dxc_num.specs.declared.port.Leg.{Leg}
use Rattle.paull_matrix.specs.Indexes.{leg_in}
use Rattle.paull_matrix.proofs.matrix.Matrix.has_input.Given as goal

abbrev pub invariant-loop-middle : goal.invariant-loop-middle
invariant-loop-middle l = (k : ℕ) (v : Leg) → k < l.middle → leg_in l.self-inside.rows l.«module» k ≡ Some v → v.input.0 ≢ l.leg.input.0
