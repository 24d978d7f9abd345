use Rattle.std.proofs.Common.{◌≡◌, ◌<◌, ℕ, None}
use Rattle.paull_matrix.specs.Indexes.{leg_in}
use Rattle.paull_matrix.proofs.matrix.Matrix.is_empty.Given as goal

abbrev pub invariant-loop-module : goal.invariant-loop-module
invariant-loop-module l = (m : ℕ) → m < l.«module» → leg_in l.self-inside.rows m l.middle.0 ≡ None
