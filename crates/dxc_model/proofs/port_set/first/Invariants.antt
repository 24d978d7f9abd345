use Rattle.std.proofs.Common.{◌≡◌, ◌<◌, ◌≤◌, ◌*◌, ℕ, false}
use Rattle.dxc_model.specs.PortSets.{has_port}
use Rattle.dxc_model.proofs.port_set.first.Given as goal

abbrev pub invariant-loop-at : goal.invariant-loop-at
invariant-loop-at l = (k : ℕ) → l.word * 64 ≤ k → k < l.at * 64 → has_port l.words k ≡ false
