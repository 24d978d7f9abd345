use Rattle.std.proofs.Common.{◌≡◌, vec_len, vec_capacity}
use Rattle.fabric_core.specs.State.{new_workers}
use Rattle.fabric_core.proofs.state.new_workers.Given as goal

abbrev pub invariant-loop-number : goal.invariant-loop-number
invariant-loop-number l = record { items : l.workers.items ≡ new_workers 0 l.number; len : vec_len l.workers ≡ l.number; room : vec_capacity l.workers ≡ l.count }
