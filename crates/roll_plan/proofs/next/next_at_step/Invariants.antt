use Rattle.std.proofs.Common.{ℕ, ◌≡◌, ◌≤◌, ◌+◌, ◌*◌, drop, slice_get}
use Rattle.roll_plan.specs.Works.{ops_writes}
use Rattle.roll_plan.proofs.next.next_at_step.Given as goal

abbrev pub invariant-loop-op : goal.invariant-loop-op
invariant-loop-op l = record {
  same : (r : ℕ) → slice_get (ops_writes l.op-items) (l.fn.t + r) ≡ slice_get (ops_writes (drop l.op-index l.op-items)) (l.place + r);
  near : l.fn.t ≤ l.place + 473 * l.op-index;
}
