use Rattle.std.proofs.Common.{◌≡◌, ◌≤◌, ◌+◌, ◌*◌, drop, slice_get}
use Rattle.roll_plan.specs.Works.{ops_writes}
use Rattle.roll_plan.proofs.work.write_in_order.Given as goal

abbrev pub invariant-loop-op : goal.invariant-loop-op
invariant-loop-op l = record {
  same : slice_get (ops_writes l.op-items) l.fn.t ≡ slice_get (ops_writes (drop l.op-index l.op-items)) l.place;
  near : l.fn.t ≤ l.place + 473 * l.op-index;
}
