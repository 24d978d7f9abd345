use Rattle.std.proofs.Common.{◌≡◌, ◌≤◌, ◌*◌, length, take}
use Rattle.roll_plan.specs.Works.{ops_writes}
use Rattle.roll_plan.proofs.work.writes.Given as goal

abbrev pub invariant-loop-op : goal.invariant-loop-op
invariant-loop-op l = record {
  counted : l.count ≡ length (ops_writes (take l.op-index l.op-items));
  few : l.count ≤ 473 * l.op-index;
}
