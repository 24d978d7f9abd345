use Rattle.std.proofs.Common.{◌≡◌, ◌≤◌, ◌*◌, ◌+◌, drop}
use Rattle.roll_plan.specs.Works.{ops_writes, switches_in}
use Rattle.roll_plan.proofs.work.switches.Given as goal

abbrev pub invariant-loop-op : goal.invariant-loop-op
invariant-loop-op l = record {
  counted : l.count + switches_in (ops_writes (drop l.op-index l.op-items)) ≡ switches_in (ops_writes l.op-items);
  few : l.count ≤ 95 * l.op-index;
}
