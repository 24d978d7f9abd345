use Rattle.std.proofs.Common.{◌≡◌, drop}
use Rattle.paull_chain.specs.Works.{after_ops, AreValidOps}
use Rattle.paull_chain.proofs.works.apply_work.Given as goal

abbrev pub invariant-loop-op : goal.invariant-loop-op
invariant-loop-op l = record {
  left : AreValidOps l.matrix (drop l.op-index l.op-items);
  whole : after_ops (drop l.op-index l.op-items) l.matrix ≡ after_ops l.op-items l.fn.matrix;
}
