use Rattle.std.proofs.Common.{◌≡◌, ◌≤◌, take, length}
use Rattle.paull_matrix.specs.Colourings.{Colouring}
use Rattle.paull_chain.specs.Works.{after_ops, OpsMade}
use Rattle.paull_chain.proofs.works.undo_work.Given as goal

abbrev pub invariant-loop-left : goal.invariant-loop-left
invariant-loop-left l = record {
  few : l.left ≤ length l.ops;
  back : (c : Colouring) → OpsMade l.ops c l.fn.matrix → l.matrix ≡ after_ops (take l.left l.ops) c;
}

abbrev pub decreases-loop-left : goal.decreases-loop-left
decreases-loop-left l = l.left
