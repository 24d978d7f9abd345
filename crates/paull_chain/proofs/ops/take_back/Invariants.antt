use Rattle.std.proofs.Common.{◌≡◌, ◌≤◌, take, length}
use Rattle.paull_chain.proofs.ops.take_back.Given as goal
use Rattle.paull_chain.specs.Works.{MovesMade, after}
use Rattle.paull_matrix.specs.Colourings.{Colouring}

abbrev pub invariant-loop-left : goal.invariant-loop-left
invariant-loop-left l = record {
  few : l.left ≤ length l.fn.moves;
  back : (c : Colouring) → MovesMade l.fn.moves c l.fn.matrix → l.matrix ≡ after (take l.left l.fn.moves) c;
}

abbrev pub decreases-loop-left : goal.decreases-loop-left
decreases-loop-left l = l.left
