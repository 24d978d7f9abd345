use Rattle.std.proofs.Common.{◌≡◌, ◌-◌, drop, length}
use Rattle.paull_chain.proofs.ops.make_moves.Given as goal
use Rattle.paull_chain.specs.Works.{AreValidMoves, after}

abbrev pub invariant-loop-at : goal.invariant-loop-at
invariant-loop-at l = record {
  same : l.matrix.shape ≡ l.fn.matrix.shape;
  left : AreValidMoves (drop l.at l.moves) l.matrix;
  whole : after (drop l.at l.moves) l.matrix ≡ after l.fn.moves l.fn.matrix;
}

abbrev pub decreases-loop-at : goal.decreases-loop-at
decreases-loop-at l = length l.moves - l.at
