use Rattle.std.proofs.Common.{arith, ◌≡◌, ◌∙◌, ◌+◌, ◌-◌, ◌<◌, ℕ, List, take, ap, sym, subst}
use Rattle.roll_plan.specs.declared.op.LegOp.{LegOp}
use Rattle.paull_matrix.specs.Colourings.{Colouring}
use Rattle.paull_chain.specs.Works.{after_ops, OpsMade}
use Rattle.paull_chain.proofs.Working.{last_op}
use Rattle.paull_chain.proofs.works.undo_work.Goals as goal

last : (ops : List LegOp) (left : ℕ) (c d : Colouring) → 0 < left → d ≡ after_ops (take left ops) c → d ≡ after_ops (take (left - 1 + 1) ops) c
last ops left c d h is = is ∙ ap (λ (n : ℕ). after_ops (take n ops) c) (let e : left ≡ left - 1 + 1 = omega arith in e)

pub undo-requires : goal.undo-requires
undo-requires c =
    let ops = c.as_slice-ops.result.now in let left = c.loop-left.left in let i = c.loop-left.invariant in let t = c.loop-left-test.true in let few = i.few in
    let b = c.requires.0 in
    let made : OpsMade ops b c.args.matrix.now = subst (λ (os : List LegOp). OpsMade os b c.args.matrix.now) (sym c.as_slice-ops.ensures.value) c.requires.1 in
    (after_ops (take (left - 1) ops) b, last_op ops (left - 1) c.index-ops-left.result b c.loop-left.matrix (omega arith) c.index-ops-left.is made.0 made.1 (last ops left b c.loop-left.matrix (omega arith) (i.back b made)))

pub loop-left-preserved : goal.loop-left-preserved
loop-left-preserved c =
    let ops = c.as_slice-ops.result.now in let left = c.loop-left.left in let i = c.loop-left.invariant in let t = c.loop-left-test.true in let low = i.few in record {
      few = omega arith;
      back = λ b made. c.undo.ensures (after_ops (take (left - 1) ops) b) (last_op ops (left - 1) c.index-ops-left.result b c.loop-left.matrix (omega arith) c.index-ops-left.is made.0 made.1 (last ops left b c.loop-left.matrix (omega arith) (i.back b made)));
    }
