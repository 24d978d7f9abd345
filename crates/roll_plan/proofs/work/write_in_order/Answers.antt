use Rattle.std.proofs.Common.{◌+◌, ◌-◌, List, drop, sym, ap, ◌∙◌, arith, slice_get}
use Rattle.roll_plan.specs.declared.op.LegOp.{LegOp}
use Rattle.roll_plan.specs.Works.{op_writes, ops_writes}
use Rattle.roll_plan.proofs.Places.{at_front, at_back, left}
use Rattle.roll_plan.proofs.work.write_in_order.Goals as goal

pub returns-then-place-count-clause-write : goal.returns-then-place-count-clause-write
returns-then-place-count-clause-write c = let k = c.op_count-count.ensures.count in let low = c.if-place-count.true in
    let ops = c.as_slice-op-items.result.now in let i = c.loop-op.op-index in
    let all = ap (λ (xs : List LegOp). slice_get (ops_writes xs) c.args.t) c.as_slice-op-items.ensures.value in
    c.op_write.ensures ∙ (sym (left ops i c.loop-op.place c.op-item.result c.op-item.is c.loop-op-test.true ∙ at_front (op_writes c.op-item.result) (ops_writes (drop (i + 1) ops)) c.loop-op.place (omega arith))
    ∙ (sym c.loop-op.invariant.same ∙ all))

pub loop-op-preserved : goal.loop-op-preserved
loop-op-preserved c = let k = c.op_count-count.ensures.count in let f = c.op_count-count.ensures.few in let low = c.if-place-count.false in let near = c.loop-op.invariant.near in
    let ops = c.as_slice-op-items.result.now in let i = c.loop-op.op-index in record {
      same = c.loop-op.invariant.same ∙ (left ops i c.loop-op.place c.op-item.result c.op-item.is c.loop-op-test.true ∙ at_back (op_writes c.op-item.result) (ops_writes (drop (i + 1) ops)) c.loop-op.place (c.loop-op.place - c.op_count-count.result) (omega arith));
      near = omega arith;
    }
