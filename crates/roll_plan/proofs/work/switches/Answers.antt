use Rattle.std.proofs.Common.{◌+◌, List, ◌++◌, drop, sym, ap, arith}
use Rattle.std.proofs.lemmas.List.{at_drop_more}
use Rattle.roll_plan.specs.declared.op.LegOp.{LegOp}
use Rattle.roll_plan.specs.Works.{op_writes, ops_writes, switches_in}
use Rattle.roll_plan.proofs.Places.{switches_on}
use Rattle.roll_plan.proofs.work.switches.Goals as goal

pub loop-op-preserved : goal.loop-op-preserved
loop-op-preserved c = let ops = c.as_slice-op-items.result.now in let i = c.loop-op.op-index in let op = c.op-item.result in
    let a = at_drop_more (λ (xs : List LegOp). switches_in (ops_writes xs)) ops i op c.loop-op-test.true in
    let b = ap (λ (o : LegOp). switches_in (op_writes o ++ ops_writes (drop (i + 1) ops))) (sym c.op-item.is) in
    let d = switches_on (op_writes op) (ops_writes (drop (i + 1) ops)) in
    let e = c.loop-op.invariant.counted in let n = c.op_switches-count.ensures.count in let few = c.op_switches-count.ensures.few in let low = c.loop-op.invariant.few in record {
      counted = omega arith;
      few = omega arith;
    }
