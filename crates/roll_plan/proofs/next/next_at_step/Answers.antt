use Rattle.std.proofs.Common.{◌≡◌, ◌≤◌, ◌+◌, ◌-◌, List, Some, drop, length, slice_get, ◌∙◌, sym, ap, arith, subst}
use Rattle.std.proofs.lemmas.List.{at_drop_all}
use Rattle.roll_plan.specs.declared.op.LegOp.{LegOp}
use Rattle.roll_plan.specs.Works.{op_writes, ops_writes}
use Rattle.roll_plan.specs.Nexts.{IsNext}
use Rattle.roll_plan.proofs.Places.{at_back, at_front, left, next_in}
use Rattle.roll_plan.proofs.next.next_at_step.Goals as goal

pub returns-then-place-count-clause-next : goal.returns-then-place-count-clause-next
returns-then-place-count-clause-next c =
    let ops = c.as_slice-op-items.result.now in let op = c.op-item.result in let i = c.loop-op.op-index in let place = c.loop-op.place in
    subst (λ (os : List LegOp). IsNext (ops_writes os) c.args.t (Some c.next_of_op.result)) c.as_slice-op-items.ensures.value
    (next_in (ops_writes ops) (op_writes op) c.args.t place
    (λ r room. c.loop-op.invariant.same r ∙ (left ops i (place + r) op c.op-item.is c.loop-op-test.true ∙ at_front (op_writes op) (ops_writes (drop (i + 1) ops)) (place + r) room))
    c.next_of_op.result c.next_of_op.ensures)

pub loop-op-preserved : goal.loop-op-preserved
loop-op-preserved c = let k = c.op_count-count.ensures.count in let few = c.op_count-count.ensures.few in let low = c.if-place-count.false in let near = c.loop-op.invariant.near in
    let ops = c.as_slice-op-items.result.now in let op = c.op-item.result in let i = c.loop-op.op-index in let place = c.loop-op.place in record {
      same = λ r. c.loop-op.invariant.same r ∙ (left ops i (place + r) op c.op-item.is c.loop-op-test.true
          ∙ at_back (op_writes op) (ops_writes (drop (i + 1) ops)) (place + r) (place - c.op_count-count.result + r) (omega arith));
      near = omega arith;
    }

pub returns-clause-next : goal.returns-clause-next
returns-clause-next c = let ops = c.as_slice-op-items.result.now in let i = c.loop-op.op-index in let t = c.args.t in let end = c.loop-op-test.false in
    let all : length ops ≤ i = omega arith in let et : t ≡ t + 0 = omega arith in
    ap (λ (xs : List LegOp). slice_get (ops_writes xs) t) (sym c.as_slice-op-items.ensures.value) ∙ (ap (slice_get (ops_writes ops)) et
    ∙ (c.loop-op.invariant.same 0 ∙ at_drop_all (λ (xs : List LegOp). slice_get (ops_writes xs) (c.loop-op.place + 0)) ops i all))
