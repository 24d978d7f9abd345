use Rattle.std.proofs.Common.{sym, subst, ◌+◌, arith, List}
use Rattle.roll_plan.specs.declared.op.LegOp.{LegOp}
use Rattle.paull_matrix.specs.Colourings.{Colouring}
use Rattle.xc_recovery.proofs.Planning.{IsPlanning, plan_done, plan_may, plan_more}
use Rattle.xc_recovery.proofs.plan.plan_legs.Goals as goal

pub apply-requires : goal.apply-requires
apply-requires c =
    let n = c.len-i-end.ensures.value in
    let does = rw c.deref.ensures.0 at c.in-Some.ensures.planned in
    plan_may c.args.out c.args.matrix.now c.args.tasks.now.items c.loop-i.i c.loop-i.work.ops.items c.loop-i.matrix c.loop-i.invariant (omega arith) _ c.in-Some.op does

pub loop-i-preserved : goal.loop-i-preserved
loop-i-preserved c =
    let ts = c.args.tasks.now.items in
    let n = c.len-i-end.ensures.value in
    let does = rw c.deref.ensures.0 at c.in-Some.ensures.planned in
    let more = plan_more c.args.out c.args.matrix.now ts c.loop-i.i c.loop-i.work.ops.items c.loop-i.matrix c.loop-i.invariant (omega arith) _ c.in-Some.op does in
    subst (λ (w : List LegOp × Colouring). IsPlanning c.args.out c.args.matrix.now ts (c.loop-i.i + 1) w.0 w.1) (λ j. (sym c.push.ensures.items j, sym c.apply.ensures j)) more

pub returns-clause-planned : goal.returns-clause-planned
returns-clause-planned c = let n = c.len-i-end.ensures.value in
    plan_done c.args.out c.args.matrix.now c.args.tasks.now.items c.loop-i.i c.loop-i.work.ops.items c.loop-i.matrix c.loop-i.invariant (omega arith)
