use Rattle.std.proofs.Common.{sym, subst, arith, ◌+◌, List}
use Rattle.roll_plan.specs.declared.op.LegOp.{LegOp}
use Rattle.paull_matrix.specs.Colourings.{Colouring}
use Rattle.xc_recovery.proofs.Making.{IsMidway, at_first, all_done, may_make, one_more}
use Rattle.xc_recovery.proofs.Spelled.{works_length}
use Rattle.xc_recovery.proofs.make.legs_by.Goals as goal

pub returns-then-len-choices-clause-made : goal.returns-then-len-choices-clause-made
returns-then-len-choices-clause-made c ops w =
    let n = c.len.ensures.value in
    let other = c.if-len-choices.true in
    let same = works_length c.args.out c.args.matrix.now c.args.tasks.now.items c.args.choices.now ops w in
    let z : ⊥ = omega arith in z

pub loop-i-init : goal.loop-i-init
loop-i-init c = at_first c.args.out c.args.matrix.now c.args.tasks.now.items c.args.choices.now c.new.result.items c.requires c.new.ensures

pub apply-requires : goal.apply-requires
apply-requires c =
    let n = c.len.ensures.value in
    let same = c.if-len-choices.false in
    let does = rw c.deref.ensures.0 at c.in-Some.ensures in
    may_make c.args.out c.args.matrix.now c.args.tasks.now.items c.args.choices.now c.loop-i.i c.loop-i.work.ops.items c.loop-i.matrix c.loop-i.invariant (omega arith) (omega arith) _ _ c.in-Some.op does

pub loop-i-preserved : goal.loop-i-preserved
loop-i-preserved c =
    let ts = c.args.tasks.now.items in
    let n = c.len.ensures.value in
    let same = c.if-len-choices.false in
    let does = rw c.deref.ensures.0 at c.in-Some.ensures in
    let more = one_more c.args.out c.args.matrix.now ts c.args.choices.now c.loop-i.i c.loop-i.work.ops.items c.loop-i.matrix c.loop-i.invariant (omega arith) (omega arith) _ _ c.in-Some.op does in
    subst (λ (w : List LegOp × Colouring). IsMidway c.args.out c.args.matrix.now ts c.args.choices.now (c.loop-i.i + 1) w.0 w.1) (λ j. (sym c.push.ensures.items j, sym c.apply.ensures j)) more

pub returns-clause-made : goal.returns-clause-made
returns-clause-made c = all_done c.args.out c.args.matrix.now c.args.tasks.now.items c.args.choices.now c.loop-i.i c.loop-i.work.ops.items c.loop-i.matrix c.loop-i.invariant (let n = c.len.ensures.value in omega arith) (omega arith)
