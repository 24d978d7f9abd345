use Rattle.std.proofs.Common.{◌∙◌, sym, subst, List}
use Rattle.roll_plan.specs.declared.op.Move.{Move}
use Rattle.roll_plan.specs.declared.op.LegOp.{LegOp}
use Rattle.paull_chain.proofs.Undoing.{join_back, part_back}
use Rattle.paull_chain.proofs.ops.undo.Goals as goal
use Rattle.paull_chain.specs.Works.{MovesMade, OpMade}
use Rattle.paull_matrix.specs.Colourings.{Colouring}

pub remove-requires : goal.remove-requires
remove-requires c =
    let made = subst (λ (o : LegOp). OpMade o c.requires.0 c.args.matrix.now) c.in-Join.is c.requires.1 in
    (_, (join_back c.requires.0 c.args.matrix.now c.in-Join.leg c.in-Join.choice c.in-Join.moves made).0)

pub take_back-requires : goal.take_back-requires
take_back-requires c =
    let made = subst (λ (o : LegOp). OpMade o c.requires.0 c.args.matrix.now) c.in-Join.is c.requires.1 in
    let r = (join_back c.requires.0 c.args.matrix.now c.in-Join.leg c.in-Join.choice c.in-Join.moves made).1 in
    (c.requires.0, subst (λ (w : List Move × Colouring). MovesMade w.0 c.requires.0 w.1) (λ i. (sym c.as_slice.ensures.value i, sym c.remove.ensures i)) r)

pub returns-in-Join : goal.returns-in-Join
returns-in-Join c = λ d h.
    let made = subst (λ (o : LegOp). OpMade o d c.args.matrix.now) c.in-Join.is h in
    let r = (join_back d c.args.matrix.now c.in-Join.leg c.in-Join.choice c.in-Join.moves made).1 in
    c.take_back.ensures d (subst (λ (w : List Move × Colouring). MovesMade w.0 d w.1) (λ i. (sym c.as_slice.ensures.value i, sym c.remove.ensures i)) r)

pub place-requires : goal.place-requires
place-requires c =
    let made = subst (λ (o : LegOp). OpMade o c.requires.0 c.args.matrix.now) c.in-Part.is c.requires.1 in
    (part_back c.requires.0 c.args.matrix.now c.in-Part.leg c.in-Part.middle made).0

pub returns-in-Part : goal.returns-in-Part
returns-in-Part c = λ d h.
    let made = subst (λ (o : LegOp). OpMade o d c.args.matrix.now) c.in-Part.is h in
    c.place.ensures ∙ (part_back d c.args.matrix.now c.in-Part.leg c.in-Part.middle made).1
