use Rattle.std.proofs.Common.{arith, ◌∙◌, ℕ, length, ap, subst, List}
use Rattle.dxc_num.specs.declared.port.Leg.{Leg}
use Rattle.dxc_num.specs.Dimensions.{Dimensions}
use Rattle.paull_matrix.specs.declared.side.Side.TheVariants.{Row, Column}
use Rattle.paull_matrix.specs.Colourings.{Colouring, module_on}
use Rattle.paull_chain.specs.Choices.{choice_on, JoinsAfter}
use Rattle.paull_chain.specs.Chains.{pair_of}
use Rattle.paull_chain.specs.Walks.{IsShorter, legs_on, row_and_column}
use Rattle.paull_chain.proofs.Planning.{needs_apart, plans, shorter_low}
use Rattle.paull_chain.proofs.plan.by_chain.Goals as goal

pub join_in_place-requires : goal.join_in_place-requires
join_in_place-requires c =
    let d : Colouring = c.args.matrix.now in
    let z = c.shape-shape.ensures.value in
    let side = c.shorter-side.result in
    let legs = legs_on side c.shorter-side.new.rows.items c.shorter-side.new.columns.items in
    let h = subst (λ (w : ℕ × ℕ). IsShorter d (pair_of c.args.a.0 c.args.b.0) (row_and_column w.0 w.1) side legs)
    (λ i. ((c.module_of-row.ensures ∙ ap (λ (x : Dimensions). module_on x Row c.args.leg) z) i, (c.module_of-column.ensures ∙ ap (λ (x : Dimensions). module_on x Column c.args.leg) z) i)) c.shorter-side.ensures in
    let low = shorter_low d c.args.leg c.args.a.0 c.args.b.0 c.shape-shape.ensures.proper c.requires.leg.0 c.requires.needs side legs h in
    let e = ap (λ (x : List Leg). length x) c.legs_of-legs.ensures in let most = c.shape-shape.ensures.limits.most_modules in omega arith

pub returns : goal.returns
returns c =
    let d : Colouring = c.args.matrix.now in
    let z = c.shape-shape.ensures.value in
    let n = c.requires.needs in
    let side = c.shorter-side.result in
    let legs = legs_on side c.shorter-side.new.rows.items c.shorter-side.new.columns.items in
    let h = subst (λ (w : ℕ × ℕ). IsShorter d (pair_of c.args.a.0 c.args.b.0) (row_and_column w.0 w.1) side legs)
    (λ i. ((c.module_of-row.ensures ∙ ap (λ (x : Dimensions). module_on x Row c.args.leg) z) i, (c.module_of-column.ensures ∙ ap (λ (x : Dimensions). module_on x Column c.args.leg) z) i)) c.shorter-side.ensures in
    let after = subst (λ (w : List Leg × ℕ). JoinsAfter c.args.leg (choice_on side c.args.a c.args.b) w.0 w.1 c.join_in_place.new.op) (λ i. (c.legs_of-legs.ensures i, (c.spare.ensures ∙ ap (λ (x : Dimensions). x.slots) z) i)) c.join_in_place.ensures in
    plans d c.args.leg c.args.a c.args.b c.shape-shape.ensures.proper c.requires.leg.0 c.requires.leg.1 c.requires.leg.2 n.in_row.0 n.in_column.0 (needs_apart d c.args.leg c.args.a.0 c.args.b.0 n) n.in_row.1 n.in_column.1
    n side legs c.join_in_place.new.op h after
