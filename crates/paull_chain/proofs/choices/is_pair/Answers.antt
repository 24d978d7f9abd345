use Rattle.std.proofs.Common.{arith, ◌∙◌, sym, ap, true≢false}
use Rattle.paull_matrix.specs.declared.side.Side.TheVariants.{Row, Column}
use Rattle.paull_matrix.proofs.Legs.{both_sides}
use Rattle.paull_chain.proofs.Expanding.{not_true, true_not}
use Rattle.paull_chain.proofs.choices.is_pair.Goals as goal
use Rattle.dxc_num.specs.Dimensions.{Dimensions}
use Rattle.paull_matrix.specs.Colourings.{Colouring}

pub returns-then-is_free : goal.returns-then-is_free
returns-then-is_free c = ((λ h. absurd (true≢false (sym h))), λ p. absurd (p.used.0 (both_sides c.args.matrix.now c.args.leg c.args.a.0 p.in_row (c.is_free-3.ensures.0 c.if-is_free.true))))

pub returns : goal.returns
returns c =
    let d : Colouring = c.args.matrix.now in
    let y = c.slots-slots.ensures.value in let z = ap (λ (s : Dimensions). s.slots) c.shape.ensures.value in
    let x = c.if-a-slots.false in
    let y = c.if-b-slots.false in (
      (λ h. record {
        low = (omega arith, omega arith);
        in_row = c.is_free.ensures.0 c.if-not-is_free.false;
        in_column = c.is_free-2.ensures.0 c.if-not-is_free-2.false;
        used = ((λ f. true≢false (sym (c.is_free-3.ensures.1 (f Column)) ∙ c.if-is_free.false)), (λ f. not_true c.is_free-4.result h (c.is_free-4.ensures.1 (f Row))));
      }),
      (λ p. true_not c.is_free-4.result (λ e. p.used.1 (both_sides d c.args.leg c.args.b.0 (c.is_free-4.ensures.0 e) p.in_column))),
    )
