use Rattle.std.proofs.Common.{◌∙◌, ℕ, List, ap, subst}
use Rattle.dxc_num.specs.declared.port.Leg.{Leg}
use Rattle.dxc_num.specs.Dimensions.{Dimensions}
use Rattle.paull_matrix.specs.Colourings.{Colouring}
use Rattle.paull_chain.specs.Choices.{choice_on, JoinsAfter}
use Rattle.std.proofs.lemmas.Bool.{OnTrue_at}
use Rattle.paull_chain.proofs.Expanding.{expands}
use Rattle.paull_chain.proofs.choices.expand_chain.Goals as goal

pub returns : goal.returns
returns c =
    let d : Colouring = c.args.matrix.now in
    let r = c.requires in let ls = c.short_chain.new.legs.items in
    let whole = OnTrue_at c.if-not-short_chain.false c.short_chain.ensures.whole in
    let after = subst (λ (w : List Leg × ℕ). JoinsAfter c.args.leg (choice_on c.args.side c.args.a c.args.b) w.0 w.1 c.join_after.result) (λ i. (c.as_slice.ensures.value i, (c.spare-spare.ensures ∙ ap (λ (x : Dimensions). x.slots) c.shape.ensures.value) i)) c.join_after.ensures in
    expands d c.args.leg c.args.a c.args.b c.args.side ls c.join_after.result c.shape.ensures.proper r.0 r.1 r.2 (c.is_pair.ensures.0 c.if-not-is_pair.false) whole.0 whole.1 after
