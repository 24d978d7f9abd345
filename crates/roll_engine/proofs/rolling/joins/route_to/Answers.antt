use Rattle.std.proofs.Common.{◌≡◌, ℕ, ap, sym, ◌∙◌, arith, subst}
use Rattle.std.proofs.lemmas.Bool.{eqb-false}
use Rattle.dxc_num.specs.Dimensions.{Dimensions, module_of}
use Rattle.paull_matrix.specs.declared.side.Side.TheVariants.{Column}
use Rattle.paull_matrix.specs.Colourings.{IsFree}
use Rattle.roll_engine.proofs.Outputs.{below_more, not_free, not_other, not_there}
use Rattle.roll_engine.proofs.rolling.joins.route_to.Goals as goal
use Rattle.roll_engine.proofs.rolling.joins.route_to.Goals.{in-Some+else-eq, in_default}

pub loop-number-preserved : goal.loop-number-preserved
loop-number-preserved c =
    let m = c.args.matrix.now in
    let column : c.module_of-column.result ≡ module_of m.shape c.args.output = c.module_of-column.ensures ∙ ap (λ (d : Dimensions). module_of d c.args.output) c.shape-shape.ensures.value in
    below_more m c.args.output c.loop-number.number c.loop-number.invariant
    (elim c.match-in_column.branch [
      | in-Some+else-eq w ↦ let h = w.in-Some.ensures in not_other m c.args.output c.loop-number.number w.in-Some.leg c.shape-shape.ensures.proper h.0 (h.1 ∙ column) (eqb-false w.in-Some.leg.output.0 c.args.output.0 (sym w.eq.ensures ∙ w.if-eq.false))
      | in_default w ↦ not_free m c.args.output c.loop-number.number (subst (λ (j : ℕ). IsFree m Column j c.loop-number.number) column w.in_default.ensures)
    ])

pub returns : goal.returns
returns c = let e = c.slots-number-end.ensures.value in let s = ap (λ (d : Dimensions). d.slots) c.shape-shape.ensures.value in not_there c.args.matrix.now c.args.output c.loop-number.number c.shape-shape.ensures.proper (omega arith) c.loop-number.invariant
