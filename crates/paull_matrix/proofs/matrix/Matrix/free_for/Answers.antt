use Rattle.std.proofs.Common.{◌≡◌, ◌↔◌, ◌∙◌, ℕ, IsBitSet, rules, ap, subst}
use Rattle.dxc_num.specs.Dimensions.{Dimensions}
use Rattle.paull_matrix.specs.declared.side.Side.TheVariants.{Row, Column}
use Rattle.paull_matrix.specs.Colourings.{Colouring, IsFree, module_on}
use Rattle.paull_matrix.proofs.Legs.{both_sides}
use Rattle.paull_matrix.proofs.matrix.Matrix.free_for.Goals as goal

pub returns : goal.returns
returns c = λ k le.
    let a : Colouring = c.args.self.now in let l = c.args.leg in
    let e : c.self.inside.shape ≡ a.shape = search rules in
    let row = subst (λ (m : ℕ). IsBitSet c.free_in_row-in_row.result k ↔ IsFree a Row m k) (c.module_of.ensures ∙ ap (λ (d : Dimensions). module_on d Row l) e) (c.free_in_row-in_row.ensures k le) in
    let column = subst (λ (m : ℕ). IsBitSet c.free_in_column.result k ↔ IsFree a Column m k) (c.module_of-2.ensures ∙ ap (λ (d : Dimensions). module_on d Column l) e) (c.free_in_column.ensures k le) in
    let both = c.common.ensures k in (
      (λ h. let b = both.0 h in both_sides a l k (row.0 b.0) (column.0 b.1)),
      (λ f. both.1 (row.1 (f Row), column.1 (f Column))),
    )
