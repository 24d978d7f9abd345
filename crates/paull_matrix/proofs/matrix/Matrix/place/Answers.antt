use Rattle.std.proofs.Common.{◌≡◌, ℕ, sym, subst, rules, Some}
use Rattle.paull_matrix.specs.Colourings.{CanPlace, Colouring, colouring_of, with_leg}
use Rattle.paull_matrix.specs.Indexes.{Cells, IsMatrix, with_cell}
use Rattle.paull_matrix.proofs.Indexed.{matrix_with}
use Rattle.paull_matrix.proofs.matrix.Matrix.place.Goals as goal

pub invariant_of-self : goal.invariant_of-self
invariant_of-self c =
    let d = c.self.inside.shape in
    let b : Colouring = colouring_of d c.self.inside.routes.items in
    let e : c.args.self.now ≡ b = search rules in
    let r = c.requires in let l = c.args.leg in let k = c.args.middle.0 in
    subst (λ (g : Cells × Cells). IsMatrix d (with_leg l k b).routes g.0 g.1) (λ i. (sym c.put.ensures i, sym c.put-2.ensures i))
    (subst (λ (m : ℕ × ℕ). IsMatrix d (with_leg l k b).routes (with_cell m.0 k (Some l) c.self.inside.rows) (with_cell m.1 k (Some l) c.self.inside.columns)) (λ i. (sym c.module_of-row.ensures i, sym c.module_of-column.ensures i))
    (matrix_with b c.self.inside.rows c.self.inside.columns l k c.self.invariant
    (subst (λ (a : Colouring). CanPlace a l k) e r)))
