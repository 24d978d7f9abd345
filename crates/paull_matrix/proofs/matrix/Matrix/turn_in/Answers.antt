use Rattle.std.proofs.Common.{◌≡◌, ◌≤◌, ◌∙◌, ℕ, ap, sym, subst, rules, Some, None}
use Rattle.dxc_num.specs.Dimensions.{Dimensions, module_of}
use Rattle.paull_matrix.specs.Colourings.{Colouring, colouring_of, Holds, IsFreeFor, with_leg}
use Rattle.paull_matrix.specs.Indexes.{Cells, IsMatrix, with_cell}
use Rattle.paull_matrix.proofs.Indexed.{matrix_turned}
use Rattle.paull_matrix.proofs.matrix.Matrix.turn_in.Goals as goal

pub invariant_of-self : goal.invariant_of-self
invariant_of-self c =
    let d = c.self.inside.shape in
    let b : Colouring = colouring_of d c.self.inside.routes.items in
    let e : c.args.self.now ≡ b = search rules in
    let same : c.args.shape ≡ d = c.requires.same ∙ ap (λ (a : Colouring). a.shape) e in
    let row = c.module_of-row.ensures ∙ ap (λ (z : Dimensions). module_of z c.args.leg.input) same in
    let column = c.module_of-column.ensures ∙ ap (λ (z : Dimensions). module_of z c.args.leg.output) same in
    let l = c.args.leg in let q = c.args.from.0 in let k = c.args.to.0 in
    let h : Holds b l q = subst (λ (a : Colouring). Holds a l q) e c.requires.held in
    let free : (k ≤ b.shape.slots) × IsFreeFor b l k = subst (λ (a : Colouring). (k ≤ a.shape.slots) × IsFreeFor a l k) e c.requires.free in
    subst (λ (g : Cells × Cells). IsMatrix d (with_leg l k b).routes g.0 g.1) (λ i. (sym c.turn.ensures i, sym c.turn-2.ensures i))
    (subst (λ (m : ℕ × ℕ). IsMatrix d (with_leg l k b).routes (with_cell m.0 k (Some l) (with_cell m.0 q None c.self.inside.rows)) (with_cell m.1 k (Some l) (with_cell m.1 q None c.self.inside.columns))) (λ i. (sym row i, sym column i))
    (matrix_turned b c.self.inside.rows c.self.inside.columns l q k c.self.invariant h free))
