use Rattle.std.proofs.Common.{◌≡◌, ℕ, sym, ◌∙◌, ap, subst, rules, Some, None}
use Rattle.dxc_num.specs.declared.port.Route.{Route}
use Rattle.paull_matrix.specs.Colourings.{Colouring, colouring_of, Holds, route_at, without_leg}
use Rattle.paull_matrix.specs.Indexes.{Cells, IsMatrix, with_cell}
use Rattle.paull_matrix.proofs.Legs.{some_route, out_low}
use Rattle.paull_matrix.proofs.Indexed.{matrix_without, any_default}
use Rattle.paull_matrix.proofs.matrix.Matrix.remove.Goals as goal

pub invariant_of-self : goal.invariant_of-self
invariant_of-self c =
    let d = c.self.inside.shape in
    let b : Colouring = colouring_of d c.self.inside.routes.items in
    let e : c.args.self.now ≡ b = search rules in
    let l = c.args.leg in let q = c.in-Some.route.middle.0 in
    let h : Holds b l c.requires.0 = subst (λ (a : Colouring). Holds a l c.requires.0) e c.requires.1 in
    let is : route_at b l.output.0 ≡ Some c.in-Some.route = any_default c.self.inside.routes.items l.output.0 None c.index.result.now (out_low b l c.self.invariant.proper (c.self.invariant.proper.inside l c.requires.0 h).0) ∙ (sym c.index.ensures ∙ c.in-Some.is) in
    let k : c.requires.0 ≡ q = ap (λ (w : Route). w.middle.0) (some_route (sym h ∙ is)) in
    subst (λ (g : Cells × Cells). IsMatrix d (without_leg l b).routes g.0 g.1) (λ i. (sym c.take.ensures i, sym c.take-in-Some.ensures i))
    (subst (λ (m : ℕ × ℕ). IsMatrix d (without_leg l b).routes (with_cell m.0 q None c.self.inside.rows) (with_cell m.1 q None c.self.inside.columns)) (λ i. (sym c.module_of-row.ensures i, sym c.module_of-column.ensures i))
    (matrix_without b c.self.inside.rows c.self.inside.columns l q c.self.invariant (subst (Holds b l) k h)))
