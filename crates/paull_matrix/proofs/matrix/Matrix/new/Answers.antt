use Rattle.std.proofs.Common.{ℕ, List, Option, None, replicate, sym, subst, rules}
use Rattle.dxc_num.specs.declared.port.Route.{Route}
use Rattle.paull_matrix.specs.Indexes.{Cells}
use Rattle.paull_matrix.specs.Indexes.{IsMatrix, no_cells}
use Rattle.paull_matrix.proofs.Indexed.{new_matrix}
use Rattle.paull_matrix.proofs.matrix.Matrix.new.Goals as goal

pub invariant_of-result : goal.invariant_of-result
invariant_of-result c =
    let w = c.in_ok-routes.ensures.items_if_clones_equal (λ y h. search rules) in
    subst (λ (g : List (Option Route) × Cells × Cells). IsMatrix c.args.shape g.0 g.1 g.2) (λ i. (sym w i, sym c.in_ok-rows.ensures i, sym c.in_ok-columns.ensures i))
    (subst (λ (n : ℕ). IsMatrix c.args.shape (replicate n None) (no_cells c.args.shape) (no_cells c.args.shape)) (sym c.ports.ensures.value) (new_matrix c.args.shape))
