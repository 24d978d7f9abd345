use Rattle.std.proofs.Common.{replicate, ◌*◌, ◌+◌, ℕ, List, Option, sym, rules, subst}
use Rattle.dxc_num.specs.declared.port.Leg.{Leg}
use Rattle.paull_matrix.specs.Indexes.{HasFreeSets}
use Rattle.paull_matrix.proofs.Cells.{all_free}
use Rattle.paull_matrix.proofs.index.Index.new.Goals as goal

pub invariant_of-result : goal.invariant_of-result
invariant_of-result c =
    let x = c.in_ok-legs.ensures.items_if_clones_equal (λ y h. search rules) in
    let y = c.in_ok-free.ensures.items_if_clones_equal (λ y h. search rules) in
    subst (λ (g : List (Option Leg) × List ℕ). HasFreeSets c.args.shape g.0 g.1) (λ i. (sym x i, sym y i))
    (subst (λ (w : ℕ × ℕ × Option Leg). HasFreeSets c.args.shape (replicate (w.0 * (w.1 + 1)) w.2) (replicate (w.0 * 2) c.all_free.result)) (λ i. (sym c.modules-modules.ensures.value i, sym c.slots.ensures.value i, sym c.free.ensures i)) (all_free c.args.shape c.all_free.result c.slots.ensures.limits c.all_free.ensures))
