use Rattle.std.proofs.Common.{◌≡◌, ◌∙◌, ◌<◌, ◌≤◌, ap, rules, subst, set, sym, Option, None}
use Rattle.dxc_num.specs.declared.port.Leg.{Leg}
use Rattle.dxc_num.specs.Dimensions.{Dimensions}
use Rattle.paull_matrix.specs.Indexes.{HasFreeSets, cell_of}
use Rattle.paull_matrix.proofs.Cells.{freed_kept, taken_kept}
use Rattle.paull_matrix.proofs.index.Index.turn.Goals as goal

pub invariant_of-self : goal.invariant_of-self
invariant_of-self c =
    let d = c.self.inside.shape in
    let e : c.args.self.now.shape ≡ d = search rules in
    let same : c.args.shape ≡ d = c.requires.same ∙ e in
    let m = c.args.module in let k = c.args.from.0 in let q = c.args.to.0 in
    let lm = subst (λ (z : Dimensions). m < z.modules) e c.requires.inside.0 in
    let lf = subst (λ (z : Dimensions). k ≤ z.slots) e c.requires.inside.1 in
    let lt = subst (λ (z : Dimensions). q ≤ z.slots) e c.requires.inside.2 in
    let legs = c.self.inside.legs.items in let free = c.self.inside.free.items in
    subst (λ (x : Option Leg × Option Leg). HasFreeSets d (set (set legs c.cell-left.result x.0) c.cell-reached.result x.1) (set (set free c.word-from_at.result c.freed.result) c.word-to_at.result c.taken.result)) (λ i. (sym c.free.ensures i, sym c.of.ensures i))
    (taken_kept d (set legs c.cell-left.result None) (set free c.word-from_at.result c.freed.result) m q c.cell-reached.result c.word-to_at.result c.index-2.result.now c.taken.result c.args.leg
    (freed_kept d legs free m k c.cell-left.result c.word-from_at.result c.index.result.now c.freed.result
    c.self.invariant lm lf (c.cell-left.ensures ∙ ap (λ (z : Dimensions). cell_of z m k) same) c.word-from_at.ensures c.index.ensures c.freed.ensures.here c.freed.ensures.others)
    lm lt (c.cell-reached.ensures ∙ ap (λ (z : Dimensions). cell_of z m q) same) c.word-to_at.ensures c.index-2.ensures c.taken.ensures.here c.taken.ensures.others)
