use Rattle.std.proofs.Common.{◌≡◌, ◌<◌, ◌≤◌, rules, set, subst, sym, Option}
use Rattle.dxc_num.specs.declared.port.Leg.{Leg}
use Rattle.dxc_num.specs.Dimensions.{Dimensions}
use Rattle.paull_matrix.specs.Indexes.{HasFreeSets}
use Rattle.paull_matrix.proofs.Cells.{freed_kept}
use Rattle.paull_matrix.proofs.index.Index.take.Goals as goal

pub invariant_of-self : goal.invariant_of-self
invariant_of-self c =
    let d = c.self.inside.shape in
    let e : c.args.self.now.shape ≡ d = search rules in
    let lm = subst (λ (z : Dimensions). c.args.module < z.modules) e c.requires.0 in
    let lk = subst (λ (z : Dimensions). c.args.middle.0 ≤ z.slots) e c.requires.1 in
    subst (λ (x : Option Leg). HasFreeSets d (set c.self.inside.legs.items c.cell.result x) (set c.self.inside.free.items c.word-at.result c.freed.result)) (sym c.free.ensures)
    (freed_kept d c.self.inside.legs.items c.self.inside.free.items c.args.module c.args.middle.0 c.cell.result c.word-at.result c.index.result.now c.freed.result
    c.self.invariant lm lk c.cell.ensures c.word-at.ensures c.index.ensures c.freed.ensures.here c.freed.ensures.others)
