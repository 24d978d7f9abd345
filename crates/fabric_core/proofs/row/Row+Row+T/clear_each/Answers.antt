use Rattle.std.proofs.Common.{◌∙◌, arith, ◌<◌, length, slice_set}
use Rattle.fabric_core.proofs.Rows.{emptied}
use Rattle.fabric_core.proofs.row.Row+Row+T.clear_each.Goals as goal

pub loop-place-preserved : goal.loop-place-preserved
loop-place-preserved g c = let low : c.loop-place.place < length c.self.inside.items.items = omega arith in (λ i. slice_set (c.loop-place.invariant i) c.loop-place.place (c.clear.ensures i)) ∙ emptied c.self.inside.items.items c.loop-place.place low
