use Rattle.std.proofs.Common.{◌∙◌, ◌<◌, sym, ap, arith, length}
use Rattle.fabric_core.specs.declared.seen.Seen.{Seen}
use Rattle.fabric_core.specs.Passing.{seen_after}
use Rattle.fabric_core.proofs.Passing.{seen_next}
use Rattle.fabric_core.proofs.seen.Seen.of.Goals as goal

pub loop-place-preserved : goal.loop-place-preserved
loop-place-preserved c = let low : c.loop-place.place < length c.args.looks.now = omega arith in
    c.after-seen.ensures ∙ (ap (λ (s : Seen). seen_after s c.get.result) c.loop-place.invariant ∙ sym (seen_next c.args.looks.now c.loop-place.place c.get.result low (c.get.ensures 0)))
