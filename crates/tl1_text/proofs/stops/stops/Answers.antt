use Rattle.std.proofs.Common.{◌≡◌, ℕ, ◌+◌, ◌-◌, length, take, drop, ◌∙◌, ap, arith}
use Rattle.std.proofs.lemmas.List.{take_all}
use Rattle.tl1_text.specs.Stops.{is_stop, mask_of}
use Rattle.tl1_text.proofs.StopFacts.{with_more}
use Rattle.tl1_text.proofs.stops.stops.Goals as goal

pub loop-at-preserved : goal.loop-at-preserved
loop-at-preserved c =
    let unit = c.args.unit.now in
    let at = c.loop-at.at in
    let size : (at + 16) - at ≡ 16 = omega arith in
    record {
      within = omega (arith, c.loop-at-test.true);
      mask = with_more is_stop unit at 16 c.loop-at.mask _ (omega (arith, c.loop-at-test.true)) c.requires.most c.loop-at.invariant.mask (c.stops_at.ensures ∙ ap (λ (n : ℕ). mask_of is_stop (take n (drop at unit))) size);
    }

pub returns : goal.returns
returns c =
    let unit = c.args.unit.now in
    let at = c.loop-at.at in
    let rest = length unit - at in
    with_more is_stop unit at rest c.loop-at.mask _ (omega (arith, c.loop-at.invariant.within)) c.requires.most c.loop-at.invariant.mask c.stops_behind.ensures ∙ ap (mask_of is_stop) (take_all (at + rest) unit (omega (arith, c.loop-at.invariant.within)))
