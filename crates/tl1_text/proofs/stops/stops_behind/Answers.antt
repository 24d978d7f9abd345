use Rattle.std.proofs.Common.{◌≡◌, ℕ, ◌+◌, ◌-◌, length, slice_range, ◌∙◌, ap₂, arith}
use Rattle.tl1_text.specs.Stops.{is_stop, mask_of}
use Rattle.tl1_text.proofs.StopFacts.{behind}
use Rattle.tl1_text.proofs.stops.stops_behind.Goals as goal

pub returns : goal.returns
returns c =
    let unit = c.args.unit.now in
    let from = length unit - 16 in
    let place : from + (c.args.at - from) ≡ c.args.at = omega (arith, c.requires.few) in
    let end : from + 16 ≡ length unit = omega (arith, c.requires.least) in
    behind is_stop unit from (c.args.at - from) (from + 16) _ c.stops_at.ensures ∙ ap₂ (λ (a b : ℕ). mask_of is_stop (slice_range unit a b)) place end
