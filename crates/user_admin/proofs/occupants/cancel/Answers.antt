use Rattle.std.proofs.Common.{◌≡◌, ◌<◌, List, ◌∙◌, arith, rules, ap, length, slice_set}
use Rattle.std.specs.Prelude.{slice_index_or}
use Rattle.user_admin.specs.declared.occupants.Occupant.{Occupant}
use Rattle.user_admin.specs.Occupants.{without}
use Rattle.user_admin.proofs.Occupying.{done_next}
use Rattle.user_admin.proofs.occupants.cancel.Goals as goal

pub loop-place-preserved : goal.loop-place-preserved
loop-place-preserved c =
    let xs : List Occupant = c.args.occupants.now in
    let f = without c.upper-name.result in
    let d = c.index-occupants-place.result in
    let at = c.loop-place.place in
    let inv = c.loop-place.invariant in
    let long : length xs ≡ 64 = search rules in
    let low : at < length xs = let below = c.loop-place-test.true in omega (arith, long, below) in
    let one = c.without.ensures ∙ ap (λ (os : List Occupant). f (slice_index_or os at d)) inv in
    (λ i. slice_set (inv i) at (one i)) ∙ done_next f d xs at low
