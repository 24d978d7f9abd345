use Rattle.std.proofs.Common.{leb, cond, refl}
use Rattle.std.proofs.lemmas.Simd.{zip2_splat, splat_is_map, length-chunk}
use lib.Lanes.{chunk}
use Rattle.tl1_text.specs.Stops.{is_stop}
use Rattle.tl1_text.proofs.Tables.{agree_below}
use Rattle.tl1_text.proofs.Looks.{joined}
use Rattle.tl1_text.proofs.StopFacts.{mask_is}
use Rattle.tl1_text.proofs.stops.stops_at.Goals as goal

pub returns : goal.returns
unfolding agree_below
returns c =
    let v = chunk c.args.at 16 c.args.unit.now in
    let long = length-chunk c.args.at 16 c.args.unit.now c.requires in
    let outside = joined (λ a b. cond (leb a b) 255 0) _ _ v (splat_is_map v 16 94 long) (zip2_splat _ v 16 33 long) in
    let quote = joined _ _ _ v outside (zip2_splat _ v 16 34 long) in
    let comma = joined _ _ _ v quote (zip2_splat _ v 16 44 long) in
    let colon = joined _ _ _ v (zip2_splat _ v 16 1 long) (splat_is_map v 16 59 long) in
    mask_is is_stop c.args.unit.now c.args.at _ c.requires c.type_inv.unit _ (joined _ _ _ v comma colon) refl
