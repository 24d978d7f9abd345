use Rattle.std.proofs.Common.{leb, cond, refl}
use Rattle.std.proofs.lemmas.Simd.{zip2_splat, splat_is_map, length-chunk}
use lib.Lanes.{chunk}
use Rattle.tl1_text.specs.Stops.{is_break}
use Rattle.tl1_text.proofs.Tables.{agree_below}
use Rattle.tl1_text.proofs.Looks.{joined}
use Rattle.tl1_text.proofs.StopFacts.{mask_is}
use Rattle.tl1_text.proofs.stops.breaks.Goals as goal

pub returns : goal.returns
unfolding agree_below
returns c =
    let v = chunk 0 16 c.args.unit.now in
    let long = length-chunk 0 16 c.args.unit.now c.requires in
    let letter = joined _ _ _ v (zip2_splat _ v 16 32 long) (splat_is_map v 16 97 long) in
    let no_letter = joined (λ a b. cond (leb a b) 255 0) _ _ v (splat_is_map v 16 26 long) letter in
    let no_digit = joined (λ a b. cond (leb a b) 255 0) _ _ v (splat_is_map v 16 10 long) (zip2_splat _ v 16 48 long) in
    mask_is is_break c.args.unit.now 0 _ c.requires c.type_inv.unit _ (joined _ _ _ v no_letter no_digit) refl
