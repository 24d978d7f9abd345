use Rattle.std.proofs.Common.{List, ℕ, refl, sym, subst, take}
use Rattle.std.proofs.lemmas.Simd.{zip2_splat, splat_is_map, length-chunk}
use lib.Lanes.{chunk}
use Rattle.tl1_text.specs.Tags.{IsUnparted}
use Rattle.tl1_text.proofs.Fronts.{prefix_front}
use Rattle.tl1_text.proofs.Looks.{joined, counted, front_of_front, look_within}
use Rattle.tl1_text.proofs.front.front_at.Goals as goal

pub returns-clause-within : goal.returns-clause-within
returns-clause-within c =
    let v = chunk 0 16 c.args.text.now in
    let long = length-chunk 0 16 c.args.text.now c.requires in
    let colon = joined _ _ _ v (zip2_splat _ v 16 1 long) (splat_is_map v 16 59 long) in
    look_within c.args.text.now 0 _ _ c.requires c.first_set.ensures _ (joined _ _ _ v colon (zip2_splat _ v 16 34 long)) refl refl

pub returns-clause-unparted : goal.returns-clause-unparted
returns-clause-unparted c =
    let v = chunk 0 16 c.args.text.now in
    let long = length-chunk 0 16 c.args.text.now c.requires in
    let colon = joined _ _ _ v (zip2_splat _ v 16 1 long) (splat_is_map v 16 59 long) in
    let is = counted c.args.text.now 0 _ _ c.requires c.first_set.ensures _ (joined _ _ _ v colon (zip2_splat _ v 16 34 long)) refl refl in
    let within = look_within c.args.text.now 0 _ _ c.requires c.first_set.ensures _ (joined _ _ _ v colon (zip2_splat _ v 16 34 long)) refl refl in
    let run = subst (λ (n : ℕ). IsUnparted (take n v)) (sym is) (prefix_front _ refl refl refl v) in
    subst (λ (l : List ℕ). IsUnparted l) (front_of_front _ 16 c.args.text.now within) run
