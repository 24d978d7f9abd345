use Rattle.std.proofs.Common.{refl}
use Rattle.std.proofs.lemmas.Simd.{zip2_splat, length-chunk}
use lib.Lanes.{chunk}
use Rattle.tl1_text.proofs.Looks.{joined, look_within, look_run}
use Rattle.tl1_text.proofs.look.run_at.Goals as goal

pub returns-clause-within : goal.returns-clause-within
returns-clause-within c =
    let v = chunk c.args.at 16 c.args.text.now in
    let long = length-chunk c.args.at 16 c.args.text.now c.requires in
    look_within c.args.text.now c.args.at _ _ c.requires c.first_set.ensures _ (joined _ _ _ v (zip2_splat _ v 16 59 long) (zip2_splat _ v 16 34 long)) refl refl

pub returns-clause-run : goal.returns-clause-run
returns-clause-run c =
    let v = chunk c.args.at 16 c.args.text.now in
    let long = length-chunk c.args.at 16 c.args.text.now c.requires in
    look_run c.args.text.now c.args.at _ _ c.requires c.first_set.ensures _ (joined _ _ _ v (zip2_splat _ v 16 59 long) (zip2_splat _ v 16 34 long)) refl refl
