use Rattle.std.proofs.Common.{ℕ, ◌==◌, ap, ◌∙◌, arith, w8}
use Rattle.std.proofs.lemmas.Simd.{length-chunk, bitmask_splat, first_set_mask_l, run_in_chunk_le, run_in_chunk_fails}
use lib.Lanes.{chunk}
use Rattle.tl1_text.specs.Reading.{first_set}
use Rattle.tl1_command.proofs.comma.front_at.Goals as goal

pub returns-clause-within : goal.returns-clause-within
returns-clause-within c =
    let v = chunk c.args.at 8 c.args.text.now in
    let long = length-chunk c.args.at 8 c.args.text.now c.requires in
    let counted = c.first_set.ensures ∙ ap (λ (m : ℕ). first_set m 8) (bitmask_splat w8 (λ a b. a == b) v 8 44 long (omega arith)) ∙ first_set_mask_l (λ x. x == 44) v 8 long (omega arith) in
    run_in_chunk_le (λ x. x == 44) c.args.text.now c.args.at 8 _ 0 c.requires counted

pub returns-clause-front : goal.returns-clause-front
returns-clause-front c =
    let v = chunk c.args.at 8 c.args.text.now in
    let long = length-chunk c.args.at 8 c.args.text.now c.requires in
    let counted = c.first_set.ensures ∙ ap (λ (m : ℕ). first_set m 8) (bitmask_splat w8 (λ a b. a == b) v 8 44 long (omega arith)) ∙ first_set_mask_l (λ x. x == 44) v 8 long (omega arith) in
    run_in_chunk_fails (λ x. x == 44) c.args.text.now c.args.at 8 _ 0 c.requires counted
