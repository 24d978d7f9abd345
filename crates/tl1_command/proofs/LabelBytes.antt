-- The values of a command's text have none but the bytes of a label.
use Rattle.std.proofs.Common.{◌≡◌, ℕ, zero, suc, Bool, true, false, not, ◌&&◌, List, [], ◌∷◌, length, nat_lt, if◌then◌else◌, Some, None, Ok, Err, slice_index_or, refl, arith}
use Rattle.std.specs.List.{list_all, AllByRecursion}
use Rattle.std.proofs.lemmas.Bool.Decides.{nat_tests}
use Rattle.dxc_model.specs.declared.cause.Cause.TheVariants.{BadValue}
use Rattle.dxc_model.specs.Labels.{is_label_byte, are_label_bytes}
use Rattle.tl1_text.specs.Grammar.{is_plain, IsParam, plain, quoted, AreParams, last_param, more_params, Block, AreBlocks, last_block, more_blocks}
use Rattle.tl1_command.specs.Blocks.{no_block, second_value}
use Rattle.tl1_command.specs.Laws.{LabelsAreShort}
use Rattle.tl1_command.specs.Meanings.{or_cause}

both : (a b : Bool) → (a && b) ≡ true → (a ≡ true) × (b ≡ true)
both true b is = (refl, is)
both false b is = cc

and_also : (a b : Bool) → a ≡ true → b ≡ true → (a && b) ≡ true
and_also true b p q = q
and_also false b p q = cc

plain_byte : (b : ℕ) → is_plain b ≡ true → is_label_byte b ≡ true
plain_byte b is = grind (arith, nat_tests, is)

plain_bytes : (v : List ℕ) → list_all is_plain v ≡ true → are_label_bytes v ≡ true
plain_bytes [] is = refl
plain_bytes (b ∷ v) is = let parts = both (is_plain b) (list_all is_plain v) is in and_also (is_label_byte b) (are_label_bytes v) (plain_byte b parts.0) (plain_bytes v parts.1)

param_bytes : (p v : List ℕ) → IsParam p v → are_label_bytes v ≡ true
param_bytes _ _ (plain v is) = plain_bytes v is
param_bytes _ _ (quoted v is) = is

abbrev HaveBytes : List (List ℕ) → Type 0
HaveBytes vs = AllByRecursion (λ v. are_label_bytes v ≡ true) vs

params_bytes : (text : List ℕ) (vs : List (List ℕ)) → AreParams text vs → HaveBytes vs
params_bytes _ _ (last_param p v is) = (param_bytes p v is, tt)
params_bytes _ _ (more_params p v rest vs is more) = (param_bytes p v is, params_bytes rest vs more)

blocks_bytes : (text : List ℕ) (bs : List Block) → AreBlocks text bs → AllByRecursion (λ b. HaveBytes b.values) bs
blocks_bytes _ _ (last_block text vs are) = (params_bytes text vs are, tt)
blocks_bytes _ _ (more_blocks text rest vs bs are more) = (params_bytes text vs are, blocks_bytes rest bs more)

block_bytes : (bs : List Block) (k : ℕ) → AllByRecursion (λ b. HaveBytes b.values) bs → HaveBytes (slice_index_or bs k no_block).values
block_bytes [] k all = tt
block_bytes (b ∷ bs) zero all = all.0
block_bytes (b ∷ bs) (suc k) all = block_bytes bs k all.1

value_bytes : (vs : List (List ℕ)) (k : ℕ) → HaveBytes vs → are_label_bytes (slice_index_or vs k []) ≡ true
value_bytes [] k all = refl
value_bytes (v ∷ vs) zero all = all.0
value_bytes (v ∷ vs) (suc k) all = value_bytes vs k all.1

by_length : (v : List ℕ) (long bytes : Bool) → bytes ≡ true → or_cause (if not long && bytes then Some v else None) BadValue ≡ (if long then Err BadValue else Ok v)
by_length v true bytes is = refl
by_length v false true is = refl
by_length v false false is = cc

pub labels_are_short : LabelsAreShort
labels_are_short text bs is = by_length (second_value bs) (nat_lt 24 (length (second_value bs))) (are_label_bytes (second_value bs)) (value_bytes (slice_index_or bs 5 no_block).values 1 (block_bytes bs 5 (blocks_bytes text bs is.blocks)))
