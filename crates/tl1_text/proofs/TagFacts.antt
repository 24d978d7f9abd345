-- The CTAG of a text in the grammar is its fourth block.
use Rattle.std.proofs.Common.{◌≡◌, ℕ, ◌≤◌, Bool, true, false, List, [], ◌∷◌, ◌++◌, length, map, get_or, arith, not, ◌&&◌, ◌==◌, Some, refl, sym, ◌∙◌, ap, append_assoc, append-nil}
use Rattle.std.specs.List.{list_all}
use Rattle.tl1_text.specs.Grammar.{is_plain, is_inner, IsParam, plain, quoted, AreParams, last_param, more_params, Block, AreBlocks, last_block, more_blocks, IsCommandText}
use Rattle.tl1_text.specs.Tags.{as_ctag, flip, before_colon, behind_colon, ctag_of}
use Rattle.std.proofs.lemmas.List.{length-map}
use Rattle.tl1_text.specs.declared.span.Span.{Span}
use Rattle.tl1_text.specs.Spans.{text_at, block_at, AreBlocksOf}
use Rattle.tl1_text.proofs.BlockFacts.{blocks_found}
use Rattle.tl1_text.proofs.Walks.{both, plain_not, inner_not}

-- a text that no colon parts, from one state of quotes to another
record Passes (p : List ℕ) (q r : Bool) : Type 0 where
  pub before : (x : List ℕ) → before_colon q (p ++ x) ≡ p ++ before_colon r x
  pub behind : (x : List ℕ) → behind_colon q (p ++ x) ≡ behind_colon r x

passes_none : (q : Bool) → Passes [] q q
passes_none q = record { before = λ x. refl; behind = λ x. refl }

passes_byte : (b : ℕ) (p : List ℕ) (q s r : Bool) → (not q && (b == 58)) ≡ false → flip q b ≡ s → Passes p s r → Passes (b ∷ p) q r
passes_byte b p q s r other flips rest = record {
  before = λ x. rw (other, flips) (ap (λ (l : List ℕ). b ∷ l) (rest.before x));
  behind = λ x. rw (other, flips) (rest.behind x);
}

passes_more : (p s : List ℕ) (q r t : Bool) → Passes p q r → Passes s r t → Passes (p ++ s) q t
passes_more p s q r t first next = record {
  before = λ x. ap (λ (l : List ℕ). before_colon q l) (append_assoc p s x) ∙ first.before (s ++ x) ∙ ap (λ (l : List ℕ). p ++ l) (next.before x) ∙ sym (append_assoc p s (before_colon t x));
  behind = λ x. ap (λ (l : List ℕ). behind_colon q l) (append_assoc p s x) ∙ first.behind (s ++ x) ∙ next.behind x;
}

passes_plain : (v : List ℕ) → list_all is_plain v ≡ true → Passes v false false
passes_plain [] is = passes_none false
passes_plain (b ∷ v) is =
    let parts = both (is_plain b) (list_all is_plain v) is in
    let other = plain_not b parts.0 in
    passes_byte b v false false false other.2 (rw (other.0) (refl)) (passes_plain v parts.1)

passes_inner : (v : List ℕ) → list_all is_inner v ≡ true → Passes v true true
passes_inner [] is = passes_none true
passes_inner (b ∷ v) is =
    let parts = both (is_inner b) (list_all is_inner v) is in
    let other = inner_not b parts.0 in
    passes_byte b v true true true refl (rw other (refl)) (passes_inner v parts.1)

passes_param : (p v : List ℕ) → IsParam p v → Passes p false false
passes_param _ _ (plain v is) = passes_plain v is
passes_param _ _ (quoted v is) = passes_byte 34 (v ++ 34 ∷ []) false true false refl refl (passes_more v (34 ∷ []) true true false (passes_inner v is) (passes_byte 34 [] true false false refl refl (passes_none false)))

passes_params : (p : List ℕ) (vs : List (List ℕ)) → AreParams p vs → Passes p false false
passes_params _ _ (last_param p v is) = passes_param p v is
passes_params _ _ (more_params p v rest vs is later) = passes_more p (44 ∷ rest) false false false (passes_param p v is) (passes_byte 44 rest false false false refl refl (passes_params rest vs later))

-- the first block, and what is behind it
first_of : (t : List ℕ) (b : Block) (bs : List Block) → AreBlocks t (b ∷ bs) → before_colon false t ≡ b.text
first_of _ _ _ (last_block text vs are) = ap (λ (l : List ℕ). before_colon false l) (sym (append-nil text)) ∙ (passes_params text vs are).before [] ∙ append-nil text
first_of _ _ _ (more_blocks text rest vs bs are later) = (passes_params text vs are).before (58 ∷ rest) ∙ append-nil text

record Behind (t : List ℕ) (bs : List Block) : Type 0 where
  pub rest : List ℕ
  pub is : behind_colon false t ≡ Some rest
  pub blocks : AreBlocks rest bs

behind_of : (t : List ℕ) (b c : Block) (bs : List Block) → AreBlocks t (b ∷ c ∷ bs) → Behind t (c ∷ bs)
behind_of _ _ _ _ (more_blocks text rest vs bs are later) = record { rest = rest; is = (passes_params text vs are).behind (58 ∷ rest); blocks = later }

pub tag_is : (text : List ℕ) (code tid aid tag : Block) (others : List Block) → IsCommandText text (code ∷ tid ∷ aid ∷ tag ∷ others) → ctag_of text ≡ as_ctag tag.text
unfolding ctag_of
tag_is text code tid aid tag others is =
    let one = behind_of text code tid (aid ∷ tag ∷ others) is.blocks in
    let two = behind_of one.rest tid aid (tag ∷ others) one.blocks in
    let three = behind_of two.rest aid tag others two.blocks in
    rw (one.is, two.is, three.is, first_of three.rest tag others three.blocks) (refl)

-- a unit has four blocks at least
pub four_blocks : (unit : List ℕ) (spans : List Span) → AreBlocksOf unit spans → 4 ≤ length spans
four_blocks unit spans are = omega (arith, (blocks_found unit (map (block_at unit) spans) are.reading).least, length-map spans (block_at unit))

pub tag_by_blocks : (unit : List ℕ) (spans : List Span) (d : Span) → AreBlocksOf unit spans → ctag_of unit ≡ as_ctag (text_at unit (get_or spans 3 d))
tag_by_blocks unit [] d are = absurd (omega (arith, four_blocks unit [] are))
tag_by_blocks unit (code ∷ []) d are = absurd (omega (arith, four_blocks unit (code ∷ []) are))
tag_by_blocks unit (code ∷ tid ∷ []) d are = absurd (omega (arith, four_blocks unit (code ∷ tid ∷ []) are))
tag_by_blocks unit (code ∷ tid ∷ aid ∷ []) d are = absurd (omega (arith, four_blocks unit (code ∷ tid ∷ aid ∷ []) are))
tag_by_blocks unit (code ∷ tid ∷ aid ∷ tag ∷ others) d are =
    tag_is unit (block_at unit code) (block_at unit tid) (block_at unit aid) (block_at unit tag) (map (block_at unit) others) (blocks_found unit (map (block_at unit) (code ∷ tid ∷ aid ∷ tag ∷ others)) are.reading)
