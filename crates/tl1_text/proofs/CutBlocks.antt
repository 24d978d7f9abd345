-- A unit that is cut, and its blocks.
use Rattle.std.proofs.Common.{◌≡◌, ℕ, ◌<◌, ◌≤◌, Bool, true, false, List, [], ◌∷◌, length, map, get_or, nat_le, ◌&&◌, if◌then◌else◌, Option, Some, None, refl, sym, ◌∙◌, ap, subst, arith}
use Rattle.std.specs.Option.{option_and_then}
use Rattle.std.specs.List.{All, list_all}
use Rattle.std.proofs.Math.ListN.{get_or-map}
use Rattle.std.proofs.lemmas.Bool.Decides.{nat_tests}
use Rattle.std.proofs.lemmas.List.{length-map}
use Rattle.std.proofs.lemmas.List.Elements.{All-map, All-cons, All-nil}
use Rattle.tl1_text.specs.Places.{Start}
use Rattle.tl1_text.specs.declared.span.Span.{Span}
use Rattle.tl1_text.specs.Grammar.{AreParams, Block, AreBlocks, last_block, more_blocks, are_few, code_of}
use Rattle.tl1_text.specs.Walk.{all_blocks, walk, are_words, are_command, if_command, blocks_of, values_of}
use Rattle.tl1_text.specs.Values.{at_start}
use Rattle.tl1_text.specs.Spans.{IsBlock, IsBlockIn, text_at, block_at, AreBlocksOf}
use Rattle.tl1_text.specs.Cuts.{IsCut}
use Rattle.tl1_text.proofs.Walks.{both}
use Rattle.tl1_text.proofs.Finds.{found, map_some}
use Rattle.tl1_text.proofs.BlockFacts.{valued, values_are, all_of}

map_map : {A B C : Type 0} (f : B → C) (g : A → B) (xs : List A) → map f (map g xs) ≡ map (λ x. f (g x)) xs
map_map f g [] = refl
map_map f g (x ∷ xs) = ap (λ l. f (g x) ∷ l) (map_map f g xs)

is_block : (text : List ℕ) (vs : List (List ℕ)) → AreParams text vs → nat_le (length vs) 8 ≡ true → IsBlock text
is_block text vs are few =
    let same = values_are text vs are in
    record {
      params = subst (λ (l : List (List ℕ)). AreParams text l) (sym same) are;
      few = omega (arith, ap length same, at_most (length vs) few);
    }
  where
    at_most : (n : ℕ) → nat_le n 8 ≡ true → n ≤ 8
    at_most n is = let test : nat_le n 8 ≡ true = is in grind (arith, nat_tests, test)

each_block : (text : List ℕ) (bs : List Block) → AreBlocks text bs → list_all are_few bs ≡ true → All (λ (b : Block). IsBlock b.text) bs
each_block _ _ (last_block text vs are) few =
    All-cons (λ (b : Block). IsBlock b.text) (record { text = text; values = vs }) [] (is_block text vs are (both (nat_le (length vs) 8) true few).0) (All-nil (λ (b : Block). IsBlock b.text))
each_block _ _ (more_blocks text rest vs bs are later) few =
    let parts = both (nat_le (length vs) 8) (list_all are_few bs) few in
    All-cons (λ (b : Block). IsBlock b.text) (record { text = text; values = vs }) bs (is_block text vs are parts.0) (each_block rest bs later parts.1)

module _ (unit : List ℕ) (spans : List Span) (cut : IsCut unit spans) where
  as_many : length cut.blocks ≡ length spans
  as_many = sym (length-map cut.blocks (λ (b : Block). b.text)) ∙ ap length (sym cut.texts) ∙ length-map spans (text_at unit)

  are_blocks : AreBlocks unit cut.blocks
  are_blocks =
      let rest = map_some all_blocks (walk Start unit) cut.blocks cut.is_read in
      subst (λ (l : List Block). AreBlocks unit l) rest.1.1 (found unit Start [] [] rest.0 at_start rest.1.0)

  blocks_are : map (block_at unit) spans ≡ cut.blocks
  blocks_are =
      sym (map_map (λ (t : List ℕ). record { text = t; values = values_of t }) (text_at unit) spans)
      ∙ ap (λ (l : List (List ℕ)). map (λ (t : List ℕ). record { text = t; values = values_of t }) l) cut.texts
      ∙ map_map (λ (t : List ℕ). record { text = t; values = values_of t }) (λ (b : Block). b.text) cut.blocks
      ∙ valued unit cut.blocks are_blocks

  each : All (IsBlockIn unit) spans
  each =
      let texts = subst (λ (l : List (List ℕ)). All IsBlock l) (sym cut.texts) (All-map IsBlock (λ (b : Block). b.text) cut.blocks (each_block unit cut.blocks are_blocks cut.few)) in
      λ k d lt.
      let here : k < length (map (text_at unit) spans) = omega (arith, lt, length-map spans (text_at unit)) in
      record {
        is_in = cut.each k d lt;
        block = subst IsBlock (get_or-map (text_at unit) spans k d) (texts k (text_at unit d) here);
      }

  first : (bs : List Block) (ss : List Span) (d : Span) → map (block_at unit) ss ≡ bs → 1 ≤ length ss → code_of bs ≡ text_at unit (get_or ss 0 d)
  first bs [] d is some = absurd (omega (arith, some))
  first bs (s ∷ ss) d is some = ap code_of (sym is)

  pub all_blocks_of : (d : Span) → 4 ≤ length spans → length spans ≤ 10 → are_words 3 false (text_at unit (get_or spans 0 d)) ≡ true → AreBlocksOf unit spans
  unfolding blocks_of
  all_blocks_of d least most code =
      let bs : List Block = cut.blocks in
      let is_least : nat_le 4 (length bs) ≡ true = grind (arith, nat_tests, least, as_many) in
      let is_most : nat_le (length bs) 10 ≡ true = grind (arith, nat_tests, most, as_many) in
      let is_code : are_words 3 false (code_of bs) ≡ true = ap (λ (t : List ℕ). are_words 3 false t) (first bs spans d blocks_are (omega (arith, least))) ∙ code in
      let command : are_command bs ≡ true = all_of (nat_le 4 (length bs)) (nat_le (length bs) 10) (list_all are_few bs) (are_words 3 false (code_of bs)) is_least is_most cut.few is_code in
      record {
        reading = ap (λ (o : Option (List Block)). option_and_then if_command o) cut.is_read ∙ ap (λ (b : Bool). if b then Some bs else None) command ∙ ap Some (sym blocks_are);
        each = each;
      }

  refused : are_command cut.blocks ≡ false → blocks_of unit ≡ None
  unfolding blocks_of
  refused is = ap (λ (o : Option (List Block)). option_and_then if_command o) cut.is_read ∙ ap (λ (b : Bool). if b then Some cut.blocks else None) is

  none : (a b c d : Bool) → a ≡ false → (a && b && c && d) ≡ false
  none a b c d is = rw is (refl)

  pub too_few : length spans < 4 → blocks_of unit ≡ None
  too_few few =
      let bs : List Block = cut.blocks in
      let test : nat_le 4 (length bs) ≡ false = grind (arith, nat_tests, few, as_many) in
      refused (none (nat_le 4 (length bs)) (nat_le (length bs) 10) (list_all are_few bs) (are_words 3 false (code_of bs)) test)
