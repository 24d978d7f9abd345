-- The blocks that are read are those of the grammar.
use Rattle.std.proofs.Common.{◌≡◌, ℕ, ◌↔◌, Bool, true, false, List, [], ◌∷◌, length, map, nat_le, ◌&&◌, if◌then◌else◌, Option, Some, None, refl, sym, ◌∙◌, ap, ap₂, subst, arith}
use Rattle.std.specs.Option.{option_map, option_map_or, option_and_then}
use Rattle.std.specs.List.{list_all}
use Rattle.std.proofs.lemmas.Bool.Decides.{nat_tests}
use Rattle.tl1_text.specs.Places.{Start}
use Rattle.tl1_text.specs.Grammar.{AreParams, Block, AreBlocks, last_block, more_blocks, are_few, code_of, IsCommandText}
use Rattle.tl1_text.specs.Walk.{Rest, all_blocks, walk, are_words, are_command, if_command, blocks_of, values_of}
use Rattle.tl1_text.proofs.Walks.{both, walk_block, walk_blocks}
use Rattle.tl1_text.specs.Values.{at_start}
use Rattle.tl1_text.proofs.Finds.{found, map_some, then_some}
use Rattle.tl1_text.proofs.WordFacts.{words_are, words_found}

pub all_of : (a b c d : Bool) → a ≡ true → b ≡ true → c ≡ true → d ≡ true → (a && b && c && d) ≡ true
all_of a b c d is_a is_b is_c is_d = rw (is_a, is_b, is_c) (is_d)

-- what the grammar allows is read
pub blocks_read : (text : List ℕ) (bs : List Block) → IsCommandText text bs → blocks_of text ≡ Some bs
unfolding blocks_of
blocks_read text bs is =
    let walks = walk_blocks text bs is.blocks in
    let least : nat_le 4 (length bs) ≡ true = grind (arith, nat_tests, is.least) in
    let most : nat_le (length bs) 10 ≡ true = grind (arith, nat_tests, is.most) in
    let command : are_command bs ≡ true = all_of (nat_le 4 (length bs)) (nat_le (length bs) 10) (list_all are_few bs) (are_words 3 false (code_of bs)) least most is.few (words_are (code_of bs) is.words 3 is.code is.most_words) in
    ap (λ (o : Option Rest). option_and_then if_command (option_map all_blocks o)) walks.walk_is
    ∙ ap if_command walks.blocks_are
    ∙ ap (λ (b : Bool). if b then Some bs else None) command

command_is : (c : Bool) (bs cs : List Block) → (if c then Some bs else None) ≡ Some cs → (c ≡ true) × (bs ≡ cs)
command_is true bs cs is = (refl, cc)
command_is false bs cs is = cc

-- what is read, the grammar allows
pub blocks_found : (text : List ℕ) (bs : List Block) → blocks_of text ≡ Some bs → IsCommandText text bs
unfolding blocks_of
blocks_found text bs is =
    let reading = then_some if_command (option_map all_blocks (walk Start text)) bs is in
    let rest = map_some all_blocks (walk Start text) reading.0 reading.1.0 in
    let command = command_is (are_command reading.0) reading.0 bs reading.1.1 in
    let same : all_blocks rest.0 ≡ bs = rest.1.1 ∙ command.1 in
    let tests : are_command bs ≡ true = ap are_command (sym command.1) ∙ command.0 in
    let code = both (nat_le 4 (length bs) && nat_le (length bs) 10 && list_all are_few bs) (are_words 3 false (code_of bs)) tests in
    let few = both (nat_le 4 (length bs) && nat_le (length bs) 10) (list_all are_few bs) code.0 in
    let bounds = both (nat_le 4 (length bs)) (nat_le (length bs) 10) few.0 in
    let words = words_found (code_of bs) 3 [] (omega arith) refl code.1 in
    record {
      blocks = subst (λ (l : List Block). AreBlocks text l) same (found text Start [] [] rest.0 at_start rest.1.0);
      least = (let test : nat_le 4 (length bs) ≡ true = bounds.0 in grind (arith, nat_tests, test));
      most = (let test : nat_le (length bs) 10 ≡ true = bounds.1 in grind (arith, nat_tests, test));
      few = few.1;
      words = words.count;
      code = words.words;
      most_words = words.most;
    }

pub grammar_read : (text : List ℕ) (bs : List Block) → IsCommandText text bs ↔ (blocks_of text ≡ Some bs)
grammar_read text bs = (blocks_read text bs, blocks_found text bs)

-- the values of a block of the grammar
pub values_are : (text : List ℕ) (vs : List (List ℕ)) → AreParams text vs → values_of text ≡ vs
unfolding values_of
values_are text vs are =
    let walks = walk_block text vs are in
    ap (λ (o : Option Rest). option_map_or (λ (r : Rest). r.value ∷ r.values) o []) walks.walk_is ∙ walks.values_are

pub valued : (text : List ℕ) (bs : List Block) → AreBlocks text bs → map (λ (b : Block). record { text = b.text; values = values_of b.text }) bs ≡ bs
valued _ _ (last_block text vs are) = ap (λ (l : List (List ℕ)). record { text = text; values = l } ∷ []) (values_are text vs are)
valued _ _ (more_blocks text rest vs bs are later) = ap₂ (λ (l : List (List ℕ)) (cs : List Block). record { text = text; values = l } ∷ cs) (values_are text vs are) (valued rest bs later)
