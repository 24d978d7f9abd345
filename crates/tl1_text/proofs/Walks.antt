-- What the grammar allows, the walk reads.
use Rattle.std.proofs.Common.{◌≡◌, ℕ, Bool, true, false, List, [], ◌∷◌, ◌++◌, not, ◌&&◌, ◌||◌, ◌==◌, Option, Some, None, refl, sym, ◌∙◌, ap, ap₂, append_assoc, append-nil}
use Rattle.std.specs.Option.{option_map}
use Rattle.std.specs.List.{list_all}
use Rattle.std.specs.Int.{is_in_range}
use Rattle.tl1_text.specs.Places.{Start, Plain, Quoted, Closed}
use Rattle.tl1_text.specs.Grammar.{is_plain, is_inner, IsParam, plain, quoted, AreParams, last_param, more_params, Block, AreBlocks, last_block, more_blocks}
use Rattle.tl1_text.specs.Walk.{Rest, all_blocks, with_colon, with_comma, with_byte, walk}

pub map_twice : {A B C : Type 0} (f : B → C) (g : A → B) (h : A → C) (o : Option A) → ((x : A) → f (g x) ≡ h x) → option_map f (option_map g o) ≡ option_map h o
map_twice f g h None e = refl
map_twice f g h (Some x) e = ap Some (e x)

map_same : {A : Type 0} (f : A → A) (o : Option A) → ((x : A) → f x ≡ x) → option_map f o ≡ o
map_same f None e = refl
map_same f (Some x) e = ap Some (e x)

pub both : (a b : Bool) → (a && b) ≡ true → (a ≡ true) × (b ≡ true)
both true b is = (refl, is)
both false b is = cc

-- a plain byte is no mark
plain_picks : (w a c d e : Bool) → (w && not (a || c || d || e)) ≡ true → (a ≡ false) × (c ≡ false) × (d ≡ false)
plain_picks false a c d e is = cc
plain_picks true true c d e is = cc
plain_picks true false true d e is = cc
plain_picks true false false true e is = cc
plain_picks true false false false e is = (refl, refl, refl)

pub plain_not : (b : ℕ) → is_plain b ≡ true → ((b == 34) ≡ false) × ((b == 44) ≡ false) × ((b == 58) ≡ false)
plain_not b is = plain_picks (is_in_range 33 126 b) (b == 34) (b == 44) (b == 58) (b == 59) is

inner_picks : (w a : Bool) → (w && not a) ≡ true → a ≡ false
inner_picks false a is = cc
inner_picks true true is = cc
inner_picks true false is = refl

pub inner_not : (b : ℕ) → is_inner b ≡ true → (b == 34) ≡ false
inner_not b is = inner_picks (is_in_range 32 126 b) (b == 34) is

-- after a parameter stands a mark, or nothing
data Ends : List ℕ → Type 0 where
  ends_all : Ends []
  ends_comma : (x : List ℕ) → Ends (44 ∷ x)
  ends_colon : (x : List ℕ) → Ends (58 ∷ x)

ends_plain : (t : List ℕ) → Ends t → walk Plain t ≡ walk Start t
ends_plain _ ends_all = refl
ends_plain _ (ends_comma x) = refl
ends_plain _ (ends_colon x) = refl

ends_closed : (t : List ℕ) → Ends t → walk Closed t ≡ walk Start t
ends_closed _ ends_all = refl
ends_closed _ (ends_comma x) = refl
ends_closed _ (ends_colon x) = refl

-- the same with a text before it, and a value
abbrev grown : List ℕ → List ℕ → Rest → Rest
grown p v r = record { text = p ++ r.text; value = v ++ r.value; values = r.values; others = r.others }

walk_plain : (v t : List ℕ) → list_all is_plain v ≡ true → walk Plain (v ++ t) ≡ option_map (grown v v) (walk Plain t)
walk_plain [] t is = sym (map_same (grown [] []) (walk Plain t) (λ r. refl))
walk_plain (b ∷ v) t is =
    let parts = both (is_plain b) (list_all is_plain v) is in
    let other = plain_not b parts.0 in
    rw (parts.0, other.2, other.1, walk_plain v t parts.1)
    (map_twice (λ r. with_byte b r) (grown v v) (grown (b ∷ v) (b ∷ v)) (walk Plain t) (λ r. rw (other.0) (refl)))

walk_inner : (v t : List ℕ) → list_all is_inner v ≡ true → walk Quoted (v ++ 34 ∷ t) ≡ option_map (grown (v ++ 34 ∷ []) v) (walk Closed t)
walk_inner [] t is = refl
walk_inner (b ∷ v) t is =
    let parts = both (is_inner b) (list_all is_inner v) is in
    let other = inner_not b parts.0 in
    rw (parts.0, other, walk_inner v t parts.1)
    (map_twice (grown (b ∷ []) (b ∷ [])) (grown (v ++ 34 ∷ []) v) (grown (b ∷ (v ++ 34 ∷ [])) (b ∷ v)) (walk Closed t) (λ r. refl))

walk_param : (p v t : List ℕ) → IsParam p v → Ends t → walk Start (p ++ t) ≡ option_map (grown p v) (walk Start t)
walk_param _ _ t (plain [] is) ends = sym (map_same (grown [] []) (walk Start t) (λ r. refl))
walk_param _ _ t (plain (b ∷ v) is) ends =
    let parts = both (is_plain b) (list_all is_plain v) is in
    let other = plain_not b parts.0 in
    rw (parts.0, other.2, other.1, other.0, walk_plain v t parts.1, ends_plain t ends)
    (map_twice (grown (b ∷ []) (b ∷ [])) (grown v v) (grown (b ∷ v) (b ∷ v)) (walk Start t) (λ r. refl))
walk_param _ _ t (quoted v is) ends =
    rw (append_assoc v (34 ∷ []) t, walk_inner v t is, ends_closed t ends)
    (map_twice (λ r. with_byte 34 r) (grown (v ++ 34 ∷ []) v) (grown (34 ∷ v ++ 34 ∷ []) v) (walk Start t) (λ r. refl))

-- a walk over a block, and what stands after it
pub record Walks (t text : List ℕ) (vs : List (List ℕ)) (others : List Block) : Type 0 where
  pub rest : Rest
  pub walk_is : walk Start t ≡ Some rest
  pub text_is : rest.text ≡ text
  pub values_are : rest.value ∷ rest.values ≡ vs
  pub others_are : rest.others ≡ others

abbrev behind : List Block → Rest
behind others = record { text = []; value = []; values = []; others = others }

walk_params : (text : List ℕ) (vs : List (List ℕ)) → AreParams text vs → (t : List ℕ) (others : List Block) → Ends t → walk Start t ≡ Some (behind others) → Walks (text ++ t) text vs others
walk_params _ _ (last_param p v is) t others ends walked = record {
  rest = grown p v (behind others);
  walk_is = walk_param p v t is ends ∙ ap (λ (o : Option Rest). option_map (grown p v) o) walked;
  text_is = append-nil p;
  values_are = ap (λ (l : List ℕ). l ∷ []) (append-nil v);
  others_are = refl;
}
walk_params _ _ (more_params p v rest vs is later) t others ends walked =
    let next = walk_params rest vs later t others ends walked in
    record {
      rest = grown p v (with_comma next.rest);
      walk_is = ap (λ (l : List ℕ). walk Start l) (append_assoc p (44 ∷ rest) t) ∙ walk_param p v (44 ∷ (rest ++ t)) is (ends_comma (rest ++ t)) ∙ ap (λ (o : Option Rest). option_map (grown p v) (option_map with_comma o)) next.walk_is;
      text_is = ap (λ (l : List ℕ). p ++ 44 ∷ l) next.text_is;
      values_are = ap₂ (λ (x : List ℕ) (l : List (List ℕ)). x ∷ l) (append-nil v) next.values_are;
      others_are = next.others_are;
    }

-- a block alone
pub walk_block : (text : List ℕ) (vs : List (List ℕ)) → AreParams text vs → Walks text text vs []
walk_block text vs are =
    let walks = walk_params text vs are [] [] ends_all refl in
    rw (append-nil text) at walks

pub record WalksAll (text : List ℕ) (bs : List Block) : Type 0 where
  pub rest : Rest
  pub walk_is : walk Start text ≡ Some rest
  pub blocks_are : all_blocks rest ≡ bs

blocks_from : (t text : List ℕ) (vs : List (List ℕ)) (bs : List Block) → Walks t text vs bs → WalksAll t (record { text = text; values = vs } ∷ bs)
blocks_from t text vs bs w = record { rest = w.rest; walk_is = w.walk_is; blocks_are = rw (w.text_is, w.values_are, w.others_are) (refl) }

pub walk_blocks : (text : List ℕ) (bs : List Block) → AreBlocks text bs → WalksAll text bs
walk_blocks _ _ (last_block text vs are) = blocks_from text text vs [] (walk_block text vs are)
walk_blocks _ _ (more_blocks text rest vs bs are later) =
    let next = walk_blocks rest bs later in
    let colon : walk Start (58 ∷ rest) ≡ Some (behind bs) = ap (λ (o : Option Rest). option_map with_colon o) next.walk_is ∙ ap (λ (l : List Block). Some (behind l)) next.blocks_are in
    blocks_from (text ++ 58 ∷ rest) text vs bs (walk_params text vs are (58 ∷ rest) bs (ends_colon rest) colon)
