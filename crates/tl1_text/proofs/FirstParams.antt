-- The first parameter of a block, found by its first comma, or by its quotes.
use Rattle.std.proofs.Common.{◌≡◌, ◌⊎◌, inl, inr, ℕ, suc, ◌+◌, ◌-◌, ◌<◌, ◌≤◌, Bool, true, false, List, [], ◌∷◌, ◌++◌, length, take, drop, slice_range, nat_lt, ◌==◌, Some, None, position, refl, sym, ◌∙◌, ap, ap₂, subst, append_assoc, length-append, arith}
use Rattle.std.specs.List.{list_all, position_or_len}
use Rattle.std.proofs.lemmas.Bool.Decides.{nat_tests}
use Rattle.std.proofs.lemmas.List.{take-take, drop-drop, drop-take, length-drop, length-take}
use Rattle.tl1_text.specs.declared.span.Span.{Span}
use Rattle.tl1_text.specs.Grammar.{is_plain, is_inner, IsParam, plain, quoted, AreParams, last_param, more_params}
use Rattle.tl1_text.specs.Walk.{values_of}
use Rattle.tl1_text.specs.Spans.{IsIn, IsBlockIn, text_at}
use Rattle.tl1_text.specs.Values.{begins_quoted, IsFirst}
use Rattle.tl1_text.proofs.BlockFacts.{values_are}
use Rattle.tl1_text.proofs.Walks.{both}

-- a mark after bytes that none is
module _ (mark good : ℕ → Bool) (other : (x : ℕ) → good x ≡ true → mark x ≡ false) where
  behind : (v more : List ℕ) (b : ℕ) → list_all good v ≡ true → mark b ≡ true → position_or_len mark (v ++ b ∷ more) ≡ length v
  behind [] more b all is = rw is (refl)
  behind (x ∷ v) more b all is = let parts = both (good x) (list_all good v) all in let rest = behind v more b parts.1 is in rw (other x parts.0) (omega (arith, rest))

  nowhere : (v : List ℕ) → list_all good v ≡ true → position_or_len mark v ≡ length v
  nowhere [] all = refl
  nowhere (x ∷ v) all = let parts = both (good x) (list_all good v) all in let rest = nowhere v parts.1 in rw (other x parts.0) (omega (arith, rest))

  at_mark : (v more : List ℕ) (b : ℕ) → list_all good v ≡ true → mark b ≡ true → position mark (v ++ b ∷ more) ≡ Some (length v)
  at_mark v more b all is =
      let test : nat_lt (length v) (length (v ++ b ∷ more)) ≡ true = (let size = length-append v (b ∷ more) in grind (arith, nat_tests, size)) in
      rw (behind v more b all is, test) (refl)

  no_mark : (v : List ℕ) → list_all good v ≡ true → position mark v ≡ None
  no_mark v all = let test : nat_lt (length v) (length v) ≡ false = grind (arith, nat_tests) in rw (nowhere v all, test) (refl)

abbrev is_comma : ℕ → Bool
is_comma b = b == 44

abbrev is_quote : ℕ → Bool
is_quote b = b == 34

plain_other : (x : ℕ) → is_plain x ≡ true → is_comma x ≡ false
plain_other x is = grind (arith, nat_tests, is)

inner_other : (x : ℕ) → is_inner x ≡ true → is_quote x ≡ false
inner_other x is = grind (arith, nat_tests, is)

kinds : (p v : List ℕ) → IsParam p v → ((p ≡ v) × (list_all is_plain v ≡ true)) ⊎ ((p ≡ 34 ∷ v ++ 34 ∷ []) × (list_all is_inner v ≡ true))
kinds _ _ (plain v all) = inl (refl, all)
kinds _ _ (quoted v all) = inr (refl, all)

take_front : (v more : List ℕ) → take (length v) (v ++ more) ≡ v
take_front [] more = refl
take_front (x ∷ v) more = ap (λ (l : List ℕ). x ∷ l) (take_front v more)

drop_front : (v more : List ℕ) (b : ℕ) → drop (length v + 1) (v ++ b ∷ more) ≡ more
drop_front [] more b = refl
drop_front (x ∷ v) more b = let e : length (x ∷ v) + 1 ≡ suc (length v + 1) = omega arith in rw e (drop_front v more b)

-- a text without its first byte, as a range of it
pub behind_first : (t : List ℕ) → take (length t - 1) (drop 1 t) ≡ drop 1 t
behind_first [] = refl
behind_first (b ∷ t) = let size : length (b ∷ t) - 1 ≡ length t = omega arith in rw size (whole t)
  where
    whole : (t : List ℕ) → take (length t) t ≡ t
    whole [] = refl
    whole (x ∷ t) = ap (λ (l : List ℕ). x ∷ l) (whole t)

-- the values of what stands after a comma
record HasOthers (rest : List ℕ) (vs : List (List ℕ)) : Type 0 where
  pub values : values_of rest ≡ vs
  pub params : AreParams rest (values_of rest)

others_of : (rest : List ℕ) (vs : List (List ℕ)) → AreParams rest vs → HasOthers rest vs
others_of rest vs are = record { values = values_are rest vs are; params = subst (λ (l : List (List ℕ)). AreParams rest l) (sym (values_are rest vs are)) are }

-- no comma: the text is the value
none_is_last : (text : List ℕ) (vs : List (List ℕ)) → AreParams text vs → begins_quoted text ≡ false → position is_comma text ≡ None → vs ≡ text ∷ []
none_is_last _ _ (last_param p v is) bare none = elim (kinds p v is) [
  | inl x ↦ ap (λ (l : List ℕ). l ∷ []) (sym x.0)
  | inr y ↦ (let never : begins_quoted p ≡ true = ap begins_quoted y.0 in cc)
]
none_is_last _ _ (more_params p v rest vs is more) bare none = elim (kinds p v is) [
  | inl x ↦ (let never : position is_comma (p ++ 44 ∷ rest) ≡ Some (length p) = at_mark is_comma is_plain plain_other p rest 44 (ap (λ (l : List ℕ). list_all is_plain l) x.0 ∙ x.1) refl in cc)
  | inr y ↦ (let never : begins_quoted (p ++ 44 ∷ rest) ≡ true = ap (λ (l : List ℕ). begins_quoted (l ++ 44 ∷ rest)) y.0 in cc)
]

-- a comma: the value stands in front of it, and the others after
record IsParted (text : List ℕ) (vs : List (List ℕ)) (v rest : List ℕ) : Type 0 where
  pub values : vs ≡ v ∷ values_of rest
  pub others : AreParams rest (values_of rest)

first_comma : (text : List ℕ) (vs : List (List ℕ)) (n : ℕ) → AreParams text vs → begins_quoted text ≡ false → position is_comma text ≡ Some n → IsParted text vs (take n text) (drop (n + 1) text)
first_comma _ _ n (last_param p v is) bare some = elim (kinds p v is) [
  | inl x ↦ (let never : position is_comma p ≡ None = no_mark is_comma is_plain plain_other p (ap (λ (l : List ℕ). list_all is_plain l) x.0 ∙ x.1) in cc)
  | inr y ↦ (let never : begins_quoted p ≡ true = ap begins_quoted y.0 in cc)
]
first_comma _ _ n (more_params p v rest vs is more) bare some = elim (kinds p v is) [
  | inl x ↦ (
      let found : position is_comma (p ++ 44 ∷ rest) ≡ Some (length p) = at_mark is_comma is_plain plain_other p rest 44 (ap (λ (l : List ℕ). list_all is_plain l) x.0 ∙ x.1) refl in
      let same : length p ≡ n = cc in
      let others = others_of rest vs more in
      let front : take n (p ++ 44 ∷ rest) ≡ p = ap (λ (k : ℕ). take k (p ++ 44 ∷ rest)) (sym same) ∙ take_front p (44 ∷ rest) in
      let back : drop (n + 1) (p ++ 44 ∷ rest) ≡ rest = ap (λ (k : ℕ). drop (k + 1) (p ++ 44 ∷ rest)) (sym same) ∙ drop_front p rest 44 in
      record {
        values = ap₂ (λ (l : List ℕ) (ls : List (List ℕ)). l ∷ ls) (sym (front ∙ x.0)) (sym others.values ∙ ap values_of (sym back));
        others = subst (λ (l : List ℕ). AreParams l (values_of l)) (sym back) others.params;
      })
  | inr y ↦ (let never : begins_quoted (p ++ 44 ∷ rest) ≡ true = ap (λ (l : List ℕ). begins_quoted (l ++ 44 ∷ rest)) y.0 in cc)
]

-- inside quotes: the value, and after them nothing, or a comma and the others
record IsInside (text : List ℕ) (vs : List (List ℕ)) (n : ℕ) : Type 0 where
  pub quote : position is_quote (drop 1 text) ≡ Some n
  pub value : List ℕ
  pub value_is : take n (drop 1 text) ≡ value
  pub most : n + 2 ≤ length text
  pub last : n + 2 ≡ length text → vs ≡ value ∷ []
  pub more : n + 2 < length text → IsParted text vs value (drop (n + 3) text)

module _ (v : List ℕ) (all : list_all is_inner v ≡ true) where
  last_inside : IsInside (34 ∷ v ++ 34 ∷ []) (v ∷ []) (length v)
  last_inside = record {
    quote = at_mark is_quote is_inner inner_other v [] 34 all refl;
    value = v;
    value_is = take_front v (34 ∷ []);
    most = omega (arith, length-append v (34 ∷ []));
    last = λ same. refl;
    more = λ lt. absurd (omega (arith, lt, length-append v (34 ∷ [])));
  }

  module _ (rest : List ℕ) (vs : List (List ℕ)) (are : AreParams rest vs) where
    text_is : (34 ∷ v ++ 34 ∷ []) ++ 44 ∷ rest ≡ 34 ∷ v ++ 34 ∷ 44 ∷ rest
    text_is = ap (λ (l : List ℕ). 34 ∷ l) (append_assoc v (34 ∷ []) (44 ∷ rest))

    back : drop (length v + 3) (34 ∷ v ++ 34 ∷ 44 ∷ rest) ≡ rest
    back =
        let size : length v + 3 ≡ suc ((length v + 1) + 1) = omega arith in
        let twice : drop 1 (drop (length v + 1) (v ++ 34 ∷ 44 ∷ rest)) ≡ drop ((length v + 1) + 1) (v ++ 34 ∷ 44 ∷ rest) = drop-drop 1 (length v + 1) (v ++ 34 ∷ 44 ∷ rest) in
        rw size (sym twice ∙ ap (λ (l : List ℕ). drop 1 l) (drop_front v (44 ∷ rest) 34))

    more_inside : IsInside (34 ∷ v ++ 34 ∷ 44 ∷ rest) (v ∷ vs) (length v)
    more_inside =
        let others = others_of rest vs are in
        record {
          quote = at_mark is_quote is_inner inner_other v (44 ∷ rest) 34 all refl;
          value = v;
          value_is = take_front v (34 ∷ 44 ∷ rest);
          most = omega (arith, length-append v (34 ∷ 44 ∷ rest));
          last = λ same. absurd (omega (arith, same, length-append v (34 ∷ 44 ∷ rest)));
          more = λ lt. record {
            values = ap (λ (ls : List (List ℕ)). v ∷ ls) (sym others.values ∙ ap values_of (sym back));
            others = subst (λ (l : List ℕ). AreParams l (values_of l)) (sym back) others.params;
          };
        }

inside : (text : List ℕ) (vs : List (List ℕ)) → AreParams text vs → begins_quoted text ≡ true → (n : ℕ) × IsInside text vs n
inside _ _ (last_param p v is) begins = elim (kinds p v is) [
  | inl x ↦ absurd (bare p (ap (λ (l : List ℕ). list_all is_plain l) x.0 ∙ x.1) begins)
  | inr y ↦ (length v, subst (λ (l : List ℕ). IsInside l (v ∷ []) (length v)) (sym y.0) (last_inside v y.1))
]
  where
    bare : (p : List ℕ) → list_all is_plain p ≡ true → begins_quoted p ≡ true → ⊥
    bare [] all begins = cc
    bare (b ∷ p) all begins = let good : is_plain b ≡ true = (both (is_plain b) (list_all is_plain p) all).0 in grind (arith, nat_tests, good, begins)
inside _ _ (more_params p v rest vs is more) begins = elim (kinds p v is) [
  | inl x ↦ absurd (bare p rest (ap (λ (l : List ℕ). list_all is_plain l) x.0 ∙ x.1) begins)
  | inr y ↦ (length v, subst (λ (l : List ℕ). IsInside l (v ∷ vs) (length v)) (sym (ap (λ (l : List ℕ). l ++ 44 ∷ rest) y.0 ∙ text_is v y.1 rest vs more)) (more_inside v y.1 rest vs more))
]
  where
    bare : (p rest : List ℕ) → list_all is_plain p ≡ true → begins_quoted (p ++ 44 ∷ rest) ≡ true → ⊥
    bare [] rest all begins = cc
    bare (b ∷ p) rest all begins = let good : is_plain b ≡ true = (both (is_plain b) (list_all is_plain p) all).0 in grind (arith, nat_tests, good, begins)

-- a part of a range
front_of : (u : List ℕ) (s e n : ℕ) → s + n ≤ e → slice_range u s (s + n) ≡ take n (slice_range u s e)
front_of u s e n le =
    let size : (s + n) - s ≡ n = omega arith in
    ap (λ (k : ℕ). take k (drop s u)) size ∙ sym (take-take n (e - s) (drop s u) (omega (arith, le)))

back_of : (u : List ℕ) (s e n : ℕ) → s + n ≤ e → slice_range u (s + n) e ≡ drop n (slice_range u s e)
back_of u s e n le =
    let size : e - s ≡ n + (e - (s + n)) = omega (arith, le) in
    sym (ap (λ (k : ℕ). drop n (take k (drop s u))) size ∙ drop-take n (e - (s + n)) (drop s u) ∙ ap (λ (l : List ℕ). take (e - (s + n)) l) (drop-drop n s u))

size_of : (u : List ℕ) (s e : ℕ) → s ≤ e → e ≤ length u → length (slice_range u s e) ≡ e - s
size_of u s e fw le = omega (arith, length-take (e - s) (drop s u), length-drop s u, fw, le)

module _ (unit : List ℕ) (block : Span) (is : IsBlockIn unit block) where
  abbrev text : List ℕ
  text = text_at unit block

  size : length text ≡ block.end - block.start
  size = size_of unit block.start block.end is.is_in.forwards is.is_in.within

  -- the first value, and a block of the others
  module _ (v rest : List ℕ) (value others : Span) (parted : IsParted text (values_of text) v rest) (value_is : text_at unit value ≡ v) (value_in : IsIn unit value) (others_are : text_at unit others ≡ rest) (others_in : IsIn unit others) where
    parted_first : IsFirst unit block (record { value = value; others = Some others })
    parted_first = record {
      values = parted.values ∙ ap₂ (λ (l m : List ℕ). l ∷ values_of m) (sym value_is) (sym others_are);
      value_in = value_in;
      others_in = record {
        is_in = others_in;
        block = record {
          params = subst (λ (l : List ℕ). AreParams l (values_of l)) (sym others_are) parted.others;
          few = (let less = ap length parted.values in let same : length (values_of (text_at unit others)) ≡ length (values_of rest) = ap (λ (l : List ℕ). length (values_of l)) others_are in omega (arith, is.block.few, less, same));
        };
      };
    }

  pub plain_last : begins_quoted text ≡ false → position is_comma text ≡ None → IsFirst unit block (record { value = block; others = None })
  plain_last bare none = record { values = none_is_last text (values_of text) is.block.params bare none; value_in = is.is_in; others_in = tt }

  pub plain_more : (n : ℕ) → begins_quoted text ≡ false → position is_comma text ≡ Some n → n < length text
      → IsFirst unit block (record { value = record { start = block.start; end = block.start + n }; others = Some (record { start = (block.start + n) + 1; end = block.end }) })
  plain_more n bare some lt =
      let long : block.start + (n + 1) ≤ block.end = omega (arith, lt, size) in
      let place : (block.start + n) + 1 ≡ block.start + (n + 1) = omega arith in
      parted_first (take n text) (drop (n + 1) text) (record { start = block.start; end = block.start + n }) (record { start = (block.start + n) + 1; end = block.end })
      (first_comma text (values_of text) n is.block.params bare some)
      (front_of unit block.start block.end n (omega (arith, long))) (record { forwards = omega arith; within = omega (arith, long, is.is_in.within) })
      (ap (λ (k : ℕ). slice_range unit k block.end) place ∙ back_of unit block.start block.end (n + 1) long) (record { forwards = omega (arith, long); within = is.is_in.within })

  module _ (begins : begins_quoted text ≡ true) where
    within : (n : ℕ) × IsInside text (values_of text) n
    within = inside text (values_of text) is.block.params begins

    pub quoted_size : block.start + 2 ≤ block.end
    quoted_size = omega (arith, within.1.most, size)

    pub quote_is : (n : ℕ) × (position is_quote (drop 1 text) ≡ Some n)
    quote_is = (within.0, within.1.quote)

    module _ (n : ℕ) (some : position is_quote (drop 1 text) ≡ Some n) where
      is_n : within.0 ≡ n
      is_n = (let e = within.1.quote in cc)

      found : IsInside text (values_of text) n
      found = subst (λ (k : ℕ). IsInside text (values_of text) k) is_n within.1

      pub quoted_end : ((block.start + 1) + n) + 1 ≤ block.end
      quoted_end = omega (arith, found.most, size, is.is_in.forwards)

      value_text : slice_range unit (block.start + 1) ((block.start + 1) + n) ≡ found.value
      value_text =
          front_of unit (block.start + 1) block.end n (omega (arith, quoted_end))
          ∙ ap (λ (l : List ℕ). take n l) (back_of unit block.start block.end 1 (omega (arith, quoted_size)))
          ∙ found.value_is

      value_in : IsIn unit (record { start = block.start + 1; end = (block.start + 1) + n })
      value_in = record { forwards = omega arith; within = omega (arith, quoted_end, is.is_in.within) }

      pub quoted_last : ((block.start + 1) + n) + 1 ≡ block.end → IsFirst unit block (record { value = record { start = block.start + 1; end = (block.start + 1) + n }; others = None })
      quoted_last ends = record {
        values = found.last (omega (arith, ends, size, is.is_in.forwards)) ∙ ap (λ (l : List ℕ). l ∷ []) (sym value_text);
        value_in = value_in;
        others_in = tt;
      }

      pub quoted_more : ((block.start + 1) + n) + 1 < block.end
          → IsFirst unit block (record { value = record { start = block.start + 1; end = (block.start + 1) + n }; others = Some (record { start = ((block.start + 1) + n) + 2; end = block.end }) })
      quoted_more lt =
          let place : ((block.start + 1) + n) + 2 ≡ block.start + (n + 3) = omega arith in
          let long : block.start + (n + 3) ≤ block.end = omega (arith, lt) in
          parted_first found.value (drop (n + 3) text) (record { start = block.start + 1; end = (block.start + 1) + n }) (record { start = ((block.start + 1) + n) + 2; end = block.end })
          (found.more (omega (arith, lt, size, is.is_in.forwards)))
          value_text value_in
          (ap (λ (k : ℕ). slice_range unit k block.end) place ∙ back_of unit block.start block.end (n + 3) long) (record { forwards = omega (arith, lt); within = is.is_in.within })
