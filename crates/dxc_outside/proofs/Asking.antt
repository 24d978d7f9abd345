-- Askings of an opener, one after the other.
use Rattle.std.proofs.Common.{◌≡◌, ◌+◌, ◌-◌, ◌<◌, ◌∙◌, ℕ, zero, suc, arith, List, [], ◌∷◌, ◌++◌, append-nil, append_assoc, ap, refl, sym, subst}
use Rattle.dxc_outside.specs.Asked.{Asking, AskedFor, asked_each}

module _ (asked : List Asking → Type 0) (well : Type 0) where
  -- all of them were made
  pub asked_all : (all : List Asking) → asked all → AskedFor asked all well
  asked_all all is = record { made = all; rest = []; split = sym (append-nil all); asked = is; whole = λ w. refl }

  -- it went badly before those after
  pub asked_part : (first behind : List Asking) → asked first → (well → ⊥) → AskedFor asked (first ++ behind) well
  asked_part first behind is badly = record { made = first; rest = behind; split = refl; asked = is; whole = λ w. absurd (badly w) }

  -- it went badly in the first of them
  pub asked_within : {W : Type 0} (first behind : List Asking) → AskedFor asked first W → (well → ⊥) → AskedFor asked (first ++ behind) well
  asked_within first behind a badly = record {
    made = a.made;
    rest = a.rest ++ behind;
    split = ap (λ (l : List Asking). l ++ behind) a.split ∙ append_assoc a.made a.rest behind;
    asked = a.asked;
    whole = λ w. absurd (badly w);
  }

  -- what went well is less
  pub asked_less : {W : Type 0} (all : List Asking) → (well → W) → AskedFor asked all W → AskedFor asked all well
  asked_less all less a = record { made = a.made; rest = a.rest; split = a.split; asked = a.asked; whole = λ w. a.whole (less w) }

module _ {O : Type 0} (asked : O → O → List Asking → Type 0) (asked_on : (old between new : O) (before after : List Asking) → asked old between before → asked between new after → asked old new (before ++ after)) (old between new : O) where
  -- where the first went well, all of them were made
  pub all_made : {W : Type 0} (all : List Asking) → AskedFor (asked old between) all W → W → asked old between all
  all_made all a w =
      let e : all ≡ a.made = a.split ∙ ap (λ (l : List Asking). a.made ++ l) (a.whole w) ∙ append-nil a.made in
      subst (λ (l : List Asking). asked old between l) (sym e) a.asked

  -- all of the first, and then those after
  pub asked_behind : {W : Type 0} (first behind : List Asking) → asked old between first → AskedFor (asked between new) behind W → AskedFor (asked old new) (first ++ behind) W
  asked_behind first behind is b = record {
    made = first ++ b.made;
    rest = b.rest;
    split = ap (λ (l : List Asking). first ++ l) b.split ∙ sym (append_assoc first b.made b.rest);
    asked = asked_on old between new first b.made is b.asked;
    whole = b.whole;
  }

-- those of further numbers come after
each_more : (asking : ℕ → Asking) (k n m : ℕ) → m ≡ k + n → (rest : List Asking) × (asked_each asking m ≡ asked_each asking n ++ rest)
each_more asking zero n m is = ([], (let e : m ≡ n = omega (arith, is) in ap (asked_each asking) e ∙ sym (append-nil (asked_each asking n))))
each_more asking (suc k) n m is =
    let more = each_more asking k n (k + n) refl in
    let e : m ≡ suc (k + n) = omega (arith, is) in
    (more.0 ++ asking (k + n) ∷ [], ap (asked_each asking) e ∙ ap (λ (l : List Asking). l ++ asking (k + n) ∷ []) more.1 ∙ append_assoc (asked_each asking n) more.0 (asking (k + n) ∷ []))

module _ {O : Type 0} (asked : O → O → List Asking → Type 0) (asked_on : (old between new : O) (before after : List Asking) → asked old between before → asked between new after → asked old new (before ++ after)) (old between new : O) (asking : ℕ → Asking) (n : ℕ) where
  -- one more was made
  pub each_next : asked old between (asked_each asking n) → asked between new (asking n ∷ []) → asked old new (asked_each asking (n + 1))
  each_next is one =
      let e : n + 1 ≡ suc n = omega arith in
      subst (λ (m : ℕ). asked old new (asked_each asking m)) (sym e) (asked_on old between new (asked_each asking n) (asking n ∷ []) is one)

  -- and it went badly there
  pub each_cut : {W : Type 0} (m : ℕ) → n < m → asked old between (asked_each asking n) → asked between new (asking n ∷ []) → (W → ⊥) → AskedFor (asked old new) (asked_each asking m) W
  each_cut m low is one badly =
      let k : (d : ℕ) × (m ≡ d + (n + 1)) = (m - (n + 1), omega (arith, low)) in
      let more = each_more asking k.0 (n + 1) m k.1 in
      record { made = asked_each asking (n + 1); rest = more.0; split = more.1; asked = each_next is one; whole = λ w. absurd (badly w) }
