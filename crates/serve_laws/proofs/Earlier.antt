-- The history at an earlier moment is a beginning of the later one, where each pass had seen a beginning of what it has seen since.
use Rattle.std.proofs.Common.{◌≡◌, ◌≢◌, ◌⊎◌, ◌<◌, ◌+◌, ℕ, zero, suc, arith, List, [], ◌∷◌, ◌++◌, length, map, Option, append_assoc, append-nil, refl, sym, ◌∙◌, ap, subst, inl, inr}
use mathlib.Core.Option.{some}
use lib.ListN.{get_elem?}
use base.Stored.{Gv}
use Rattle.atomic_table.specs.Table.{State}
use Rattle.turnstile.specs.declared.board.Stage.{Stage}
use Rattle.turnstile.specs.declared.board.Stage.TheVariants.{Deals, Idle, Drawn, Inside}
use Rattle.turnstile.specs.declared.board.View.{View}
use Rattle.turnstile.specs.declared.board.Held.{Held}
use Rattle.turnstile.specs.declared.board.Opened.{Opened}
use Rattle.turnstile.specs.Turning.{Each, Kept, Sits}

abbrev hd : {A : Type 0} → A → List A → A
hd d [] = d
hd d (x ∷ xs) = x

abbrev tl : {A : Type 0} → List A → List A
tl [] = []
tl (x ∷ xs) = xs

-- the last of a list, or this
abbrev end_or : {A : Type 0} → A → List A → A
end_or d [] = d
end_or d (x ∷ xs) = end_or x xs

end_is : {A : Type 0} (d : A) (xs : List A) (a : A) → end_or d (xs ++ a ∷ []) ≡ a
end_is d [] a = refl
end_is d (x ∷ xs) a = end_is x xs a

same_end : {A : Type 0} (xs ys : List A) (a b : A) → xs ++ a ∷ [] ≡ ys ++ b ∷ [] → a ≡ b
same_end xs ys a b is = sym (end_is a xs a) ∙ ap (end_or a) is ∙ end_is a ys b

-- a list has a last element, or none
ended : {A : Type 0} (xs : List A) → (xs ≡ []) ⊎ ((front : List A) × (a : A) × (xs ≡ front ++ a ∷ []))
ended [] = inl refl
ended {A} (x ∷ xs) = elim (ended xs) [
  | inl none ↦ inr ([], x, ap (λ (ys : List A). x ∷ ys) none)
  | inr t ↦ inr (x ∷ t.0, t.1, ap (λ (ys : List A). x ∷ ys) t.2)
]

each_end : {A : Type 0} (P : A → Type 0) (xs : List A) (a : A) → Each P (xs ++ a ∷ []) → P a
each_end P [] a all = all.0
each_end P (x ∷ xs) a all = each_end P xs a all.1

elem_below : {A : Type 0} (xs : List A) (k : ℕ) → k < length xs → (x : A) × (get_elem? xs k ≡ some x)
elem_below [] k lt = absurd (omega (arith, lt))
elem_below (x ∷ xs) zero lt = (x, refl)
elem_below (x ∷ xs) (suc k) lt = elem_below xs k (omega (arith, lt))

sits_there : (st : Stage) (number dealt k : ℕ) → Sits st number dealt (k + 1) → number ≡ k
sits_there Deals number dealt k x = let z = x.0 in absurd (omega (arith, z))
sits_there Idle number dealt k x = omega (arith, x)
sits_there Drawn number dealt k x = omega (arith, x)
sits_there Inside number dealt k x = omega (arith, x)

-- of this history a pass had seen this, and since then more, a beginning of it
pub record SeesOn {E : Type 0} (code : E → Gv) (history : List E) (seen : List Gv) : Type 0 where
  pub begun : List E
  pub later : List E
  pub whole : begun ++ later ≡ history
  pub more : List Gv
  pub codes : seen ++ more ≡ map code begun

module _ {X E O : Type 0} (mark : O → Gv) (code : E → Gv) (inj : (x y : E) → code x ≡ code y → x ≡ y) (opening : X → O) (number : E → ℕ) (stands : X → List E → Type 0) where
  -- codes that begin with those of some entries are of entries that begin with these
  coded_front : (xs ys : List E) (more : List Gv) → map code xs ++ more ≡ map code ys → (m : List E) × (xs ++ m ≡ ys)
  coded_front [] ys more is = (ys, refl)
  coded_front (x ∷ xs) [] more is = absurd (let long : suc (length (map code xs ++ more)) ≡ 0 = ap length is in omega (arith, long))
  coded_front (x ∷ xs) (y ∷ ys) more is =
      let t = coded_front xs ys more (ap tl is) in
      let one : x ≡ y = inj x y (ap (hd (code x)) is) in
      (t.0, (λ i. one i ∷ t.1 i))

  -- what follows a beginning that holds the last entry is nothing
  none_later : (n : ℕ) (begun later front : List E) (e : E) → begun ++ later ≡ front ++ e ∷ [] → number e ≡ n → Each (λ x. number x ≢ n) later → later ≡ []
  none_later n begun later front e is own others = elim (ended later) [
    | inl none ↦ none
    | inr t ↦ (
        let all : (begun ++ t.0) ++ t.1 ∷ [] ≡ front ++ e ∷ [] = append_assoc begun t.0 (t.1 ∷ []) ∙ ap (λ (es : List E). begun ++ es) (sym t.2) ∙ is in
        let same : t.1 ≡ e = same_end (begun ++ t.0) front t.1 e all in
        let other : number t.1 ≢ n = each_end (λ x. number x ≢ n) t.0 t.1 (subst (λ (es : List E). Each (λ x. number x ≢ n) es) t.2 others) in
        absurd (other (ap number same ∙ own))
        )
  ]

  module _ (key : Opened X) (z : State (Option (Held X E)) View) (k : Kept mark code opening number stands key z) (history : List E) where
    -- the pass whose entry was the last had seen it all
    by_view : (front : List E) (e : E) → k.history ≡ front ++ e ∷ [] → (v : View) → get_elem? z.views (number e + 1) ≡ some v → SeesOn code history v.seen → (later : List E) × (k.history ++ later ≡ history)
    by_view front e is v at x =
        let knows = k.each (number e + 1) v at in
        let own : number e ≡ v.number = sym (sits_there v.stage v.number k.dealt (number e) knows.sits) in
        let f = knows.front in
        let none : f.later ≡ [] = none_later v.number f.begun f.later front e (f.whole ∙ is) own f.others in
        let all : f.begun ≡ k.history = sym (append-nil f.begun) ∙ ap (λ (es : List E). f.begun ++ es) (sym none) ∙ f.whole in
        let codes : map code k.history ++ x.more ≡ map code x.begun = ap (λ (gs : List Gv). gs ++ x.more) (ap (map code) (sym all) ∙ sym f.seen) ∙ x.codes in
        let t = coded_front k.history x.begun x.more codes in
        (t.0 ++ x.later, sym (append_assoc k.history t.0 x.later) ∙ ap (λ (es : List E). es ++ x.later) t.1 ∙ x.whole)

    pub earlier : ((n : ℕ) (v : View) → n < k.dealt → get_elem? z.views (n + 1) ≡ some v → SeesOn code history v.seen) → (later : List E) × (k.history ++ later ≡ history)
    earlier sees = elim (ended k.history) [
      | inl none ↦ (history, ap (λ (es : List E). es ++ history) none)
      | inr t ↦ (
          let own : number t.1 < k.dealt = each_end (λ e. number e < k.dealt) t.0 t.1 (subst (λ (es : List E). Each (λ e. number e < k.dealt) es) t.2 k.numbers) in
          let seats = k.seats in
          let there = elem_below z.views (number t.1 + 1) (omega (arith, own, seats)) in
          by_view t.0 t.1 t.2 there.0 there.1 (sees (number t.1) there.0 own there.1)
          )
    ]
