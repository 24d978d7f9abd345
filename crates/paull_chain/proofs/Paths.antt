-- Paths along a step that can be taken back in one route.
use Rattle.std.proofs.Common.{◌≡◌, ◌≢◌, ℕ, zero, suc, ◌+◌, ◌-◌, ◌<◌, ◌≤◌, List, [], ◌∷◌, ◌++◌, length, get_or, sym, refl, ◌∙◌, subst, arith}
use Rattle.std.proofs.lemmas.List.{get_or_append_left, get_or-append_right}
use mathlib.Core.Logic.{dite}
use Rattle.std.proofs.Math.Decide.{dec_lt}
use Rattle.paull_chain.proofs.Counting.{fits}

module _ (Next : ℕ → ℕ → Type 0) (back : (u v w : ℕ) → Next u w → Next v w → u ≡ v) where
  abbrev pub Runs : ℕ → List ℕ → Type 0
  Runs x [] = Unit {0}
  Runs x (y ∷ ys) = Next x y × Runs y ys

  -- no step leads to x
  abbrev pub Begins : ℕ → Type 0
  Begins x = (u : ℕ) → Next u x → ⊥

  step_at : (x : ℕ) (xs : List ℕ) (t : ℕ) → Runs x xs → t < length xs → Next (get_or (x ∷ xs) t 0) (get_or xs t 0)
  step_at x [] t h low = absurd (let z : ⊥ = omega arith in z)
  step_at x (y ∷ ys) zero h low = h.0
  step_at x (y ∷ ys) (suc t) h low = step_at y ys t h.1 (omega arith)

  -- a path from a beginning comes to each number once
  pub once : (x : ℕ) (xs : List ℕ) (p q : ℕ) → Runs x xs → Begins x → p ≤ length xs → q ≤ length xs → get_or (x ∷ xs) p 0 ≡ get_or (x ∷ xs) q 0 → p ≡ q
  once x xs zero zero h first lp lq e = refl
  once x xs zero (suc q) h first lp lq e = absurd (first _ (subst (Next (get_or (x ∷ xs) q 0)) (sym e) (step_at x xs q h (omega arith))))
  once x xs (suc p) zero h first lp lq e = absurd (first _ (subst (Next (get_or (x ∷ xs) p 0)) e (step_at x xs p h (omega arith))))
  once x xs (suc p) (suc q) h first lp lq e = let d = once x xs p q h first (omega arith) (omega arith) (back _ _ _ (step_at x xs p h (omega arith)) (subst (Next (get_or (x ∷ xs) q 0)) (sym e) (step_at x xs q h (omega arith)))) in omega arith

  -- paths from two beginnings never meet
  pub never : (x y : ℕ) (xs ys : List ℕ) (p q : ℕ) → Runs x xs → Runs y ys → Begins x → Begins y → x ≢ y → p ≤ length xs → q ≤ length ys → get_or (x ∷ xs) p 0 ≢ get_or (y ∷ ys) q 0
  never x y xs ys zero zero h g first start two lp lq e = two e
  never x y xs ys zero (suc q) h g first start two lp lq e = first _ (subst (Next (get_or (y ∷ ys) q 0)) (sym e) (step_at y ys q g (omega arith)))
  never x y xs ys (suc p) zero h g first start two lp lq e = start _ (subst (Next (get_or (x ∷ xs) p 0)) e (step_at x xs p h (omega arith)))
  never x y xs ys (suc p) (suc q) h g first start two lp lq e = never x y xs ys p q h g first start two (omega arith) (omega arith)
      (back _ _ _ (step_at x xs p h (omega arith)) (subst (Next (get_or (y ∷ ys) q 0)) (sym e) (step_at y ys q g (omega arith))))

  -- so together they come to different numbers
  pub both_fit : (x y n : ℕ) (xs ys : List ℕ) → Runs x xs → Runs y ys → Begins x → Begins y → x ≢ y
      → ((t : ℕ) → t ≤ length xs → get_or (x ∷ xs) t 0 < n) → ((t : ℕ) → t ≤ length ys → get_or (y ∷ ys) t 0 < n) → length xs + length ys + 2 ≤ n
  both_fit x y n xs ys h g first start two low below = let fit = fits n (length xs + 1 + (length ys + 1)) (λ t. get_or ((x ∷ xs) ++ (y ∷ ys)) t 0) less one in omega arith
    where
      lefts : (t : ℕ) → t ≤ length xs → get_or ((x ∷ xs) ++ (y ∷ ys)) t 0 ≡ get_or (x ∷ xs) t 0
      lefts t le = get_or_append_left (x ∷ xs) (y ∷ ys) 0 t (omega arith)

      rights : (t : ℕ) → length xs < t → get_or ((x ∷ xs) ++ (y ∷ ys)) t 0 ≡ get_or (y ∷ ys) (t - (length xs + 1)) 0
      rights t le = get_or-append_right (x ∷ xs) (y ∷ ys) (length xs + 1) t 0 (omega arith) (omega arith)

      less : (t : ℕ) → t < length xs + 1 + (length ys + 1) → get_or ((x ∷ xs) ++ (y ∷ ys)) t 0 < n
      less t lt = dite (dec_lt (length xs) t)
          (λ right. let e = rights t right in let b = below (t - (length xs + 1)) (omega arith) in omega arith)
          (λ left. let e = lefts t (omega arith) in let b = low t (omega arith) in omega arith)

      one : (p q : ℕ) → p < length xs + 1 + (length ys + 1) → q < length xs + 1 + (length ys + 1) → get_or ((x ∷ xs) ++ (y ∷ ys)) p 0 ≡ get_or ((x ∷ xs) ++ (y ∷ ys)) q 0 → p ≡ q
      one p q lp lq e = dite (dec_lt (length xs) p)
          (λ right. dite (dec_lt (length xs) q)
          (λ right'. let d = once y ys (p - (length xs + 1)) (q - (length xs + 1)) g start (omega arith) (omega arith) (sym (rights p right) ∙ (e ∙ rights q right')) in omega arith)
          (λ left'. absurd (never x y xs ys q (p - (length xs + 1)) h g first start two (omega arith) (omega arith) (sym (lefts q (omega arith)) ∙ (sym e ∙ rights p right)))))
          (λ left. dite (dec_lt (length xs) q)
          (λ right'. absurd (never x y xs ys p (q - (length xs + 1)) h g first start two (omega arith) (omega arith) (sym (lefts p (omega arith)) ∙ (e ∙ rights q right'))))
          (λ left'. once x xs p q h first (omega arith) (omega arith) (sym (lefts p (omega arith)) ∙ (e ∙ lefts q (omega arith)))))
