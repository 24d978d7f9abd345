-- The first of a list that passes, and the list without it.
use Rattle.std.proofs.Common.{◌≡◌, ◌+◌, ◌<◌, ◌≤◌, ℕ, zero, suc, arith, Bool, true, false, cond, nat_lt, List, [], ◌∷◌, ◌++◌, Option, Some, None, length, take, drop, get_or, find, position, refl, sym, ap, ◌∙◌, subst, append-nil}
use Rattle.std.specs.Prelude.{slice_get}
use Rattle.std.specs.List.{position_or_len}
use Rattle.std.proofs.lemmas.Bool.Decides.{nat_tests}
use Rattle.std.proofs.lemmas.List.{take_all, drop_all}
use Rattle.std.proofs.lemmas.List.Folds.{find_at}
use Rattle.std.proofs.lemmas.List.Sums.{passes_at_first}
use Rattle.std.proofs.lemmas.Option.{slice_get-get_or, slice_get_past}
use Rattle.dxc_outside.specs.Files.{without_first}

some_first : (b : Bool) (n i : ℕ) → cond b (Some n) None ≡ Some i → n ≡ i
some_first true n i e = cc
some_first false n i e = cc

no_first : (b : Bool) (n : ℕ) → cond b (Some n) None ≡ None → b ≡ false
no_first true n e = cc
no_first false n e = refl

pub not_true : (b : Bool) → (b ≡ true → ⊥) → b ≡ false
not_true true never = absurd (never refl)
not_true false never = refl

past : (n m : ℕ) → nat_lt n m ≡ false → m ≤ n
past n m e = grind (arith, nat_tests)

-- the first that passes, where it was found, and where it wasn't
module _ {X : Type 0} (p : X → Bool) (xs : List X) where
  is_first : (i : ℕ) → position p xs ≡ Some i → position_or_len p xs ≡ i
  is_first i e = some_first (nat_lt (position_or_len p xs) (length xs)) (position_or_len p xs) i e

  pub found : (i : ℕ) (x : X) → position p xs ≡ Some i → i < length xs → x ≡ get_or xs i x → find p xs ≡ Some x
  found i x e lt is = find_at p xs ∙ ap (slice_get xs) (is_first i e) ∙ slice_get-get_or xs i x lt ∙ ap (λ (y : X). Some y) (sym is)

  pub passes : (i : ℕ) (x : X) → position p xs ≡ Some i → i < length xs → x ≡ get_or xs i x → p x ≡ true
  passes i x e lt is =
      let at = is_first i e in
      ap p is ∙ subst (λ (n : ℕ). p (get_or xs n x) ≡ true) at (passes_at_first p xs x (omega arith))

  pub absent : position p xs ≡ None → find p xs ≡ None
  absent e = find_at p xs ∙ slice_get_past xs (position_or_len p xs) (past (position_or_len p xs) (length xs) (no_first (nat_lt (position_or_len p xs) (length xs)) (position_or_len p xs) e))

  -- and what is held without it
  pub left : (i : ℕ) → position p xs ≡ Some i → without_first p xs ≡ take i xs ++ drop (i + 1) xs
  left i e = ap (λ (n : ℕ). take n xs ++ drop (n + 1) xs) (is_first i e)

  pub left_all : position p xs ≡ None → without_first p xs ≡ xs
  left_all e =
      let n = position_or_len p xs in
      let beyond : length xs ≤ n = past n (length xs) (no_first (nat_lt n (length xs)) n e) in
      ap (λ (ys : List X). ys ++ drop (n + 1) xs) (take_all n xs beyond) ∙ ap (λ (ys : List X). xs ++ ys) (drop_all (n + 1) xs (omega (arith, beyond))) ∙ append-nil xs

-- without one that fails the first that passes is the same
pub without : {X : Type 0} (q : X → Bool) (xs : List X) (i : ℕ) (d : X) → q (get_or xs i d) ≡ false → find q (take i xs ++ drop (suc i) xs) ≡ find q xs
without q [] zero d e = refl
without q [] (suc i) d e = refl
without q (x ∷ xs) zero d e = ap (λ (b : Bool). cond b (Some x) (find q xs)) (sym e)
without {X} q (x ∷ xs) (suc i) d e = ap (λ (o : Option X). cond (q x) (Some x) o) (without q xs i d e)
