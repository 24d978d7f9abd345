-- Rows that a loop fills or empties.
use Rattle.std.proofs.Common.{◌≡◌, ℕ, zero, suc, ◌+◌, ◌<◌, List, [], ◌∷◌, ◌++◌, length, map, replicate, set, take, drop, refl, ap, ◌∙◌, arith}
use Rattle.std.proofs.lemmas.List.{replicate-append-replicate}

pub one_more : {A : Type 0} (n : ℕ) (a : A) → replicate n a ++ a ∷ [] ≡ replicate (n + 1) a
one_more n a = replicate-append-replicate n 1 a

emptied_at : {A : Type 0} (xs : List (List A)) (i : ℕ) → i < length xs → set (take i (map (λ (_ : List A). []) xs) ++ drop i xs) i [] ≡ take (suc i) (map (λ (_ : List A). []) xs) ++ drop (suc i) xs
emptied_at [] i h = absurd (omega arith)
emptied_at (x ∷ xs) zero h = refl
emptied_at (x ∷ xs) (suc i) h = ap (λ l. [] ∷ l) (emptied_at xs i (omega arith))

-- the first i rows are empty, and then the next one
pub emptied : {A : Type 0} (xs : List (List A)) (i : ℕ) → i < length xs → set (take i (map (λ (_ : List A). []) xs) ++ drop i xs) i [] ≡ take (i + 1) (map (λ (_ : List A). []) xs) ++ drop (i + 1) xs
emptied {A} xs i h = let e : suc i ≡ i + 1 = omega arith in emptied_at xs i h ∙ ap (λ (k : ℕ). take k (map (λ (_ : List A). []) xs) ++ drop k xs) e
