-- Ranges of a list.
use Rattle.std.proofs.Common.{◌≡◌, ℕ, zero, suc, ◌+◌, ◌-◌, ◌<◌, ◌≤◌, List, [], ◌∷◌, ◌++◌, length, take, drop, get_or, slice_range, refl, sym, ◌∙◌, ap, ap₂, add-one, drop-cons, length-append, arith}
use Rattle.std.proofs.lemmas.List.{take_more, get_or-drop, length-drop}

pub drop_first : (u : List ℕ) (at : ℕ) → at < length u → drop at u ≡ get_or u at 0 ∷ drop (at + 1) u
drop_first u at lt = rw add-one (drop-cons u at 0 lt)

pub slice_none : (u : List ℕ) (at : ℕ) → slice_range u at at ≡ []
slice_none u at = let size : at - at ≡ 0 = omega arith in rw size (refl)

-- one element more at the end
pub slice_more : (u : List ℕ) (s at : ℕ) → s ≤ at → at < length u → slice_range u s (at + 1) ≡ slice_range u s at ++ get_or u at 0 ∷ []
slice_more u s at le lt =
    let size : (at + 1) - s ≡ (at - s) + 1 = omega (arith, le) in
    let within : at - s < length (drop s u) = omega (arith, length-drop s u, lt, le) in
    let place : s + (at - s) ≡ at = omega (arith, le) in
    ap (λ (n : ℕ). take n (drop s u)) size ∙ take_more (drop s u) (at - s) 0 within
    ∙ ap (λ (b : ℕ). take (at - s) (drop s u) ++ b ∷ []) (get_or-drop s u (at - s) 0 ∙ ap (λ (n : ℕ). get_or u n 0) place)

-- the first element of a range
pub slice_first : (u : List ℕ) (at end : ℕ) → at < end → end ≤ length u → slice_range u at end ≡ get_or u at 0 ∷ slice_range u (at + 1) end
slice_first u at end lt le =
    let size : end - at ≡ suc (end - (at + 1)) = omega (arith, lt) in
    ap₂ (λ (n : ℕ) (l : List ℕ). take n l) size (drop_first u at (omega (arith, lt, le)))

last_same : (v w : List ℕ) (b c : ℕ) → v ++ b ∷ [] ≡ w ++ c ∷ [] → v ≡ w
last_same [] [] b c e = refl
last_same [] (y ∷ w) b c e = absurd (omega (arith, ap length e, length-append w (c ∷ [])))
last_same (x ∷ v) [] b c e = absurd (omega (arith, ap length e, length-append v (b ∷ [])))
last_same (x ∷ v) (y ∷ w) b c e =
    let head : x ≡ y = cc in
    let tail : v ++ b ∷ [] ≡ w ++ c ∷ [] = cc in
    ap₂ (λ (n : ℕ) (l : List ℕ). n ∷ l) head (last_same v w b c tail)

-- a range without its first and its last element
pub slice_inside : (u v : List ℕ) (s e a b : ℕ) → s + 2 ≤ e → e ≤ length u → slice_range u s e ≡ a ∷ v ++ b ∷ [] → slice_range u (s + 1) (e - 1) ≡ v
slice_inside u v s e a b long le is =
    let first = slice_first u s e (omega (arith, long)) le in
    let size : (e - 1) + 1 ≡ e = omega (arith, long) in
    let more = slice_more u (s + 1) (e - 1) (omega (arith, long)) (omega (arith, long, le)) in
    let rest : v ++ b ∷ [] ≡ slice_range u (s + 1) e = cc (sym is ∙ first) in
    sym (last_same v (slice_range u (s + 1) (e - 1)) b (get_or u (e - 1) 0) (rest ∙ ap (λ (n : ℕ). slice_range u (s + 1) n) (sym size) ∙ more))

sum_zero : (n : ℕ) → n ≡ 0 + n
sum_zero n = omega arith

sum_suc : (i n : ℕ) → suc (i + n) ≡ suc i + n
sum_suc i n = omega arith

no_front : (n : ℕ) → take {A = ℕ} n [] ≡ []
no_front zero = refl
no_front (suc n) = refl

taken_nothing : (i n : ℕ) → ◌≡◌ {A = List ℕ} [] (take (i + n) [])
taken_nothing i n = sym (no_front (i + n))

-- the front of a list, and of what is behind it
pub two_parts : (piece : List ℕ) (i n : ℕ) → take i piece ++ take n (drop i piece) ≡ take (i + n) piece
two_parts piece zero n = ap (λ (k : ℕ). take k piece) (sum_zero n)
two_parts [] (suc i) zero = taken_nothing (suc i) zero
two_parts [] (suc i) (suc n) = taken_nothing (suc i) (suc n)
two_parts (b ∷ piece) (suc i) n = ap (λ (l : List ℕ). b ∷ l) (two_parts piece i n) ∙ ap (λ (k : ℕ). take k (b ∷ piece)) (sum_suc i n)
