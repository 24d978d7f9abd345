-- Commands one after the other.
use Rattle.std.proofs.Common.{zero, suc, ◌≡◌, ℕ, ◌+◌, ◌<◌, List, [], ◌∷◌, ◌++◌, length, take, drop, slice_index_or, sym, refl, ap, ◌∙◌, arith, append_assoc, append-nil, take-append-drop}
use Rattle.std.proofs.lemmas.List.{take_more}
use Rattle.dxc_num.specs.Dimensions.{Dimensions}
use Rattle.dxc_model.specs.declared.op.Change.{Change}
use Rattle.tl1_script.specs.Commands.{line_of, lines_from}

pub lines_append : (d : Dimensions) (n : ℕ) (xs ys : List Change) → lines_from d n (xs ++ ys) ≡ lines_from d n xs ++ lines_from d (n + length xs) ys
lines_append d n [] ys = let here : n ≡ n + 0 = omega arith in ap (λ (k : ℕ). lines_from d k ys) here
lines_append d n (x ∷ xs) ys =
    let next : n + 1 + length xs ≡ n + suc (length xs) = omega arith in
    ap (λ (l : List ℕ). line_of d n x ++ l) (lines_append d (n + 1) xs ys ∙ ap (λ (k : ℕ). lines_from d (n + 1) xs ++ lines_from d k ys) next)
    ∙ sym (append_assoc (line_of d n x) (lines_from d (n + 1) xs) (lines_from d (n + suc (length xs)) ys))

taken : (xs : List Change) (at : ℕ) → at < length xs → length (take at xs) ≡ at
taken [] zero low = refl
taken (x ∷ xs) zero low = refl
taken [] (suc at) low = absurd (omega arith)
taken (x ∷ xs) (suc at) low = ap suc (taken xs at (omega arith))

-- one command more
pub line_more : (d : Dimensions) (cs : List Change) (at : ℕ) (c : Change) → at < length cs → lines_from d 1 (take (at + 1) cs) ≡ lines_from d 1 (take at cs) ++ line_of d (at + 1) (slice_index_or cs at c)
line_more d cs at c low =
    let tag : 1 + length (take at cs) ≡ at + 1 = (let n = taken cs at low in omega arith) in
    ap (λ (l : List Change). lines_from d 1 l) (take_more cs at c low)
    ∙ (lines_append d 1 (take at cs) (slice_index_or cs at c ∷ [])
    ∙ ap (λ (l : List ℕ). lines_from d 1 (take at cs) ++ l) (append-nil (line_of d (1 + length (take at cs)) (slice_index_or cs at c)) ∙ ap (λ (k : ℕ). line_of d k (slice_index_or cs at c)) tag))

-- and those that are left
pub lines_left : (d : Dimensions) (cs : List Change) (at : ℕ) → lines_from d 1 (take at cs) ++ lines_from d (1 + length (take at cs)) (drop at cs) ≡ lines_from d 1 cs
lines_left d cs at = sym (lines_append d 1 (take at cs) (drop at cs)) ∙ ap (λ (l : List Change). lines_from d 1 l) (take-append-drop at cs)
