-- A text by its first elements and its last.
use Rattle.std.proofs.Common.{◌≡◌, ◌≤◌, ℕ, ◌+◌, ◌-◌, List, ◌++◌, length, take, drop, sym, ◌∙◌, ap, ap₂, append_assoc, length-append, take-append-drop, take-take, take_at, arith}

pub ends_joined : (old text first front last : List ℕ) (m : ℕ) → first ≡ take m text → front ≡ take (length text - m) text → last ≡ drop (length text - m) text → length text ≤ m + m
    → take (length old + length front) (old ++ first) ++ last ≡ old ++ text
ends_joined old text first front last m first_is front_is last_is most =
    let k = length text - m in
    let part = front_is ∙ sym (ap (λ (l : List ℕ). take k l) first_is ∙ take-take k m text (omega arith)) in
    let rest = drop k first in
    let whole = ap (λ (l : List ℕ). old ++ l) (sym (take-append-drop k first)) ∙ sym (append_assoc old (take k first) rest) ∙ ap (λ (l : List ℕ). (old ++ l) ++ rest) (sym part) in
    ap (λ (l : List ℕ). take (length old + length front) l ++ last) whole
    ∙ ap (λ (l : List ℕ). l ++ last) (take_at (old ++ front) rest (length old + length front) (length-append old front))
    ∙ append_assoc old front last
    ∙ ap (λ (l : List ℕ). old ++ l) (ap₂ (λ (a b : List ℕ). a ++ b) front_is last_is ∙ take-append-drop k text)
