-- A label's bytes, as they are kept.
use Rattle.std.proofs.Common.{◌≡◌, ◌≤◌, ℕ, ◌-◌, ◌==◌, Some, List, [], ◌∷◌, ◌++◌, not, true, length, take, drop, replicate, nat_lt, ap, ap₂, ◌∙◌, sym, arith}
use Rattle.std.proofs.Math.Seq.{take-append_seam}
use Rattle.std.proofs.lemmas.Bool.{eqb-true}
use Rattle.std.proofs.lemmas.Bool.Decides.{nat_tests}
use Rattle.std.proofs.lemmas.List.{drop-replicate}
use Rattle.dxc_model.specs.Labels.{are_label_bytes, as_label, is_label}
use Rattle.dxc_model.proofs.Bools.{and_true}

short_of : (text : List ℕ) → is_label text ≡ true → length text ≤ 24
short_of text is = let few = (and_true (not (nat_lt 24 (length text))) (are_label_bytes text) is).0 in grind (arith, nat_tests, few)

-- the front of 24 bytes, where a label was copied there in front of zeros
pub kept_front : (text new : List ℕ) → new ≡ text → is_label text ≡ true
    → (length text ≤ 24) × (length (take (length text) (new ++ drop (length text) (replicate 24 0))) ≡ length text) × (take (length text) (new ++ drop (length text) (replicate 24 0)) ++ replicate (24 - length text) 0 ≡ new ++ drop (length text) (replicate 24 0)) × (is_label (take (length text) (new ++ drop (length text) (replicate 24 0))) ≡ true)
kept_front text new e is =
    let rest = drop (length text) (replicate 24 0) in
    let front : take (length text) (new ++ rest) ≡ text = ap (λ (xs : List ℕ). take (length text) (xs ++ rest)) e ∙ take-append_seam text rest in
    (short_of text is, ap length front, ap₂ (λ (xs ys : List ℕ). xs ++ ys) (front ∙ sym e) (sym (drop-replicate (length text) 24 0)), ap is_label front ∙ is)

-- no text is the label that is none
pub empty_label : (text label : List ℕ) → (length text == 0) ≡ true → label ≡ [] → Some label ≡ as_label text
empty_label [] label is none = ap Some none
empty_label (b ∷ text) label is none = let size = eqb-true (length (b ∷ text)) 0 is in absurd (omega arith)
