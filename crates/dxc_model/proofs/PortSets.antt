-- Sets of ports as bits of words.
use Rattle.std.proofs.Common.{◌≡◌, ◌≢◌, ℕ, ◌+◌, ◌-◌, ◌*◌, ◌/◌, ◌%◌, ◌^◌, ◌<◌, ◌≤◌, arith, true, false, List, Option, Some, None, inl, inr, length, get_or, w64, refl, sym, ap, ap₂, ◌∙◌, subst}
use Rattle.std.specs.Prelude.{◌==◌}
use Rattle.std.specs.Int.{bit_at, trailing_zeros}
use Rattle.std.proofs.lemmas.Bool.Decides.{eqb_tells}
use Rattle.std.proofs.lemmas.Bool.{cases_lt}
use Rattle.std.proofs.lemmas.List.{get_or_past}
use Rattle.std.proofs.lemmas.Nat.{shr-shr, shr_le}
use Rattle.std.proofs.lemmas.Nat.Bits.{bit_at-trailing_zeros, bit_at-zero, bit_at_above}
use Rattle.dxc_model.specs.Equipment.{has_bit}
use Rattle.dxc_model.specs.PortSets.{has_port, IsNext}

-- a port by its word and its bit
split_port : (k : ℕ) → k / 64 * 64 + k % 64 ≡ k
split_port k = omega arith

bit_of_port : (word b : ℕ) → b < 64 → ((word * 64 + b) / 64 ≡ word) × ((word * 64 + b) % 64 ≡ b)
bit_of_port word b l = (omega arith, omega arith)

-- the bit of a word is that of its port
pub port_bit : (words : List ℕ) (word b : ℕ) → b < 64 → has_port words (word * 64 + b) ≡ has_bit (get_or words word 0) b
port_bit words word b l = let e = bit_of_port word b l in ap₂ (λ (v c : ℕ). has_bit (get_or words v 0) c) e.0 e.1

-- one word was set anew, and one bit of it
pub other_port : (old new : List ℕ) (p k : ℕ) → k ≢ p → ((word : ℕ) → word ≢ p / 64 → get_or new word 0 ≡ get_or old word 0) → ((b : ℕ) → b < 64 → b ≢ p % 64 → has_bit (get_or new (p / 64) 0) b ≡ has_bit (get_or old (p / 64) 0) b) → has_port new k ≡ has_port old k
other_port old new p k n words bits = elim (eqb_tells (k / 64) (p / 64)) [
  | inl e ↦ (let bit : (k % 64) ≢ (p % 64) = λ same. n (let f = e.1 in let a = split_port k in let b = split_port p in omega arith) in
      subst (λ (v : ℕ). has_bit (get_or new v 0) (k % 64) ≡ has_bit (get_or old v 0) (k % 64)) (sym e.1) (bits (k % 64) (omega arith) bit))
  | inr e ↦ ap (λ (w : ℕ). has_bit w (k % 64)) (words (k / 64) e.1)
]

bit_false : (w b : ℕ) → bit_at w b ≡ 0 → has_bit w b ≡ false
bit_false w b e = ap (λ n. n == 1) e

bit_true : (w b : ℕ) → bit_at w b ≡ 1 → has_bit w b ≡ true
bit_true w b e = ap (λ n. n == 1) e

-- a word without bits has none
none_in_word : (words : List ℕ) (word k : ℕ) → get_or words word 0 ≡ 0 → k / 64 ≡ word → has_port words k ≡ false
none_in_word words word k e f = subst (λ (v : ℕ). has_bit (get_or words v 0) (k % 64) ≡ false) (sym f) (bit_false _ _ (ap (λ w. bit_at w (k % 64)) e ∙ bit_at-zero (k % 64)))

-- after the last word there are none
pub none_past : (words : List ℕ) (word : ℕ) → length words ≤ word → IsNext words (word * 64) None
none_past words word l = λ k h. none_in_word words (k / 64) k (get_or_past words (k / 64) 0 (omega arith)) refl

-- the ports of a word without bits aren't there
pub none_here : (words : List ℕ) (word k : ℕ) → get_or words word 0 ≡ 0 → word * 64 ≤ k → k < (word + 1) * 64 → has_port words k ≡ false
none_here words word k e l m = none_in_word words word k e (omega arith)

-- what comes first after ports that aren't there comes first from these on
pub next_behind : (words : List ℕ) (from start : ℕ) (o : Option ℕ) → from ≤ start → ((k : ℕ) → from ≤ k → k < start → has_port words k ≡ false) → IsNext words start o → IsNext words from o
next_behind words from start None l gone n = λ k h. elim (cases_lt k start) [ inl a ↦ gone k h a | inr b ↦ n k b ]
next_behind words from start (Some p) l gone n = (let m = n.0 in omega arith, n.1, λ k h i. elim (cases_lt k start) [ inl a ↦ gone k h a | inr b ↦ n.2 k b i ])

-- the bits of what is left of a word, and its ports
rest_bit : (words : List ℕ) (from b : ℕ) → from % 64 + b < 64 → has_port words (from + b) ≡ has_bit (get_or words (from / 64) 0 / 2 ^ (from % 64)) b
rest_bit words from b l =
    let w = get_or words (from / 64) 0 in
    let place : from / 64 * 64 + (from % 64 + b) ≡ from + b = let s = split_port from in omega arith in
    subst (λ (k : ℕ). has_port words k ≡ has_bit (w / 2 ^ (from % 64)) b) place
    (port_bit words (from / 64) (from % 64 + b) l ∙ ap (λ n. n % 2 == 1) (sym (shr-shr w (from % 64) b)))

-- nothing is left of the word
pub none_left : (words : List ℕ) (from k : ℕ) → get_or words (from / 64) 0 / 2 ^ (from % 64) ≡ 0 → from ≤ k → k < (from / 64 + 1) * 64 → has_port words k ≡ false
none_left words from k e l m =
    let b = k - from in
    let same : from + b ≡ k = omega arith in
    let low : from % 64 + b < 64 = let s = split_port from in omega arith in
    subst (λ (j : ℕ). has_port words j ≡ false) same (rest_bit words from b low ∙ bit_false _ _ (ap (λ w. bit_at w b) e ∙ bit_at-zero b))

-- the lowest bit of what is left of the word
pub next_left : (words : List ℕ) (from : ℕ) → get_or words (from / 64) 0 < 2 ^ 64 → 0 < get_or words (from / 64) 0 / 2 ^ (from % 64) → IsNext words from (Some (from + trailing_zeros w64 (get_or words (from / 64) 0 / 2 ^ (from % 64))))
next_left words from fits some =
    let w = get_or words (from / 64) 0 in
    let rest = w / 2 ^ (from % 64) in
    let t = trailing_zeros w64 rest in
    let less = shr_le w (from % 64) in
    let z = bit_at-trailing_zeros w64 rest some (omega arith) in
    let low : from % 64 + t < 64 = elim (cases_lt (from % 64 + t) 64) [
      | inl a ↦ a
      | inr b ↦ (let e : ◌≡◌ {A = ℕ} 0 1 = sym (bit_at_above w 64 (from % 64 + t) fits b) ∙ (ap (λ n. n % 2) (sym (shr-shr w (from % 64) t)) ∙ z.1) in absurd (omega arith))
    ] in (
      omega arith,
      rest_bit words from t low ∙ bit_true rest t z.1,
      λ k l m.
          let b = k - from in
          let same : from + b ≡ k = omega arith in
          let under : b < t = omega arith in
          let inside : from % 64 + b < 64 = omega arith in
          subst (λ (j : ℕ). has_port words j ≡ false) same (rest_bit words from b inside ∙ bit_false rest b (z.2 b under)),
    )

-- the lowest bit of a word
pub next_here : (words : List ℕ) (word : ℕ) → get_or words word 0 < 2 ^ 64 → 0 < get_or words word 0 → IsNext words (word * 64) (Some (word * 64 + trailing_zeros w64 (get_or words word 0)))
next_here words word fits some =
    let w = get_or words word 0 in
    let z = bit_at-trailing_zeros w64 w some fits in (
      omega arith,
      port_bit words word (trailing_zeros w64 w) z.0 ∙ bit_true w _ z.1,
      λ k l m.
          let b = k - word * 64 in
          let same : word * 64 + b ≡ k = omega arith in
          let under : b < trailing_zeros w64 w = omega arith in
          let inside : b < 64 = let y = z.0 in omega arith in
          subst (λ (j : ℕ). has_port words j ≡ false) same (port_bit words word b inside ∙ bit_false w b (z.2 b under)),
    )
