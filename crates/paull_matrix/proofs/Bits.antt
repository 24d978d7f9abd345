-- Sets of middles as bits.
use Rattle.std.proofs.Common.{◌≡◌, ◌↔◌, ℕ, ◌<◌, ◌≤◌, ◌+◌, ◌*◌, ◌%◌, ◌^◌, max, sym, ap, ◌∙◌, arith, bit_and, bit_or, IsBitSet}
use Rattle.std.specs.Int.{w128, bit_at, trailing_zeros}
use Rattle.std.proofs.lemmas.Nat.{bit_set_by_shift, shl_whole}
use Rattle.std.proofs.lemmas.Nat.Bits.{bit_at_above, bit_at_and, bit_at_cat_high, bit_at_cat_low, bit_at_ones, bit_at_or, bit_at-lt, bit_at-trailing_zeros, bit_at-zero, shr_and_one}
use Rattle.std.specs.Int.Count.{trailing_of_zero}
use mathlib.Core.Logic.{dite}
use native.Mathlib.Decide.{ℕ_discrete}

pub set_bit : (n k : ℕ) → bit_at n k ≡ 1 → IsBitSet n k
set_bit n k h = (bit_set_by_shift n k).0 (shr_and_one n k ∙ h)

pub bit_set : (n k : ℕ) → IsBitSet n k → bit_at n k ≡ 1
bit_set n k h = sym (shr_and_one n k) ∙ (bit_set_by_shift n k).1 h

pub no_bit : (n i : ℕ) → bit_at n i ≡ 0 → IsBitSet n i → ⊥
no_bit n i e h = let d = bit_set n i h in omega arith

pub lowest_set : (n : ℕ) → n < 2 ^ 128 → trailing_zeros w128 n < 128 → IsBitSet n (trailing_zeros w128 n) × ((i : ℕ) → i < trailing_zeros w128 n → IsBitSet n i → ⊥)
lowest_set n h low = dite (ℕ_discrete n 0)
    (λ e. let d : trailing_zeros w128 n ≡ 128 = ap (trailing_zeros w128) e ∙ trailing_of_zero 128 in let z : ⊥ = omega arith in absurd z)
    (λ some_bit. let b = bit_at-trailing_zeros w128 n (omega arith) h in (set_bit n _ b.1, (λ i lt. no_bit n i (b.2 i lt))))

pub none_below : (n s : ℕ) → n < 2 ^ 128 → s ≤ trailing_zeros w128 n → (i : ℕ) → i < s → IsBitSet n i → ⊥
none_below n s h le i lt = dite (ℕ_discrete n 0)
    (λ e. no_bit n i (ap (λ (j : ℕ). bit_at j i) e ∙ bit_at-zero i))
    (λ some_bit. let b = bit_at-trailing_zeros w128 n (omega arith) h in no_bit n i (b.2 i (omega arith)))

-- each bit below 64 of the greatest u64
pub full_bit : (k : ℕ) → k < 64 → IsBitSet 18446744073709551615 k
full_bit k h = set_bit 18446744073709551615 k (bit_at_ones 64 k h)

-- the bits of two words, one above the other
pub low_bit : (a b k : ℕ) → a < 2 ^ 64 → k < 64 → IsBitSet (bit_or (a * 2 ^ 64 % 2 ^ 128) b) k ↔ IsBitSet b k
low_bit a b k la h =
    let e : a * 2 ^ 64 % 2 ^ 128 ≡ a * 2 ^ 64 + 0 = shl_whole a 64 64 128 la (omega arith) ∙ omega arith in
    let z : bit_at (a * 2 ^ 64 % 2 ^ 128) k ≡ 0 = ap (λ (n : ℕ). bit_at n k) e ∙ (bit_at_cat_low a 64 0 k h ∙ bit_at-zero k) in
    let d : bit_at (bit_or (a * 2 ^ 64 % 2 ^ 128) b) k ≡ bit_at b k = bit_at_or (a * 2 ^ 64 % 2 ^ 128) b k ∙ (ap (λ (n : ℕ). max n (bit_at b k)) z ∙ omega arith) in
    ((λ s. set_bit b k (sym d ∙ bit_set _ k s)), λ s. set_bit _ k (d ∙ bit_set b k s))

pub high_bit : (a b k : ℕ) → a < 2 ^ 64 → b < 2 ^ 64 → IsBitSet (bit_or (a * 2 ^ 64 % 2 ^ 128) b) (64 + k) ↔ IsBitSet a k
high_bit a b k la lb =
    let e : a * 2 ^ 64 % 2 ^ 128 ≡ a * 2 ^ 64 + 0 = shl_whole a 64 64 128 la (omega arith) ∙ omega arith in
    let y : bit_at (a * 2 ^ 64 % 2 ^ 128) (64 + k) ≡ bit_at a k = ap (λ (n : ℕ). bit_at n (64 + k)) e ∙ (bit_at_cat_high a 64 0 (64 + k) (omega arith) (omega arith) ∙ ap (bit_at a) (omega arith)) in
    let z : bit_at b (64 + k) ≡ 0 = bit_at_above b 64 (64 + k) lb (omega arith) in
    let d : bit_at (bit_or (a * 2 ^ 64 % 2 ^ 128) b) (64 + k) ≡ bit_at a k = bit_at_or (a * 2 ^ 64 % 2 ^ 128) b (64 + k) ∙ ((λ i. max (y i) (z i)) ∙ omega arith) in
    ((λ s. set_bit a k (sym d ∙ bit_set _ (64 + k) s)), λ s. set_bit _ (64 + k) (d ∙ bit_set a k s))

pub both_bits : (a b k : ℕ) → IsBitSet (bit_and a b) k ↔ (IsBitSet a k × IsBitSet b k)
both_bits a b k =
    let e = bit_at_and a b k in let x = bit_at-lt a k in let y = bit_at-lt b k in (
      (λ h. let d = bit_set (bit_and a b) k h in (set_bit a k (omega arith), set_bit b k (omega arith))),
      (λ h. let d = bit_set a k h.0 in let f = bit_set b k h.1 in set_bit (bit_and a b) k (omega arith)),
    )
