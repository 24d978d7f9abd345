-- The first comma of a part of a text, by its place.
use Rattle.std.proofs.Common.{◌≡◌, ◌≢◌, ℕ, ◌+◌, ◌-◌, ◌<◌, ◌≤◌, ◌==◌, Bool, true, false, List, length, nat_lt, slice_index, slice_range, Some, None, position, refl, sym, ap, ◌∙◌, subst, arith, inl, inr}
use Rattle.std.specs.List.{position_or_len}
use Rattle.std.proofs.lemmas.Bool.{cases_lt, ne_eqb}
use Rattle.std.proofs.lemmas.Bool.Decides.{nat_tests}
use Rattle.std.proofs.lemmas.List.Sums.{position_or_len_is}
use Rattle.std.proofs.lemmas.Simd.{length-chunk, get_or-chunk}

abbrev is_comma : ℕ → Bool
is_comma b = b == 44

module _ (text : List ℕ) (from to at : ℕ) (low : from ≤ at) (high : at ≤ to) (within : to ≤ length text)
    (front : (k : ℕ) → from ≤ k → k < at → is_comma (slice_index text k) ≡ false) (stop : at < to → is_comma (slice_index text at) ≡ true) where
  abbrev part : List ℕ
  part = slice_range text from to

  size : length part ≡ to - from
  size = length-chunk from (to - from) text (omega (arith, low, high, within))

  first : position_or_len is_comma part ≡ at - from
  first = position_or_len_is is_comma part (at - from) 0 (omega (arith, low, high, size))
      (λ k lt. subst (λ (b : ℕ). is_comma b ≡ false) (sym (get_or-chunk from (to - from) text k 0 (omega (arith, lt, high, low)))) (front (from + k) (omega arith) (omega (arith, lt, low))))
      (λ lt. let back : from + (at - from) ≡ at = omega (arith, low) in subst (λ (b : ℕ). is_comma b ≡ true) (sym (get_or-chunk from (to - from) text (at - from) 0 (omega (arith, lt, size)) ∙ ap (slice_index text) back)) (stop (omega (arith, lt, size, low))))

  pub in_part : at < to → at - from < length part
  in_part lt = omega (arith, size, lt, low)

  pub comma_none : at ≡ to → position is_comma part ≡ None
  comma_none same =
      let test : nat_lt (at - from) (length part) ≡ false = (let eq : length part ≡ at - from = omega (arith, size, same) in grind (arith, nat_tests, eq)) in
      rw (first, test) (refl)

  pub comma_some : at < to → position is_comma part ≡ Some (at - from)
  comma_some lt =
      let test : nat_lt (at - from) (length part) ≡ true = (let less : at - from < length part = omega (arith, size, lt, low) in grind (arith, nat_tests, less)) in
      rw (first, test) (refl)

-- no comma up to a place, and none at it
pub further : (text : List ℕ) (from at : ℕ) → ((k : ℕ) → from ≤ k → k < at → is_comma (slice_index text k) ≡ false) → slice_index text at ≢ 44
    → (k : ℕ) → from ≤ k → k < at + 1 → is_comma (slice_index text k) ≡ false
further text from at front here k low lt = elim (cases_lt k at) [
  | inl below ↦ front k low below
  | inr beyond ↦ (let same : at ≡ k = omega (arith, lt, beyond) in subst (λ (n : ℕ). is_comma (slice_index text n) ≡ false) same (ne_eqb (slice_index text at) 44 here))
]
