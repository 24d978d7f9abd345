-- The rows of those numbers from 0 that pass a test, one after the other.
use Rattle.std.proofs.Common.{◌≡◌, ℕ, ◌+◌, ◌<◌, ◌≤◌, Bool, List, [], ◌∷◌, length, slice_index_or, map, take, sym, subst, arith}
use Rattle.std.specs.Prelude.{filter}
use Rattle.std.specs.List.{range_with_len}
use Rattle.std.proofs.lemmas.List.{take_all}
use Rattle.std.proofs.lemmas.List.FromFn.{get_or-range_with_len, length-range_with_len}
use Rattle.dxc_outside.specs.declared.send.Sent.{Sent}
use Rattle.dxc_outside.specs.declared.send.Sent.TheVariants.{Cut}
use Rattle.dxc_outside.specs.Links.{LinkState}
use Rattle.tl1_answer.specs.Blocks.{Draft}
use Rattle.craft_session.specs.Responses.{Filled, Fills}
use Rattle.craft_session.proofs.FillSteps.{cut_passed, fills_passed}

module _ (p : ℕ → Bool) (f : ℕ → List ℕ) (n at : ℕ) where
  abbrev passed : List ℕ → List (List ℕ)
  passed xs = map f (filter p xs)

  within : at < n → at < length (range_with_len 0 n)
  within lt = let long = length-range_with_len 0 n in omega (arith, lt, long)

  number_is : at < n → slice_index_or (range_with_len 0 n) at 0 ≡ at
  number_is lt = let is = get_or-range_with_len 0 n at 0 lt in omega (arith, is)

  module _ (lt : at < n) (told : Type 0) (k j m : LinkState) (old mid new : Draft) (sent : Sent) (first : Filled told k j old mid (passed (take at (range_with_len 0 n)))) (next : Fills told j m sent mid new (passed (at ∷ []))) where
    there : Fills told j m sent mid new (passed (slice_index_or (range_with_len 0 n) at 0 ∷ []))
    there = subst (λ (x : ℕ). Fills told j m sent mid new (passed (x ∷ []))) (sym (number_is lt)) next

    pub fills_number : Fills told k m sent old new (passed (take (at + 1) (range_with_len 0 n)))
    fills_number = fills_passed p f 0 (range_with_len 0 n) at (within lt) told k j m old mid new sent first there

    pub cut_number : sent ≡ Cut → Fills told k m Cut old new (passed (range_with_len 0 n))
    cut_number cut = cut_passed p f 0 (range_with_len 0 n) at (within lt) told k j m old mid new sent cut first there

  -- all of them
  pub filled_numbers : (told : Type 0) (k j : LinkState) (old new : Draft) → n ≤ at → Filled told k j old new (passed (take at (range_with_len 0 n))) → Filled told k j old new (passed (range_with_len 0 n))
  filled_numbers told k j old new past filled =
      let long = length-range_with_len 0 n in
      let few : length (range_with_len 0 n) ≤ at = omega (arith, long, past) in
      subst (λ (xs : List ℕ). Filled told k j old new (passed xs)) (take_all at (range_with_len 0 n) few) filled
