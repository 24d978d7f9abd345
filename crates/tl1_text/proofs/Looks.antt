-- From the mask of sixteen bytes to the run in front of its first bit.
use Rattle.std.proofs.Common.{◌≡◌, ◌≢◌, ℕ, zero, suc, ◌+◌, ◌%◌, ◌^◌, ◌<◌, ◌≤◌, Bool, true, false, not, cond, List, [], ◌∷◌, ◌++◌, map, length, get_or, take, drop, refl, sym, ap, ap₂, ◌∙◌, subst, arith, inl, inr}
use Rattle.std.proofs.lemmas.Bool.{cases_eq, eq-eqb, ne_eqb, cond-true, cond-false}
use Rattle.std.proofs.lemmas.Simd.{map-map, mask_l-mod, length-chunk, leading_from_mask_l, trailing_mask_l}
use Rattle.std.proofs.lemmas.List.{length-map, take_more}
use Rattle.std.proofs.lemmas.List.Sums.{prefix_len-le-length}
use Rattle.std.specs.List.{prefix_len}
use lib.Lanes.{chunk, zip2, mask_l, top}
use Rattle.tl1_text.specs.Reading.{IsRun, first_set}
use Rattle.tl1_text.proofs.Runs.{run_front}
use Rattle.tl1_text.proofs.Slices.{two_parts}

zip2-map : (h : ℕ → ℕ → ℕ) (f g : ℕ → ℕ) (xs : List ℕ) → zip2 h (map f xs) (map g xs) ≡ map (λ x. h (f x) (g x)) xs
zip2-map h f g [] = refl
zip2-map h f g (x ∷ xs) = ap (λ (r : List ℕ). h (f x) (g x) ∷ r) (zip2-map h f g xs)

-- an operation on two vectors that were computed lane by lane from v
pub joined : (h : ℕ → ℕ → ℕ) (f g : ℕ → ℕ) (v : List ℕ) {a b : List ℕ} → a ≡ map f v → b ≡ map g v → zip2 h a b ≡ map (λ x. h (f x) (g x)) v
joined h f g v p q = ap₂ (zip2 h) p q ∙ zip2-map h f g v

run_is : (p : ℕ → Bool) (v : List ℕ) (n : ℕ) → length v ≡ n → n ≤ 64 → first_set (mask_l (map p v)) n ≡ prefix_len (λ x. not (p x)) v
run_is p v n long few =
    elim (cases_eq (mask_l (map p v)) 0) [
      | inl none ↦ cond-true _ _ _ (eq-eqb _ _ none) ∙ sym (leading_from_mask_l p v none ∙ long)
      | inr some ↦ cond-false _ _ _ (ne_eqb _ _ some) ∙ trailing_mask_l p 64 v (omega arith) (omega arith)
    ]

-- the bytes in front of the first at which a test stops are a run
module _ (stops : ℕ → Bool) (semicolon : stops 59 ≡ true) (quote : stops 34 ≡ true) where
  pub not_stopped : (x b : ℕ) → stops b ≡ true → stops x ≡ false → x ≢ b
  not_stopped x b stop on same = no_both (stops b) stop (subst (λ (n : ℕ). stops n ≡ false) same on)
    where
      no_both : (c : Bool) → c ≡ true → c ≡ false → ⊥
      no_both true is not = cc
      no_both false is not = cc

  prefix_by : (x : ℕ) (v : List ℕ) (b : Bool) → stops x ≡ b → IsRun (take (prefix_len (λ y. not (stops y)) v) v) → IsRun (take (cond (not b) (1 + prefix_len (λ y. not (stops y)) v) 0) (x ∷ v))
  prefix_by x v true is rest = tt
  prefix_by x v false is rest =
      let more : IsRun (take (suc (prefix_len (λ y. not (stops y)) v)) (x ∷ v)) = (not_stopped x 59 semicolon is, not_stopped x 34 quote is, rest) in
      let same : suc (prefix_len (λ y. not (stops y)) v) ≡ 1 + prefix_len (λ y. not (stops y)) v = omega arith in
      subst (λ (k : ℕ). IsRun (take k (x ∷ v))) same more

  prefix_run : (v : List ℕ) → IsRun (take (prefix_len (λ x. not (stops x)) v) v)
  prefix_run [] = tt
  prefix_run (x ∷ v) = prefix_by x v (stops x) refl (prefix_run v)

-- a run in the front of a text is one of the text
pub front_of_front : (k n : ℕ) (text : List ℕ) → k ≤ n → take k (take n text) ≡ take k text
front_of_front zero n text le = refl
front_of_front (suc k) zero text le = absurd (omega (arith, le))
front_of_front (suc k) (suc n) [] le = refl
front_of_front (suc k) (suc n) (b ∷ text) le = ap (λ (l : List ℕ). b ∷ l) (front_of_front k n text (omega (arith, le)))

module _ (text : List ℕ) (at r : ℕ) (z : List ℕ) (room : at + 16 ≤ length text) (found : r ≡ first_set (mask_l (map (top 7) z) % 2 ^ 64) 16)
    (f : ℕ → ℕ) (lanes : z ≡ map f (chunk at 16 text)) (semicolon : top 7 (f 59) ≡ true) (quote : top 7 (f 34) ≡ true) where
  abbrev stops : ℕ → Bool
  stops x = top 7 (f x)

  long : length (chunk at 16 text) ≡ 16
  long = length-chunk at 16 text room

  pub counted : r ≡ prefix_len (λ x. not (stops x)) (chunk at 16 text)
  counted =
      let v = chunk at 16 text in
      let mask = ap (λ (l : List Bool). mask_l l % 2 ^ 64) (ap (map (top 7)) lanes ∙ map-map (top 7) f v) ∙ mask_l-mod (map stops v) 64 (omega (arith, length-map v stops, long)) in
      found ∙ ap (λ (m : ℕ). first_set m 16) mask ∙ run_is stops v 16 long (omega arith)

  pub look_within : r ≤ 16
  look_within = omega (arith, counted, long, prefix_len-le-length (λ x. not (stops x)) (chunk at 16 text))

  pub look_run : IsRun (take r (drop at text))
  look_run =
      let run : IsRun (take r (chunk at 16 text)) = subst (λ (n : ℕ). IsRun (take n (chunk at 16 text))) (sym counted) (prefix_run stops semicolon quote (chunk at 16 text)) in
      subst (λ (l : List ℕ). IsRun l) (front_of_front r 16 (drop at text) look_within) run

run_append : (xs ys : List ℕ) → IsRun xs → IsRun ys → IsRun (xs ++ ys)
run_append [] ys first next = next
run_append (x ∷ xs) ys first next = (first.0, first.1, run_append xs ys first.2 next)

-- a run, and one after it
pub run_further : (text : List ℕ) (a b : ℕ) → IsRun (take a text) → IsRun (take b (drop a text)) → IsRun (take (a + b) text)
run_further text a b first next = subst (λ (l : List ℕ). IsRun l) (two_parts text a b) (run_append (take a text) (take b (drop a text)) first next)

-- a run, and one byte after it
pub run_more : (text : List ℕ) (at : ℕ) → at < length text → IsRun (take at text) → get_or text at 0 ≢ 59 → get_or text at 0 ≢ 34 → IsRun (take (at + 1) text)
run_more text at lt run semicolon quote = subst (λ (l : List ℕ). IsRun l) (sym (take_more text at 0 lt)) (run_append (take at text) (get_or text at 0 ∷ []) run (semicolon, quote, tt))

-- a run up to a place, and one that begins before it
pub run_again : (text : List ℕ) (at from b : ℕ) → from ≤ at → IsRun (take at text) → IsRun (take b (drop from text)) → IsRun (take (from + b) text)
run_again text at from b le first next =
    run_further text from b (subst (λ (l : List ℕ). IsRun l) (front_of_front from at text le) (run_front from (take at text) first)) next
