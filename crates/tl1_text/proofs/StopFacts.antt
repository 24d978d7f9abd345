-- Runs of bytes, by a mask of the bytes that end one.
use Rattle.std.proofs.Common.{◌≡◌, ◌≢◌, ℕ, zero, suc, ◌+◌, ◌-◌, ◌*◌, ◌/◌, ◌%◌, ◌^◌, ◌<◌, ◌≤◌, Bool, true, false, not, List, [], ◌∷◌, ◌++◌, map, length, take, drop, get_or, slice_range, cond, Fits, w8, bit_or, refl, sym, ap, ap₂, ◌∙◌, subst, arith}
use Rattle.std.proofs.lemmas.List.{length-map, length-take-le, take_all, drop-drop}
use Rattle.std.proofs.lemmas.List.Sums.{prefix_len_passes, prefix_len_stops}
use Rattle.std.proofs.Math.Nat.{div-one, zero-div, div-div-eq-div-mul, pow-suc, pow-zero, mul_comm, mul_assoc, mul-one, mod-eq_of_lt}
use Rattle.std.proofs.lemmas.Nat.{or_comm, or_shifted}
use Rattle.std.proofs.lemmas.Simd.{map-map, mask_l-lt, mask_l-mod, trailing_mask_l, leading_from_mask_l, length-chunk, get_or-chunk}
use Rattle.std.specs.List.{prefix_len}
use lib.Count.{count_trailing_zeros}
use lib.Lanes.{mask_l, chunk, top}
use lib.Pow.{pow_mono}
use Rattle.tl1_text.specs.Stops.{mask_of}
use Rattle.tl1_text.proofs.Slices.{two_parts}
use Rattle.tl1_text.proofs.Tables.{agree_below, agree_at}

halved : (b : Bool) (n : ℕ) → (cond b 1 0 + 2 * n) / 2 ≡ n
halved true n = omega arith
halved false n = omega arith

more_of : (c m y z : ℕ) → z ≡ y * 2 → c + 2 * (m + y) ≡ (c + 2 * m) + z
more_of c m y z e = omega (arith, e)

none_of : (m z : ℕ) → z ≡ m → m ≡ 0 + z
none_of m z e = omega (arith, e)

drop_range : (n s : ℕ) (xs : List ℕ) → drop s (take n xs) ≡ take (n - s) (drop s xs)
drop_range n zero xs = let same : n ≡ n - 0 = omega arith in ap (λ k. take k xs) same
drop_range zero (suc s) xs = let same : 0 ≡ zero - suc s = omega arith in ap (λ k. take k (drop (suc s) xs)) same
drop_range (suc n) (suc s) [] = sym (take_all (suc n - suc s) (drop (suc s) []) (omega arith))
drop_range (suc n) (suc s) (x ∷ xs) = let same : n - s ≡ suc n - suc s = omega arith in drop_range n s xs ∙ ap (λ k. take k (drop s xs)) same

range_behind : (text : List ℕ) (at n until : ℕ) → drop n (slice_range text at until) ≡ slice_range text (at + n) until
range_behind text at n until =
    let size : (until - at) - n ≡ until - (at + n) = omega arith in
    drop_range (until - at) n (drop at text) ∙ ap₂ (λ (k : ℕ) (l : List ℕ). take k l) size (drop-drop n at text)

same_tests : (f g : ℕ → Bool) → agree_below f g 256 ≡ true → (xs : List ℕ) → ((k : ℕ) → k < length xs → get_or xs k 0 < 256) → map f xs ≡ map g xs
same_tests f g all [] fits = refl
same_tests f g all (x ∷ xs) fits = ap₂ (λ (b : Bool) (l : List Bool). b ∷ l) (agree_at f g 256 all x (fits 0 (omega arith))) (same_tests f g all xs (λ k lt. fits (suc k) (omega (arith, lt))))

module _ (class : ℕ → Bool) where
  -- lanes that are set just where a byte is of the class
  pub mask_is : (d : List ℕ) (at : ℕ) (z : List ℕ) → at + 16 ≤ length d → ((k : ℕ) → Fits w8 (get_or d k 0)) → (f : ℕ → ℕ) → z ≡ map f (chunk at 16 d)
      → agree_below (λ x. top 7 (f x)) class 256 ≡ true → mask_l (map (top 7) z) % 2 ^ 64 ≡ mask_of class (slice_range d at (at + 16))
  mask_is d at z room fits f lanes all =
      let v = chunk at 16 d in
      let long : length v ≡ 16 = length-chunk at 16 d room in
      let below : (k : ℕ) → k < length v → get_or v k 0 < 256 = (λ k lt. omega (arith, get_or-chunk at 16 d k 0 (omega (arith, lt, long)), (fits (at + k)).fits)) in
      let size : 16 ≡ (at + 16) - at = omega arith in
      ap (λ l. mask_l l % 2 ^ 64) (ap (map (top 7)) lanes ∙ map-map (top 7) f v ∙ same_tests (λ x. top 7 (f x)) class all v below)
      ∙ mask_l-mod (map class v) 64 (omega (arith, length-map v class, long))
      ∙ ap (λ n. mask_of class (take n (drop at d))) size

  -- a mask without its lowest bits is that of the bytes after
  shifted : (s : ℕ) (v : List ℕ) → mask_of class v / 2 ^ s ≡ mask_of class (drop s v)
  shifted zero v = div-one (mask_of class v)
  shifted (suc s) [] = zero-div (2 ^ suc s)
  shifted (suc s) (b ∷ v) =
      ap (λ n. mask_of class (b ∷ v) / n) (pow-suc 2 s ∙ mul_comm (2 ^ s) 2) ∙ sym (div-div-eq-div-mul (mask_of class (b ∷ v)) 2 (2 ^ s)) ∙ ap (λ n. n / 2 ^ s) (halved (class b) (mask_of class v)) ∙ shifted s v

  pub behind : (text : List ℕ) (at n until rest : ℕ) → rest ≡ mask_of class (slice_range text at until) → rest / 2 ^ n ≡ mask_of class (slice_range text (at + n) until)
  behind text at n until rest is = ap (λ m. m / 2 ^ n) is ∙ shifted n (slice_range text at until) ∙ ap (mask_of class) (range_behind text at n until)

  pub behind_one : (text : List ℕ) (at n until rest : ℕ) → rest ≡ mask_of class (slice_range text at until) → rest / 2 ^ n / 2 ^ 1 ≡ mask_of class (slice_range text (at + n + 1) until)
  behind_one text at n until rest is = behind text (at + n) 1 until (rest / 2 ^ n) (behind text at n until rest is)

  -- a mask, and that of further bytes
  joined_mask : (xs ys : List ℕ) → mask_of class (xs ++ ys) ≡ mask_of class xs + mask_of class ys * 2 ^ length xs
  joined_mask [] ys = none_of (mask_of class ys) (mask_of class ys * 2 ^ 0) (ap (λ n. mask_of class ys * n) (pow-zero 2) ∙ mul-one (mask_of class ys))
  joined_mask (x ∷ xs) ys =
      let twice : mask_of class ys * 2 ^ suc (length xs) ≡ (mask_of class ys * 2 ^ length xs) * 2 = ap (λ n. mask_of class ys * n) (pow-suc 2 (length xs)) ∙ sym (mul_assoc (mask_of class ys) (2 ^ length xs) 2) in
      ap (λ n. cond (class x) 1 0 + 2 * n) (joined_mask xs ys) ∙ more_of (cond (class x) 1 0) (mask_of class xs) (mask_of class ys * 2 ^ length xs) (mask_of class ys * 2 ^ suc (length xs)) twice

  mask_lt : (xs : List ℕ) → mask_of class xs < 2 ^ length xs
  mask_lt xs = subst (λ n. mask_of class xs < 2 ^ n) (length-map xs class) (mask_l-lt (map class xs))

  pub with_more : (unit : List ℕ) (at n mask next : ℕ) → at + n ≤ length unit → length unit ≤ 64 → mask ≡ mask_of class (take at unit) → next ≡ mask_of class (take n (drop at unit))
      → bit_or mask (next * 2 ^ at % 2 ^ 64) ≡ mask_of class (take (at + n) unit)
  with_more unit at n mask next room few is next_is =
      let front : length (take at unit) ≡ at = length-take-le at unit (omega (arith, room)) in
      let low : mask < 2 ^ at = subst (λ k. mask < 2 ^ k) front (subst (λ m. m < 2 ^ length (take at unit)) (sym is) (mask_lt (take at unit))) in
      let whole : mask_of class (take (at + n) unit) ≡ mask + next * 2 ^ at =
      ap (mask_of class) (sym (two_parts unit at n)) ∙ joined_mask (take at unit) (take n (drop at unit))
      ∙ ap (λ k. mask_of class (take at unit) + mask_of class (take n (drop at unit)) * 2 ^ k) front
      ∙ ap₂ (λ a b. a + b * 2 ^ at) (sym is) (sym next_is) in
      let all : length (take (at + n) unit) ≤ 64 = omega (arith, length-take-le (at + n) unit room, room, few) in
      let fits : next * 2 ^ at < 2 ^ 64 = omega (arith, whole, mask_lt (take (at + n) unit), pow_mono all) in
      ap (λ m. bit_or mask m) (mod-eq_of_lt fits) ∙ or_comm mask (next * 2 ^ at) ∙ or_shifted next at mask low ∙ (omega (arith, whole))

  -- the first byte of the class, where there is one
  some_first : (v : List ℕ) → 0 < mask_of class v → prefix_len (λ x. not (class x)) v < length v
  some_first [] some = absurd (omega (arith, some))
  some_first (x ∷ v) some = by_test (class x) refl (λ later. some_first v later)
    where
      half : (m : ℕ) → 0 < 0 + 2 * m → 0 < m
      half m lt = omega (arith, lt)

      by_test : (b : Bool) → class x ≡ b → (0 < mask_of class v → prefix_len (λ y. not (class y)) v < length v) → prefix_len (λ y. not (class y)) (x ∷ v) < length (x ∷ v)
      by_test true is go = rw is (omega arith)
      by_test false is go = (let later : 0 < mask_of class v = half (mask_of class v) (rw is at some) in rw is (omega (arith, go later)))

  -- a run of bytes that aren't of the class, and one after it that is
  pub record IsRunTo (text : List ℕ) (at end : ℕ) : Type 0 where
    pub others : (k : ℕ) → at ≤ k → k < end → class (get_or text k 0) ≡ false
    pub stop : class (get_or text end 0) ≡ true

  module _ (text : List ℕ) (at until rest : ℕ) (is : rest ≡ mask_of class (slice_range text at until)) (within : until ≤ length text) where
    abbrev left : List ℕ
    left = slice_range text at until

    others_to : (n : ℕ) → at + n ≤ until → n ≤ prefix_len (λ x. not (class x)) left → (k : ℕ) → at ≤ k → k < at + n → class (get_or text k 0) ≡ false
    others_to n room le k from to =
        let back : at + (k - at) ≡ k = omega (arith, from) in
        let passes = prefix_len_passes (λ x. not (class x)) left (k - at) 0 (omega (arith, to, le, from)) in
        let place : get_or left (k - at) 0 ≡ get_or text k 0 = get_or-chunk at (until - at) text (k - at) 0 (omega (arith, to, from, room)) ∙ ap (λ j. get_or text j 0) back in
        subst (λ x. class x ≡ false) place (not_not (class (get_or left (k - at) 0)) passes)
      where
        not_not : (b : Bool) → not b ≡ true → b ≡ false
        not_not true is = cc
        not_not false is = refl

    long : at ≤ until → length left ≡ until - at
    long le = length-chunk at (until - at) text (omega (arith, le, within))

    pub no_more : at ≤ until → rest ≡ 0 → (k : ℕ) → at ≤ k → k < until → class (get_or text k 0) ≡ false
    no_more le none k from to =
        let size = long le in
        let whole = leading_from_mask_l class left (sym is ∙ none) in
        others_to (until - at) (omega (arith, le)) (omega (arith, whole, size)) k from (omega (arith, to, le))

    pub first_is : (n : ℕ) → at ≤ until → until ≤ at + 64 → rest ≢ 0 → n ≡ count_trailing_zeros 64 rest → (at + n < until) × IsRunTo text at (at + n)
    first_is n le few some found =
        let size = long le in
        let set : 0 < mask_of class left = positive (mask_of class left) (λ none. some (is ∙ none)) in
        let first : n ≡ prefix_len (λ x. not (class x)) left = found ∙ ap (count_trailing_zeros 64) is ∙ trailing_mask_l class 64 left (omega (arith, size, few)) set in
        let inside : n < until - at = omega (arith, first, some_first left set, size) in
        let stops = prefix_len_stops (λ x. not (class x)) left 0 (some_first left set) in
        let place : get_or left (prefix_len (λ x. not (class x)) left) 0 ≡ get_or text (at + n) 0 = ap (λ j. get_or left j 0) (sym first) ∙ get_or-chunk at (until - at) text n 0 inside in (
          omega (arith, inside, le),
          record {
            others = others_to n (omega (arith, inside, le)) (omega (arith, first));
            stop = subst (λ x. class x ≡ true) place (no_not (class (get_or left (prefix_len (λ x. not (class x)) left) 0)) stops);
          },
        )
      where
        positive : (m : ℕ) → m ≢ 0 → 0 < m
        positive zero some = absurd (some refl)
        positive (suc m) some = omega arith

        no_not : (b : Bool) → not b ≡ false → b ≡ true
        no_not true is = refl
        no_not false is = cc

pub whole : (unit : List ℕ) → slice_range unit 0 (length unit) ≡ unit
whole unit = take_all (length unit - 0) unit (omega arith)
