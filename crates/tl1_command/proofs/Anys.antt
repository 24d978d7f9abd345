-- A test of any element from a place on, one element at a time.
use Rattle.std.proofs.Common.{◌≡◌, ℕ, zero, suc, ◌+◌, ◌<◌, ◌≤◌, Bool, true, false, List, [], ◌∷◌, ◌||◌, ◌==◌, length, map, drop, slice_index_or, refl, ◌∙◌, ap, arith}
use Rattle.std.specs.List.{list_any}
use Rattle.std.proofs.lemmas.Bool.Decides.{nat_tests}
use Rattle.tl1_command.specs.Blocks.{is_there}

step : {X Y : Type 0} (f : X → Y) (P : Y → Bool) (d : X) (xs : List X) (n : ℕ) → n < length xs
    → list_any P (drop n (map f xs)) ≡ (P (f (slice_index_or xs n d)) || list_any P (drop (n + 1) (map f xs)))
step f P d [] n lt = absurd (omega (arith, lt))
step f P d (x ∷ xs) zero lt = refl
step f P d (x ∷ xs) (suc n) lt =
    let e : suc n + 1 ≡ suc (n + 1) = omega arith in
    rw e (step f P d xs n (omega (arith, lt)))

-- the element has it
pub any_here : {X Y : Type 0} (f : X → Y) (P : Y → Bool) (d : X) (xs : List X) (n : ℕ) → n < length xs → P (f (slice_index_or xs n d)) ≡ true → list_any P (drop n (map f xs)) ≡ true
any_here f P d xs n lt is = step f P d xs n lt ∙ ap (λ (b : Bool). b || list_any P (drop (n + 1) (map f xs))) is

-- it hasn't
pub any_later : {X Y : Type 0} (f : X → Y) (P : Y → Bool) (d : X) (xs : List X) (n : ℕ) → n < length xs → P (f (slice_index_or xs n d)) ≡ false → list_any P (drop n (map f xs)) ≡ list_any P (drop (n + 1) (map f xs))
any_later f P d xs n lt is = step f P d xs n lt ∙ ap (λ (b : Bool). b || list_any P (drop (n + 1) (map f xs))) is

pub there : (t : List ℕ) → (length t == 0) ≡ false → is_there t ≡ true
there [] is = cc
there (b ∷ t) is = refl

pub not_there : (t : List ℕ) → (length t == 0) ≡ true → is_there t ≡ false
not_there [] is = refl
not_there (b ∷ t) is = absurd (long t is)
  where
    long : (t : List ℕ) → (length (b ∷ t) == 0) ≡ true → ⊥
    long t is = let none : length (b ∷ t) ≡ 0 = grind (arith, nat_tests, is) in omega (arith, none)

-- the same of a plain list
plain_step : {Y : Type 0} (P : Y → Bool) (d : Y) (ys : List Y) (n : ℕ) → n < length ys → list_any P (drop n ys) ≡ (P (slice_index_or ys n d) || list_any P (drop (n + 1) ys))
plain_step P d [] n lt = absurd (omega (arith, lt))
plain_step P d (y ∷ ys) zero lt = refl
plain_step P d (y ∷ ys) (suc n) lt =
    let e : suc n + 1 ≡ suc (n + 1) = omega arith in
    rw e (plain_step P d ys n (omega (arith, lt)))

pub plain_here : {Y : Type 0} (P : Y → Bool) (d : Y) (ys : List Y) (n : ℕ) → n < length ys → P (slice_index_or ys n d) ≡ true → list_any P (drop n ys) ≡ true
plain_here P d ys n lt is = plain_step P d ys n lt ∙ ap (λ (b : Bool). b || list_any P (drop (n + 1) ys)) is

pub plain_later : {Y : Type 0} (P : Y → Bool) (d : Y) (ys : List Y) (n : ℕ) → n < length ys → P (slice_index_or ys n d) ≡ false → list_any P (drop n ys) ≡ list_any P (drop (n + 1) ys)
plain_later P d ys n lt is = plain_step P d ys n lt ∙ ap (λ (b : Bool). b || list_any P (drop (n + 1) ys)) is

pub plain_past : {Y : Type 0} (P : Y → Bool) (ys : List Y) (n : ℕ) → length ys ≤ n → list_any P (drop n ys) ≡ false
plain_past P [] zero le = refl
plain_past P [] (suc n) le = refl
plain_past P (y ∷ ys) zero le = absurd (omega (arith, le))
plain_past P (y ∷ ys) (suc n) le = plain_past P ys n (omega (arith, le))
