-- Numbers below 100 in decimal.
use Rattle.std.proofs.Common.{◌≡◌, ℕ, ◌+◌, ◌-◌, ◌*◌, ◌/◌, ◌%◌, ◌^◌, ◌<◌, ◌≤◌, Bool, true, false, List, [], ◌∷◌, ◌++◌, length, nat_le, nat_lt, ◌==◌, ◌&&◌, if◌then◌else◌, Option, Some, None, position, decimal, refl, sym, ◌∙◌, ap, ap₂, arith}
use Rattle.std.specs.Option.{option_and_then}
use Rattle.std.specs.Int.{is_in_range}
use Rattle.std.specs.List.{list_all, position_or_len}
use Rattle.std.proofs.lemmas.Bool.Decides.{nat_tests}
use Rattle.std.proofs.lemmas.Fmt.{decimal_digit, decimal_step}
use Rattle.std.proofs.lemmas.Nat.{div-mul-add, mod-mul-add}
use Rattle.dxc_aid.specs.Names.{number_of, up_to}

-- one digit, or two
pub data Digits (n : ℕ) : List ℕ → Type 0 where
  one_digit : n < 10 → Digits n ((48 + n) ∷ [])
  two_digits : 10 ≤ n → n ≤ 99 → Digits n ((48 + n / 10) ∷ (48 + n % 10) ∷ [])

tens : (n : ℕ) → n ≤ 99 → n / 10 < 10
tens n le = omega (arith, le)

pub decimal_one : (n : ℕ) → n < 10 → decimal n ≡ (48 + n) ∷ []
decimal_one n lt = decimal_digit n lt

pub decimal_two : (n : ℕ) → 10 ≤ n → n < 100 → decimal n ≡ (48 + n / 10) ∷ (48 + n % 10) ∷ []
decimal_two n ge lt =
    let fits : n < 2 ^ 64 = omega (arith, lt) in
    rw (decimal_step n ge fits, decimal_digit (n / 10) (tens n (omega (arith, lt)))) (refl)

by_size : (n : ℕ) (c : Bool) → nat_lt n 10 ≡ c → n ≤ 99 → Digits n (decimal n)
by_size n true c_is le =
    let lt : n < 10 = (let test : nat_lt n 10 ≡ true = c_is in grind (arith, nat_tests, test)) in
    rw (decimal_digit n lt) (one_digit lt)
by_size n false c_is le =
    let ge : 10 ≤ n = (let test : nat_lt n 10 ≡ false = c_is in grind (arith, nat_tests, test)) in
    let fits : n < 2 ^ 64 = omega (arith, le) in
    rw (decimal_step n ge fits, decimal_digit (n / 10) (tens n le)) (two_digits ge le)

pub digits_of : (n : ℕ) → n ≤ 99 → Digits n (decimal n)
digits_of n le = by_size n (nat_lt n 10) refl le

read_digits : (n : ℕ) (t : List ℕ) → Digits n t → 1 ≤ n → number_of t ≡ Some n
read_digits n _ (one_digit lt) least =
    let test : is_in_range 49 57 (48 + n) ≡ true = grind (arith, nat_tests, lt, least) in
    let same : (48 + n) - 48 ≡ n = omega arith in
    rw (test, same) (refl)
read_digits n _ (two_digits ge le) least =
    let first : is_in_range 49 57 (48 + n / 10) ≡ true = (let lo : 1 ≤ n / 10 = omega (arith, ge) in let hi : n / 10 < 10 = tens n le in grind (arith, nat_tests, lo, hi)) in
    let second : is_in_range 48 57 (48 + n % 10) ≡ true = (let hi : n % 10 < 10 = omega arith in grind (arith, nat_tests, hi)) in
    let same : ((48 + n / 10) - 48) * 10 + ((48 + n % 10) - 48) ≡ n = omega arith in
    rw (first, second, same) (refl)

-- a number is read as it is written
pub number_read : (n : ℕ) → 1 ≤ n → n ≤ 99 → number_of (decimal n) ≡ Some n
number_read n least le = read_digits n (decimal n) (digits_of n le) least

pub record Written (t : List ℕ) (n : ℕ) : Type 0 where
  pub text : t ≡ decimal n
  pub least : 1 ≤ n
  pub most : n ≤ 99

one_written : (c : Bool) (b n : ℕ) → is_in_range 49 57 b ≡ c → (if c then Some (b - 48) else None) ≡ Some n → Written (b ∷ []) n
one_written true b n c_is is =
    let same : b - 48 ≡ n = cc in
    let lo : 49 ≤ b = (let test : is_in_range 49 57 b ≡ true = c_is in grind (arith, nat_tests, test)) in
    let hi : b ≤ 57 = (let test : is_in_range 49 57 b ≡ true = c_is in grind (arith, nat_tests, test)) in
    let back : 48 + n ≡ b = omega (arith, same, lo) in
    record {
      text = sym (decimal_digit n (omega (arith, same, hi)) ∙ ap (λ (x : ℕ). x ∷ []) back);
      least = omega (arith, same, lo);
      most = omega (arith, same, hi);
    }
one_written false b n c_is is = cc

two_written : (c d : Bool) (a b n : ℕ) → is_in_range 49 57 a ≡ c → is_in_range 48 57 b ≡ d → (if c && d then Some ((a - 48) * 10 + (b - 48)) else None) ≡ Some n → Written (a ∷ b ∷ []) n
two_written true true a b n c_is d_is is =
    let same : (a - 48) * 10 + (b - 48) ≡ n = cc in
    let alo : 49 ≤ a = (let test : is_in_range 49 57 a ≡ true = c_is in grind (arith, nat_tests, test)) in
    let ahi : a ≤ 57 = (let test : is_in_range 49 57 a ≡ true = c_is in grind (arith, nat_tests, test)) in
    let blo : 48 ≤ b = (let test : is_in_range 48 57 b ≡ true = d_is in grind (arith, nat_tests, test)) in
    let bhi : b ≤ 57 = (let test : is_in_range 48 57 b ≡ true = d_is in grind (arith, nat_tests, test)) in
    let ge : 10 ≤ n = omega (arith, same, alo) in
    let le : n ≤ 99 = omega (arith, same, ahi, bhi) in
    let fits : n < 2 ^ 64 = omega (arith, le) in
    let high : n / 10 ≡ a - 48 = ap (λ (x : ℕ). x / 10) (sym same) ∙ div-mul-add (a - 48) 10 (b - 48) (omega (arith, bhi)) in
    let low : n % 10 ≡ b - 48 = ap (λ (x : ℕ). x % 10) (sym same) ∙ mod-mul-add (a - 48) 10 (b - 48) (omega (arith, bhi)) in
    let one : 48 + n / 10 ≡ a = omega (arith, high, alo) in
    let two : 48 + n % 10 ≡ b = omega (arith, low, blo) in
    record {
      text = sym (decimal_step n ge fits ∙ ap (λ (l : List ℕ). l ++ (48 + n % 10) ∷ []) (decimal_digit (n / 10) (tens n le)) ∙ ap₂ (λ (x y : ℕ). x ∷ y ∷ []) one two);
      least = omega (arith, ge);
      most = le;
    }
two_written true false a b n c_is d_is is = cc
two_written false d a b n c_is d_is is = cc

-- what is read as a number writes it
pub number_written : (t : List ℕ) (n : ℕ) → number_of t ≡ Some n → Written t n
number_written [] n is = cc
number_written (b ∷ []) n is = one_written (is_in_range 49 57 b) b n refl is
number_written (a ∷ b ∷ []) n is = two_written (is_in_range 49 57 a) (is_in_range 48 57 b) a b n refl refl is
number_written (a ∷ b ∷ c ∷ more) n is = cc

-- a number that is at most so much
kept : (m x n : ℕ) (c : Bool) → nat_le x m ≡ c → (if c then Some x else None) ≡ Some n → (Some x ≡ Some n) × (n ≤ m)
kept m x n true c_is is =
    let same : x ≡ n = cc in
    let le : x ≤ m = (let test : nat_le x m ≡ true = c_is in grind (arith, nat_tests, test)) in
    (is, omega (arith, same, le))
kept m x n false c_is is = cc

pub up_to_is : (m n : ℕ) (o : Option ℕ) → option_and_then (up_to m) o ≡ Some n → (o ≡ Some n) × (n ≤ m)
up_to_is m n None is = cc
up_to_is m n (Some x) is = kept m x n (nat_le x m) refl is

pub up_to_has : (m n : ℕ) → n ≤ m → up_to m n ≡ Some n
up_to_has m n le = let test : nat_le n m ≡ true = grind (arith, nat_tests, le) in rw test (refl)

-- a text of digits and dashes has no letters
abbrev pub no_letters : List ℕ → Bool
no_letters t = list_all (λ b. nat_lt b 65) t

pub digits_no_letters : (n : ℕ) (t rest : List ℕ) → Digits n t → no_letters rest ≡ true → no_letters (t ++ rest) ≡ true
digits_no_letters n _ rest (one_digit lt) is = let test : nat_lt (48 + n) 65 ≡ true = grind (arith, nat_tests, lt) in rw test (is)
digits_no_letters n _ rest (two_digits ge le) is =
    let first : nat_lt (48 + n / 10) 65 ≡ true = (let hi = tens n le in grind (arith, nat_tests, hi)) in
    let second : nat_lt (48 + n % 10) 65 ≡ true = (let hi : n % 10 < 10 = omega arith in grind (arith, nat_tests, hi)) in
    rw (first, second) (is)

at_first : (p : ℕ → Bool) (t : List ℕ) (i : ℕ) → i < length t → position_or_len p t ≡ i → position p t ≡ Some i
at_first p t i lt is = let test : nat_lt i (length t) ≡ true = grind (arith, nat_tests, lt) in rw (is, test) (refl)

no_dash : (x : ℕ) → 48 ≤ x → (x == 45) ≡ false
no_dash x le = grind (arith, nat_tests, le)

-- the first dash after digits
pub dash_behind : (n : ℕ) (t rest : List ℕ) → Digits n t → position (λ b. b == 45) (t ++ 45 ∷ rest) ≡ Some (length t)
dash_behind n _ rest (one_digit lt) = at_first (λ b. b == 45) ((48 + n) ∷ 45 ∷ rest) 1 (omega arith) (rw (no_dash (48 + n) (omega arith)) (refl))
dash_behind n _ rest (two_digits ge le) = at_first (λ b. b == 45) ((48 + n / 10) ∷ (48 + n % 10) ∷ 45 ∷ rest) 2 (omega arith) (rw (no_dash (48 + n / 10) (omega arith), no_dash (48 + n % 10) (omega arith)) (refl))
