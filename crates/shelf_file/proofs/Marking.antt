-- Lists of module numbers, one more value at a time.
use Rattle.std.proofs.Common.{◌≡◌, ◌≢◌, ℕ, ◌+◌, ◌<◌, suc, arith, Bool, true, false, not, ◌&&◌, ◌||◌, ◌==◌, List, [], ◌∷◌, ◌++◌, Option, Some, None, map, take, drop, length, get_or, inl, inr, refl, sym, ap, ap₂, ◌∙◌, subst}
use Rattle.std.specs.Prelude.{option_to_list}
use Rattle.std.specs.List.{list_all, list_any, range_with_len}
use Rattle.std.proofs.lemmas.Bool.{eq-eqb}
use Rattle.std.proofs.lemmas.Bool.Decides.{eqb_tells}
use Rattle.std.proofs.lemmas.List.{take_more, map-append}
use Rattle.std.proofs.lemmas.List.FromFn.{length-range_with_len, get_or-range_with_len}
use Rattle.std.proofs.lemmas.List.Folds.{list_any_at, list_any-append, list_all-append}
use Rattle.std.proofs.lemmas.Grind.{flat_map-append}
use Rattle.std.proofs.Math.Seq.{split_at}
use Rattle.toml.specs.Data.{Data}
use Rattle.toml.specs.View.{view}
use Rattle.toml.specs.declared.value.Value.{Value}
use Rattle.dxc_model.specs.Equipment.{has_bit}
use Rattle.dxc_model.proofs.Bools.{true_false, and_true}
use Rattle.shelf_file.specs.Keys.{number_of, names_module, numbers_in, are_different, are_modules}
use Rattle.shelf_file.specs.Contents.{Marks, AreMarked, named_in}

pub values_split : (xs : List Value) (i : ℕ) (x : Value) → i < length xs → x ≡ get_or xs i x → map view xs ≡ map view (take i xs) ++ view x ∷ map view (drop (suc i) xs)
values_split xs i x l e = ap (map view) (split_at xs i x l) ∙ (map-append view (take i xs) (get_or xs i x ∷ drop (suc i) xs) ∙ ap (λ (y : Value). map view (take i xs) ++ view y ∷ map view (drop (suc i) xs)) (sym e))

pub values_more : (xs : List Value) (i : ℕ) (x : Value) → i < length xs → x ≡ get_or xs i x → map view (take (i + 1) xs) ≡ map view (take i xs) ++ view x ∷ []
values_more xs i x l e = ap (map view) (take_more xs i x l) ∙ (map-append view (take i xs) (get_or xs i x ∷ []) ∙ ap (λ (y : Value). map view (take i xs) ++ view y ∷ []) (sym e))

numbers_with : (ds : List Data) (d : Data) (n : ℕ) (es : List Data) → number_of d ≡ Some n → numbers_in (ds ++ d ∷ es) ≡ numbers_in ds ++ n ∷ numbers_in es
numbers_with ds d n es e = flat_map-append (λ c. option_to_list (number_of c)) ds (d ∷ es) ∙ ap (λ (o : Option ℕ). numbers_in ds ++ (option_to_list o ++ numbers_in es)) e

pub and_both : (a b : Bool) → a ≡ true → b ≡ true → (a && b) ≡ true
and_both true b e f = f
and_both false b e f = absurd (true_false (sym e))

and_second : (a b : Bool) → b ≡ false → (a && b) ≡ false
and_second true b e = e
and_second false b e = refl

or_either : (a b : Bool) → (a || b) ≡ false → (a ≡ false) × (b ≡ false)
or_either true b e = absurd (true_false e)
or_either false b e = (refl, e)

or_neither : (a b : Bool) → a ≡ false → b ≡ false → (a || b) ≡ false
or_neither a b e f = ap₂ (λ c d. c || d) e f

not_of : (b : Bool) → not b ≡ true → b ≡ false
not_of true e = absurd (true_false (sym e))
not_of false e = refl

unequal_back : (a n : ℕ) → (a == n) ≡ false → (n == a) ≡ false
unequal_back a n e = elim (eqb_tells n a) [ inl h ↦ absurd (true_false (sym (eq-eqb a n (sym h.1)) ∙ e)) | inr h ↦ h.0 ]

different_more : (ns : List ℕ) (n : ℕ) → are_different ns ≡ true → list_any (λ k. k == n) ns ≡ false → are_different (ns ++ n ∷ []) ≡ true
different_more [] n d e = refl
different_more (a ∷ xs) n d e = let b = and_true (not (list_any (λ k. k == a) xs)) (are_different xs) d in let c = or_either (a == n) (list_any (λ k. k == n) xs) e in
    and_both (not (list_any (λ k. k == a) (xs ++ n ∷ []))) (are_different (xs ++ n ∷ []))
    (ap not (list_any-append (λ k. k == a) xs (n ∷ []) ∙ or_neither (list_any (λ k. k == a) xs) ((n == a) || false) (not_of (list_any (λ k. k == a) xs) b.0) (ap (λ o. o || false) (unequal_back a n c.0))))
    (different_more xs n b.1 c.1)

or_second : (a b : Bool) → b ≡ true → (a || b) ≡ true
or_second true b e = refl
or_second false b e = e

-- a number that came before makes two alike
alike : (ns : List ℕ) (n : ℕ) (ms : List ℕ) → list_any (λ k. k == n) ns ≡ true → are_different (ns ++ n ∷ ms) ≡ false
alike [] n ms e = absurd (true_false (sym e))
alike (a ∷ xs) n ms e = elim (eqb_tells a n) [
  | inl h ↦ ap (λ b. not b && are_different (xs ++ n ∷ ms)) (list_any-append (λ k. k == a) xs (n ∷ ms) ∙ or_second (list_any (λ k. k == a) xs) ((n == a) || list_any (λ k. k == a) ms) (ap (λ b. b || list_any (λ k. k == a) ms) (eq-eqb n a (sym h.1))))
  | inr h ↦ and_second (not (list_any (λ k. k == a) (xs ++ n ∷ ms))) (are_different (xs ++ n ∷ ms)) (alike xs n ms (ap (λ b. b || list_any (λ k. k == n) xs) (sym h.0) ∙ e))
]

pub modules_more : (m : ℕ) (ds : List Data) (d : Data) (n : ℕ) → are_modules m ds ≡ true → names_module m d ≡ true → number_of d ≡ Some n → list_any (λ k. k == n) (numbers_in ds) ≡ false → are_modules m (ds ++ d ∷ []) ≡ true
modules_more m ds d n a b e f = let g = and_true (list_all (names_module m) ds) (are_different (numbers_in ds)) a in
    and_both (list_all (names_module m) (ds ++ d ∷ [])) (are_different (numbers_in (ds ++ d ∷ [])))
    (list_all-append (names_module m) ds (d ∷ []) ∙ and_both (list_all (names_module m) ds) (names_module m d && true) g.0 (ap (λ o. o && true) b))
    (ap are_different (numbers_with ds d n [] e) ∙ different_more (numbers_in ds) n g.1 f)

-- a value that is no module's number spoils the list
pub no_module : (m : ℕ) (ds : List Data) (d : Data) (es : List Data) → names_module m d ≡ false → are_modules m (ds ++ d ∷ es) ≡ false
no_module m ds d es e = ap (λ b. b && are_different (numbers_in (ds ++ d ∷ es))) (list_all-append (names_module m) ds (d ∷ es) ∙ and_second (list_all (names_module m) ds) (names_module m d && list_all (names_module m) es) (ap (λ b. b && list_all (names_module m) es) e))

-- and so does a number that came before
pub module_again : (m : ℕ) (ds : List Data) (d : Data) (n : ℕ) (es : List Data) → number_of d ≡ Some n → list_any (λ k. k == n) (numbers_in ds) ≡ true → are_modules m (ds ++ d ∷ es) ≡ false
module_again m ds d n es e f = and_second (list_all (names_module m) (ds ++ d ∷ es)) (are_different (numbers_in (ds ++ d ∷ es))) (ap are_different (numbers_with ds d n es e) ∙ alike (numbers_in ds) n (numbers_in es) f)

or_last : (a b : Bool) → b ≡ false → (a || (b || false)) ≡ a
or_last true b e = refl
or_last false b e = ap (λ c. c || false) e

not_alike : (k j : ℕ) → j ≢ k → (k + 1 == j + 1) ≡ false
not_alike k j n = elim (eqb_tells (k + 1) (j + 1)) [ inl h ↦ (let e = h.1 in absurd (n (let f : j ≡ k = omega arith in f))) | inr h ↦ h.0 ]

-- one more mark
pub marks_more : (m bits more : ℕ) (ds : List Data) (d : Data) (k : ℕ) → number_of d ≡ Some (k + 1) → Marks m bits (numbers_in ds) → has_bit more k ≡ true → ((j : ℕ) → j ≢ k → has_bit more j ≡ has_bit bits j) → Marks m more (numbers_in (ds ++ d ∷ []))
marks_more m bits more ds d k e a there others j l = let whole = ap (list_any (λ n. n == j + 1)) (numbers_with ds d (k + 1) [] e) ∙ list_any-append (λ n. n == j + 1) (numbers_in ds) ((k + 1) ∷ []) in elim (eqb_tells j k) [
  | inl h ↦ ap (has_bit more) h.1 ∙ (there ∙ sym (whole ∙ or_second (list_any (λ n. n == j + 1) (numbers_in ds)) ((k + 1 == j + 1) || false) (ap (λ b. b || false) (eq-eqb (k + 1) (j + 1) (ap (λ n. n + 1) (sym h.1))))))
  | inr h ↦ others j h.1 ∙ (a j l ∙ sym (whole ∙ or_last (list_any (λ n. n == j + 1) (numbers_in ds)) (k + 1 == j + 1) (not_alike k j h.1)))
]

-- a value of the list that is no module's number spoils it
pub spoiled : (m : ℕ) (xs ys : List Value) (i : ℕ) (x : Value) → xs ≡ ys → i < length xs → x ≡ get_or xs i x → names_module m (view x) ≡ false → are_modules m (map view ys) ≡ false
spoiled m xs ys i x same l e n = subst (λ (zs : List Value). are_modules m (map view zs) ≡ false) same (ap (are_modules m) (values_split xs i x l e) ∙ no_module m (map view (take i xs)) (view x) (map view (drop (suc i) xs)) n)

-- and so does a module that is marked
pub marked_again : (m bits : ℕ) (xs ys : List Value) (i : ℕ) (x : Value) (k : ℕ) → xs ≡ ys → i < length xs → x ≡ get_or xs i x → number_of (view x) ≡ Some (k + 1) → k < m → Marks m bits (numbers_in (map view (take i xs))) → has_bit bits k ≡ true → are_modules m (map view ys) ≡ false
marked_again m bits xs ys i x k same l e n h a b = subst (λ (zs : List Value). are_modules m (map view zs) ≡ false) same (ap (are_modules m) (values_split xs i x l e) ∙ module_again m (map view (take i xs)) (view x) (k + 1) (map view (drop (suc i) xs)) n (sym (a k h) ∙ b))

pub modules_so_far : (m bits : ℕ) (xs : List Value) (i : ℕ) (x : Value) (k : ℕ) → i < length xs → x ≡ get_or xs i x → are_modules m (map view (take i xs)) ≡ true → names_module m (view x) ≡ true → number_of (view x) ≡ Some (k + 1) → k < m → Marks m bits (numbers_in (map view (take i xs))) → has_bit bits k ≡ false
    → are_modules m (map view (take (i + 1) xs)) ≡ true
modules_so_far m bits xs i x k l e a b n h c d = ap (are_modules m) (values_more xs i x l e) ∙ modules_more m (map view (take i xs)) (view x) (k + 1) a b n (sym (c k h) ∙ d)

pub marks_so_far : (m bits more : ℕ) (xs : List Value) (i : ℕ) (x : Value) (k : ℕ) → i < length xs → x ≡ get_or xs i x → number_of (view x) ≡ Some (k + 1) → Marks m bits (numbers_in (map view (take i xs))) → has_bit more k ≡ true → ((j : ℕ) → j ≢ k → has_bit more j ≡ has_bit bits j) → Marks m more (numbers_in (map view (take (i + 1) xs)))
marks_so_far m bits more xs i x k l e n a there others = subst (λ (ds : List Data). Marks m more (numbers_in ds)) (sym (values_more xs i x l e)) (marks_more m bits more (map view (take i xs)) (view x) k n a there others)

-- where all are marked, the modules are those from 1 on
pub all_marked : (m bits : ℕ) (o : Option Data) → o ≡ None → ((j : ℕ) → j < m → has_bit bits j ≡ true) → AreMarked m bits (named_in m o)
all_marked m bits o e a = (range_with_len 1 m, ap (named_in m) e, λ j l. a j l ∙ sym (list_any_at (λ n. n == j + 1) (range_with_len 1 m) j 0 (let h = length-range_with_len 1 m in omega arith) (eq-eqb _ _ (get_or-range_with_len 1 m j 0 l ∙ (let f : 1 + j ≡ j + 1 = omega arith in f)))))
