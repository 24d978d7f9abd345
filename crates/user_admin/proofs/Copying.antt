-- Users copied one after the other, from the back.
use Rattle.std.proofs.Common.{◌≡◌, ℕ, zero, suc, ◌+◌, ◌<◌, ◌≤◌, Bool, true, false, cond, Some, None, slice_get, is_some, List, [], ◌∷◌, drop, length, refl, sym, ◌∙◌, ap, subst, arith}
use Rattle.std.specs.FinMap.{empty, entries, from_entries, get, get-entries, get-from_entries, insert, len, len-empty, len-entries, len-insert, same_map}
use Rattle.user_admin.specs.declared.op.User.{User}
use Rattle.user_admin.specs.Users.{Users, by_name}
use Rattle.user_admin.proofs.Names.{one_name, total}

-- those from a place on
abbrev pub from_place : Users → ℕ → Users
from_place m n = from_entries (drop n (entries m))

nothing_there : {A : Type 0} (x : A) → Some x ≡ None → ⊥
nothing_there x e = cc

same_there : {A : Type 0} (x y : A) → Some x ≡ Some y → x ≡ y
same_there x y e = cc

one_more : (es : List (List ℕ × User)) (n : ℕ) (u : User) → Some (u.uid, u) ≡ slice_get es n → from_entries {R = by_name} (drop n es) ≡ insert (from_entries (drop (suc n) es)) u.uid u
one_more [] n u e = absurd (nothing_there _ e)
one_more (x ∷ es) zero u e = ap (λ (y : List ℕ × User). insert (from_entries {R = by_name} es) y.0 y.1) (sym (same_there _ _ e))
one_more (x ∷ es) (suc n) u e = one_more es n u e

pub copied_more : (m : Users) (n : ℕ) (u : User) → Some (u.uid, u) ≡ slice_get (entries m) n → from_place m n ≡ insert (from_place m (suc n)) u.uid u
copied_more m n u e = one_more (entries m) n u e

grows : (b : Bool) (n k : ℕ) → n ≤ k → cond b n (n + 1) ≤ suc k
grows true n k le = omega arith
grows false n k le = omega arith

few_from : (es : List (List ℕ × User)) → len (from_entries {R = by_name} es) ≤ length es
few_from [] = let e = len-empty by_name User in omega arith
few_from (x ∷ es) = subst (λ (n : ℕ). n ≤ suc (length es)) (sym (len-insert total (from_entries es) x.0 x.1)) (grows (is_some (get (from_entries {R = by_name} es) x.0)) (len (from_entries {R = by_name} es)) (length es) (few_from es))

less : {A : Type 0} (xs : List A) (n : ℕ) → n < length xs → length (drop (suc n) xs) < length xs
less [] n lt = omega (arith, lt)
less (x ∷ xs) zero lt = omega arith
less (x ∷ xs) (suc n) lt = let more = less xs n (omega (arith, lt)) in omega (arith, more)

-- there is room for one more
pub room_from : (m : Users) (n : ℕ) → n < length (entries m) → len m ≤ 64 → len (from_place m (suc n)) < 64
room_from m n lt few =
    let all = len-entries m in
    let fewer = few_from (drop (suc n) (entries m)) in
    let shorter = less (entries m) n lt in
    omega (arith, all, fewer, shorter, few)

drop_all : {A : Type 0} (xs : List A) → drop (length xs) xs ≡ []
drop_all [] = refl
drop_all (x ∷ xs) = drop_all xs

pub none_copied : (m : Users) (n : ℕ) → n ≡ len m → from_place m n ≡ empty
none_copied m n is = ap (λ (k : ℕ). from_place m k) (is ∙ len-entries m) ∙ ap (from_entries {R = by_name}) (drop_all (entries m))

pub all_copied : (m : Users) (n : ℕ) → n ≡ 0 → from_place m n ≡ m
all_copied m n is = ap (λ (k : ℕ). from_place m k) is ∙ same_map total one_name (from_place m 0) m (λ q. get-from_entries total (entries m) q ∙ sym (get-entries m q))

-- a place below the end is some user's
pub nobody_there : (m : Users) (n : ℕ) → n < length (entries m) → None ≡ slice_get (entries m) n → ⊥
nobody_there m n lt e = beyond (entries m) n lt e
  where
    beyond : (es : List (List ℕ × User)) (k : ℕ) → k < length es → None ≡ slice_get es k → ⊥
    beyond [] k less none = omega (arith, less)
    beyond (x ∷ es) zero less none = nothing_there x (sym none)
    beyond (x ∷ es) (suc k) less none = beyond es k (omega (arith, less)) none
