-- The connections from a port on, in a list that rises by from-port.
use Rattle.std.proofs.Common.{◌≡◌, ℕ, ◌+◌, ◌<◌, ◌≤◌, arith, Bool, true, false, cond, not, ◌||◌, List, [], ◌∷◌, Option, Some, None, inl, inr, refl, sym, ap, ◌∙◌, subst}
use Rattle.std.specs.Prelude.{filter, find, nat_lt}
use Rattle.std.specs.List.{list_any, AllByRecursion}
use Rattle.std.proofs.lemmas.Bool.{cases_lt, eq-eqb, eqb-true}
use Rattle.dxc_model.specs.declared.conn.Conn.{Conn}
use Rattle.dxc_model.specs.Order.{RisesByFrom, first_from, from_on, is_from_on}
use Rattle.dxc_model.specs.Sides.{enters_from}
use Rattle.dxc_model.proofs.Bools.{lt_of, of_lt, not_false, or_false, or_first, true_false}
use Rattle.dxc_model.proofs.Lists.{each_maps}
use Rattle.dxc_model.proofs.Places.{false_of, found_has}
use Rattle.dxc_model.proofs.Users.{some_same}

-- what each passes all pass
pub all_kept : {X : Type 0} (q : X → Bool) (xs : List X) → AllByRecursion (λ x. q x ≡ true) xs → filter q xs ≡ xs
all_kept q [] a = refl
all_kept {X} q (x ∷ xs) a = ap (λ b. cond b (x ∷ filter q xs) (filter q xs)) a.0 ∙ ap (λ (ys : List X). x ∷ ys) (all_kept q xs a.1)

pub on_of : (p : ℕ) (c : Conn) → p ≤ c.from.0 → is_from_on p c ≡ true
on_of p c l = ap not (false_of (nat_lt c.from.0 p) (λ b. let m = lt_of c.from.0 p b in absurd (omega arith)))

on_less : (p : ℕ) (c : Conn) → is_from_on p c ≡ false → c.from.0 < p
on_less p c e = lt_of c.from.0 p (not_false (nat_lt c.from.0 p) e)

pub off_of : (p : ℕ) (c : Conn) → c.from.0 < p → is_from_on p c ≡ false
off_of p c l = ap not (of_lt c.from.0 p l)

not_true : (b : Bool) → not b ≡ true → b ≡ false
not_true true e = absurd (true_false (sym e))
not_true false e = refl

pub on_tells : (p : ℕ) (c : Conn) → is_from_on p c ≡ true → p ≤ c.from.0
on_tells p c e = elim (cases_lt c.from.0 p) [ inl l ↦ absurd (true_false (sym (of_lt c.from.0 p l) ∙ not_true (nat_lt c.from.0 p) e)) | inr l ↦ l ]

-- what follows a connection is behind its from-port
behind : (p : ℕ) (e : Conn) (es : List Conn) → p ≤ e.from.0 + 1 → AllByRecursion (λ d. nat_lt e.from.0 d.from.0 ≡ true) es → from_on p es ≡ es
behind p e es l a = all_kept (is_from_on p) es (each_maps (λ d. nat_lt e.from.0 d.from.0 ≡ true) (λ d. is_from_on p d ≡ true) es (λ d h. on_of p d (let m = lt_of e.from.0 d.from.0 h in omega arith)) a)

left_here : (p : ℕ) (c e : Conn) (es : List Conn) (b : Bool) → is_from_on p e ≡ b → RisesByFrom (e ∷ es) → cond b (Some e) (first_from p es) ≡ Some c → (first_from p es ≡ Some c → from_on p es ≡ c ∷ from_on (c.from.0 + 1) es)
    → cond b (e ∷ from_on p es) (from_on p es) ≡ c ∷ from_on (c.from.0 + 1) (e ∷ es)
left_here p c e es true t r f more =
    subst (λ (d : Conn). e ∷ from_on p es ≡ d ∷ from_on (d.from.0 + 1) (e ∷ es)) (some_same e c f)
    (ap (λ (ds : List Conn). e ∷ ds) (behind p e es (let l = on_tells p e t in omega arith) r.0 ∙ (sym (behind (e.from.0 + 1) e es (omega arith) r.0) ∙ sym (ap (λ b. cond b (e ∷ from_on (e.from.0 + 1) es) (from_on (e.from.0 + 1) es)) (off_of (e.from.0 + 1) e (omega arith))))))
left_here p c e es false t r f more =
    let l = lt_of e.from.0 c.from.0 (found_has (λ d. nat_lt e.from.0 d.from.0 ≡ true) (is_from_on p) es c r.0 f) in
    more f ∙ ap (λ (ds : List Conn). c ∷ ds) (sym (ap (λ b. cond b (e ∷ from_on (c.from.0 + 1) es) (from_on (c.from.0 + 1) es)) (off_of (c.from.0 + 1) e (omega arith))))

-- the first from a port on, and then those after it
pub left_is : (p : ℕ) (c : Conn) (cs : List Conn) → RisesByFrom cs → first_from p cs ≡ Some c → from_on p cs ≡ c ∷ from_on (c.from.0 + 1) cs
left_is p c [] r f = absurd (true_false cc)
left_is p c (e ∷ es) r f = left_here p c e es (is_from_on p e) refl r f (λ g. left_is p c es r.1 g)

no_more : (e : Conn) (o : Option Conn) (b : Bool) (ds : List Conn) → cond b (Some e) o ≡ None → (o ≡ None → ds ≡ []) → cond b (e ∷ ds) ds ≡ []
no_more e o true ds f more = absurd (true_false cc)
no_more e o false ds f more = more f

pub none_is : (p : ℕ) (cs : List Conn) → first_from p cs ≡ None → from_on p cs ≡ []
none_is p [] f = refl
none_is p (e ∷ es) f = no_more e (first_from p es) (is_from_on p e) (from_on p es) f (λ g. none_is p es g)

each_from : (ds : List Conn) → AllByRecursion (λ d. is_from_on 0 d ≡ true) ds
each_from [] = tt
each_from (d ∷ ds) = (on_of 0 d (omega arith), each_from ds)

-- all are entered from port 0 on
pub all_from : (cs : List Conn) → from_on 0 cs ≡ cs
all_from cs = all_kept (is_from_on 0) cs (each_from cs)

-- where no connection is entered from a port on there is no first one
first_none : (p : ℕ) (e : Conn) (es : List Conn) (b : Bool) → is_from_on p e ≡ b → ((k : ℕ) → p ≤ k → (enters_from k e || list_any (enters_from k) es) ≡ false) → first_from p es ≡ None → cond b (Some e) (first_from p es) ≡ None
first_none p e es true t f more = absurd (true_false (sym (or_first (enters_from e.from.0 e) (list_any (enters_from e.from.0) es) (eq-eqb e.from.0 e.from.0 refl)) ∙ f e.from.0 (on_tells p e t)))
first_none p e es false t f more = more

pub none_first : (p : ℕ) (cs : List Conn) → ((k : ℕ) → p ≤ k → list_any (enters_from k) cs ≡ false) → first_from p cs ≡ None
none_first p [] f = refl
none_first p (e ∷ es) f = first_none p e es (is_from_on p e) refl f (none_first p es (λ k l. (or_false (enters_from k e) (list_any (enters_from k) es) (f k l)).1))

-- the connection from the first port on from which one is entered is the first
first_here : (p s : ℕ) (c e : Conn) (es : List Conn) (b q : Bool) → is_from_on p e ≡ b → enters_from s e ≡ q → p ≤ s → RisesByFrom (e ∷ es) → ((k : ℕ) → p ≤ k → k < s → (enters_from k e || list_any (enters_from k) es) ≡ false)
    → c.from.0 ≡ s → cond q (Some e) (find (enters_from s) es) ≡ Some c → (find (enters_from s) es ≡ Some c → first_from p es ≡ Some c) → cond b (Some e) (first_from p es) ≡ Some c
first_here p s c e es true true t u l r f g h more = h
first_here p s c e es true false t u l r f g h more =
    let m = lt_of e.from.0 c.from.0 (found_has (λ d. nat_lt e.from.0 d.from.0 ≡ true) (enters_from s) es c r.0 h) in
    absurd (true_false (sym (or_first (enters_from e.from.0 e) (list_any (enters_from e.from.0) es) (eq-eqb e.from.0 e.from.0 refl)) ∙ f e.from.0 (on_tells p e t) (omega arith)))
first_here p s c e es false true t u l r f g h more = let m = on_less p e t in let same = eqb-true e.from.0 s u in absurd (omega arith)
first_here p s c e es false false t u l r f g h more = more h

pub first_is : (p s : ℕ) (c : Conn) (cs : List Conn) → p ≤ s → RisesByFrom cs → ((k : ℕ) → p ≤ k → k < s → list_any (enters_from k) cs ≡ false) → c.from.0 ≡ s → find (enters_from s) cs ≡ Some c → first_from p cs ≡ Some c
first_is p s c [] l r f g h = absurd (true_false cc)
first_is p s c (e ∷ es) l r f g h = first_here p s c e es (is_from_on p e) (enters_from s e) refl refl l r f g h
    (λ i. first_is p s c es l r.1 (λ k m n. (or_false (enters_from k e) (list_any (enters_from k) es) (f k m n)).1) g i)
