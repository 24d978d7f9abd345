-- The rows of a port, which are the users of its two sides.
use Rattle.std.proofs.Common.{◌≡◌, ℕ, ◌≤◌, arith, Bool, true, false, cond, ◌||◌, List, [], ◌∷◌, Option, Some, None, refl, sym, ap, ap₂, ◌∙◌}
use Rattle.std.specs.Prelude.{filter, find, nat_lt}
use Rattle.std.specs.List.{list_any, AllByRecursion}
use Rattle.std.proofs.lemmas.Nat.{mul-le}
use Rattle.dxc_num.specs.declared.port.Port.{Port}
use Rattle.dxc_num.specs.Dimensions.{same_port, ports}
use Rattle.dxc_model.specs.declared.conn.Cct.{Cct}
use Rattle.dxc_model.specs.declared.conn.Cct.TheVariants.{OneWay, TwoWay}
use Rattle.dxc_model.specs.declared.conn.Conn.{Conn}
use Rattle.dxc_model.specs.declared.op.Selection.TheVariants as which
use Rattle.dxc_model.specs.declared.sides.SideIndex.{SideIndex}
use Rattle.dxc_model.specs.Tables.{Board, Side, needs_side, legs_between, rows}
use Rattle.dxc_model.specs.Tables.Side.{input_of, output_of}
use Rattle.dxc_model.specs.Sides.{uses_side, user_at, in_order, both_in_order}
use Rattle.dxc_model.specs.Order.{RisesByFrom}
use Rattle.dxc_model.specs.Keeping.{IsKept}
use Rattle.dxc_model.proofs.Bools.{lt_of}
use Rattle.dxc_model.proofs.Places.{false_of, found_has}
use Rattle.dxc_model.proofs.Apart.{Apart, apart_of, rises_of}
use Rattle.dxc_model.proofs.Users.{none_found}

-- what a filter keeps of a list that has nothing
none_kept : {X : Type 0} (p : X → Bool) (xs : List X) → AllByRecursion (λ x. p x ≡ false) xs → filter p xs ≡ []
none_kept p [] a = refl
none_kept p (x ∷ xs) a = ap (λ b. cond b (x ∷ filter p xs) (filter p xs)) a.0 ∙ none_kept p xs a.1

same_kept : {X : Type 0} (p q : X → Bool) (xs : List X) → ((x : X) → p x ≡ q x) → filter p xs ≡ filter q xs
same_kept p q [] e = refl
same_kept p q (x ∷ xs) e = ap₂ (λ (b : Bool) (ys : List _). cond b (x ∷ ys) ys) (e x) (same_kept p q xs e)

one_leg : (a b : Bool) → (a || b) ≡ ((a || false) || (b || false))
one_leg true b = refl
one_leg false true = refl
one_leg false false = refl

two_legs : (a b : Bool) → (a || b) ≡ ((a || (b || false)) || (b || (a || false)))
two_legs true b = refl
two_legs false true = refl
two_legs false false = refl

by_legs : (x y p : Port) (w : Cct) → (same_port x p || same_port y p) ≡ (list_any (needs_side (input_of p)) (legs_between x y w) || list_any (needs_side (output_of p)) (legs_between x y w))
by_legs x y p OneWay = one_leg (same_port x p) (same_port y p)
by_legs x y p TwoWay = two_legs (same_port x p) (same_port y p)

-- a connection has the port where it needs a side of it
uses_port : (p : Port) (c : Conn) → (same_port c.from p || same_port c.to p) ≡ (uses_side (input_of p) c || uses_side (output_of p) c)
uses_port p c = by_legs c.from c.to p c.cct

-- two that aren't in order
not_lower : (m n : ℕ) → nat_lt m n ≡ true → nat_lt n m ≡ false
not_lower m n l = false_of (nat_lt n m) (λ g. let a = lt_of m n l in let b = lt_of n m g in absurd (omega arith))

not_itself : (n : ℕ) → nat_lt n n ≡ false
not_itself n = false_of (nat_lt n n) (λ g. let a = lt_of n n g in absurd (omega arith))

first_before : (c : Conn) (o : Option Conn) → ((d : Conn) → o ≡ Some d → nat_lt c.from.0 d.from.0 ≡ true) → c ∷ in_order None o ≡ in_order (Some c) o
first_before c None f = refl
first_before c (Some d) f = sym (ap (λ b. cond b (c ∷ d ∷ []) (cond (nat_lt d.from.0 c.from.0) (d ∷ c ∷ []) (c ∷ []))) (f d refl))

second_before : (c : Conn) (o : Option Conn) → ((d : Conn) → o ≡ Some d → nat_lt c.from.0 d.from.0 ≡ true) → c ∷ in_order o None ≡ in_order o (Some c)
second_before c None f = refl
second_before c (Some d) f = sym (ap₂ (λ a b. cond a (d ∷ c ∷ []) (cond b (c ∷ d ∷ []) (d ∷ []))) (not_lower c.from.0 d.from.0 (f d refl)) (f d refl))

alone : (c : Conn) → both_in_order c c ≡ c ∷ []
alone c = ap₂ (λ a b. cond a (c ∷ c ∷ []) (cond b (c ∷ c ∷ []) (c ∷ []))) (not_itself c.from.0) (not_itself c.from.0)

abbrev Either : (Conn → Bool) → (Conn → Bool) → Conn → Bool
Either q r c = q c || r c

neither : (q r : Conn → Bool) (cs : List Conn) → AllByRecursion (λ d. q d ≡ false) cs → AllByRecursion (λ d. r d ≡ false) cs → AllByRecursion (λ d. Either q r d ≡ false) cs
neither q r [] a b = tt
neither q r (d ∷ ds) a b = (ap₂ (λ x y. x || y) a.0 b.0, neither q r ds a.1 b.1)

-- what follows a connection and passes a test is entered from a higher port
higher : (p : Conn → Bool) (c : Conn) (cs : List Conn) → AllByRecursion (λ d. nat_lt c.from.0 d.from.0 ≡ true) cs → (d : Conn) → find p cs ≡ Some d → nat_lt c.from.0 d.from.0 ≡ true
higher p c cs a d e = found_has (λ g. nat_lt c.from.0 g.from.0 ≡ true) p cs d a e

-- no connection that follows one that passes a test passes it
abbrev Single : (Conn → Bool) → List Conn → Type 0
Single q [] = Unit {0}
Single q (c ∷ cs) = (q c ≡ true → AllByRecursion (λ d. q d ≡ false) cs) × Single q cs

kept_here : (q r : Conn → Bool) (c : Conn) (cs : List Conn) (a b : Bool) → q c ≡ a → r c ≡ b
    → AllByRecursion (λ d. nat_lt c.from.0 d.from.0 ≡ true) cs → Single q (c ∷ cs) → Single r (c ∷ cs) → filter (Either q r) cs ≡ in_order (find q cs) (find r cs)
    → cond (a || b) (c ∷ filter (Either q r) cs) (filter (Either q r) cs) ≡ in_order (cond a (Some c) (find q cs)) (cond b (Some c) (find r cs))
kept_here q r c cs true true u v low s t more = ap (λ (ds : List Conn). c ∷ ds) (none_kept (Either q r) cs (neither q r cs (s.0 u) (t.0 v))) ∙ sym (alone c)
kept_here q r c cs true false u v low s t more = ap (λ (ds : List Conn). c ∷ ds) (more ∙ ap (λ (o : Option Conn). in_order o (find r cs)) (none_found q cs (s.0 u))) ∙ first_before c (find r cs) (higher r c cs low)
kept_here q r c cs false true u v low s t more = ap (λ (ds : List Conn). c ∷ ds) (more ∙ ap (λ (o : Option Conn). in_order (find q cs) o) (none_found r cs (t.0 v))) ∙ second_before c (find q cs) (higher q c cs low)
kept_here q r c cs false false u v low s t more = more

-- what passes one of two tests, each of which one connection passes at most
kept_ordered : (q r : Conn → Bool) (cs : List Conn) → RisesByFrom cs → Single q cs → Single r cs → filter (Either q r) cs ≡ in_order (find q cs) (find r cs)
kept_ordered q r [] o s t = refl
kept_ordered q r (c ∷ cs) o s t = kept_here q r c cs (q c) (r c) refl refl o.0 s t (kept_ordered q r cs o.1 s.1 t.1)

single_user : (s : Side) (cs : List Conn) → Apart cs → Single (uses_side s) cs
single_user s [] a = tt
single_user s (c ∷ cs) a = (a.0 s, single_user s cs a.1)

-- the rows of a port are the users of its sides
pub port_rows_are : (t : Board) (i : SideIndex) (p : Port) → IsKept t i → in_order (user_at i (input_of p)) (user_at i (output_of p)) ≡ rows t (which.Port p)
port_rows_are t i p k =
    let apart = apart_of t.conns k.proper.apart in
    ap₂ (λ (a b : Option Conn). in_order a b) (k.users (input_of p)) (k.users (output_of p))
    ∙ (sym (kept_ordered (uses_side (input_of p)) (uses_side (output_of p)) t.conns (rises_of t.conns apart k.proper.order) (single_user (input_of p) t.conns apart) (single_user (output_of p) t.conns apart))
    ∙ sym (same_kept (λ c. same_port c.from p || same_port c.to p) (Either (uses_side (input_of p)) (uses_side (output_of p))) t.conns (uses_port p)))

-- there are two ports at least
pub two_ports : (t : Board) (i : SideIndex) → IsKept t i → 2 ≤ ports t.shape
two_ports t i k = let least = mul-le 2 1 t.shape.modules t.shape.slots k.limits.least_modules k.limits.least_slots in omega arith
