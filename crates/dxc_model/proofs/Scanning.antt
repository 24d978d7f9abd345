-- A walk over the connections by their from-ports.
use Rattle.std.proofs.Common.{◌≡◌, ℕ, ◌+◌, ◌<◌, ◌≤◌, arith, Bool, true, false, cond, suc, List, [], ◌∷◌, ◌++◌, Option, Some, None, length, length-append, append_assoc, append-nil, inl, inr, ap₂, subst, refl, sym, ap, ◌∙◌}
use Rattle.std.specs.Prelude.{filter, is_some, IfSome}
use Rattle.std.specs.List.{list_any}
use Rattle.std.proofs.lemmas.Bool.{cases_lt, eq-eqb, eqb-true}
use Rattle.dxc_num.specs.Dimensions.{IsPort, ports}
use Rattle.dxc_model.specs.declared.conn.Conn.{Conn}
use Rattle.dxc_model.specs.declared.sides.SideIndex.{SideIndex}
use Rattle.dxc_model.specs.Keeping.{IsKept}
use Rattle.dxc_model.specs.Order.{IsListed, RisesByFrom, first_from, from_on, is_from_on}
use Rattle.dxc_model.specs.Sides.{enters_from, start_at}
use Rattle.dxc_model.specs.Tables.{Board}
use Rattle.dxc_model.proofs.Bools.{by_test, or_false, true_false}
use Rattle.dxc_model.proofs.Fromward.{all_from, first_is, left_is, none_is, off_of, on_of, on_tells}
use Rattle.dxc_model.proofs.Keeping.{room_of}
use Rattle.dxc_model.proofs.Listing.{few_ports, rises_in, start_is}
use Rattle.dxc_model.proofs.Users.{any_found}
use Rattle.dxc_model.proofs.Lists.{find_passes}
use Rattle.dxc_model.proofs.Places.{found_has}

pub listed_first : (q : Conn → Bool) (cs xs : List Conn) → xs ≡ [] → IsListed q cs xs 0
listed_first q cs xs none = ap (filter q) (sym (all_from cs)) ∙ ap (λ (ys : List Conn). ys ++ filter q (from_on 0 cs)) (sym none)

pub listed_more : (q : Conn → Bool) (cs xs : List Conn) (p : ℕ) (c : Conn) → RisesByFrom cs → first_from p cs ≡ Some c → q c ≡ true → IsListed q cs xs p → IsListed q cs (xs ++ c ∷ []) (c.from.0 + 1)
listed_more q cs xs p c r f t w = w ∙ (ap (λ (ys : List Conn). xs ++ filter q ys) (left_is p c cs r f)
    ∙ (ap (λ b. xs ++ cond b (c ∷ filter q (from_on (c.from.0 + 1) cs)) (filter q (from_on (c.from.0 + 1) cs))) t ∙ sym (append_assoc xs (c ∷ []) (filter q (from_on (c.from.0 + 1) cs)))))

pub listed_past : (q : Conn → Bool) (cs xs : List Conn) (p : ℕ) (c : Conn) → RisesByFrom cs → first_from p cs ≡ Some c → q c ≡ false → IsListed q cs xs p → IsListed q cs xs (c.from.0 + 1)
listed_past q cs xs p c r f t w = w ∙ (ap (λ (ys : List Conn). xs ++ filter q ys) (left_is p c cs r f) ∙ ap (λ b. xs ++ cond b (c ∷ filter q (from_on (c.from.0 + 1) cs)) (filter q (from_on (c.from.0 + 1) cs))) t)

pub listed_all : (q : Conn → Bool) (cs xs : List Conn) (p : ℕ) → first_from p cs ≡ None → IsListed q cs xs p → xs ≡ filter q cs
listed_all q cs xs p f w = sym (append-nil xs) ∙ (ap (λ (ys : List Conn). xs ++ filter q ys) (sym (none_is p cs f)) ∙ sym w)

kept_short : (q : Conn → Bool) (cs : List Conn) → length (filter q cs) ≤ length cs
kept_short q [] = omega arith
kept_short q (c ∷ cs) = let l = kept_short q cs in by_test (λ (ys : List Conn). length ys ≤ suc (length cs)) (q c) (c ∷ filter q cs) (filter q cs) (λ _. omega arith) (λ _. omega arith)

-- there is room for one more
pub room_left : (q : Conn → Bool) (t : Board) (i : SideIndex) (xs : List Conn) (p : ℕ) (c : Conn) → IsKept t i → first_from p t.conns ≡ Some c → q c ≡ true → IsListed q t.conns xs p → length xs < ports t.shape
room_left q t i xs p c k f h w =
    let more = listed_more q t.conns xs p c (rises_in t i k) f h w in
    let few = room_of t k.proper k.of_shape in
    let short = kept_short q t.conns in
    let n = ap length more ∙ length-append (xs ++ c ∷ []) (filter q (from_on (c.from.0 + 1) t.conns)) in
    let m = length-append xs (c ∷ []) in
    omega (arith, few, short, n, m)

-- the connection is entered from this port or a higher one, and from a port of the shape
pub first_within : (t : Board) (i : SideIndex) (p : ℕ) (c : Conn) → IsKept t i → first_from p t.conns ≡ Some c → (p ≤ c.from.0) × (c.from.0 < ports t.shape) × (ports t.shape ≤ 6144)
first_within t i p c k f = (on_tells p c (find_passes (is_from_on p) t.conns c f), (found_has (λ d. IsPort t.shape d.from × IsPort t.shape d.to) (is_from_on p) t.conns c k.of_shape.ports f).0, few_ports t i k)

-- and so from a port of the largest shape
pub first_below : (t : Board) (i : SideIndex) (p : ℕ) (o : Option Conn) → IsKept t i → o ≡ first_from p t.conns → IfSome o (λ c. c.from.0 < 6144)
first_below t i p None k e = tt
first_below t i p (Some c) k e = let w = first_within t i p c k (sym e) in omega (arith, w.1, w.2)

skip_one : (p : ℕ) (c : Conn) → enters_from p c ≡ false → is_from_on p c ≡ is_from_on (p + 1) c
skip_one p c e = elim (cases_lt c.from.0 p) [
  | inl l ↦ off_of p c l ∙ sym (off_of (p + 1) c (omega arith))
  | inr l ↦ on_of p c l ∙ sym (on_of (p + 1) c (elim (cases_lt p c.from.0) [ inl m ↦ (omega arith) | inr m ↦ absurd (true_false (sym (eq-eqb c.from.0 p (let same : c.from.0 ≡ p = omega arith in same)) ∙ e)) ]))
]

-- where none is entered from a port, those from it on are those after it
skipped : (p : ℕ) (cs : List Conn) → list_any (enters_from p) cs ≡ false → from_on p cs ≡ from_on (p + 1) cs
skipped p [] e = refl
skipped p (c ∷ cs) e = let n = or_false (enters_from p c) (list_any (enters_from p) cs) e in ap₂ (λ (b : Bool) (ds : List Conn). cond b (c ∷ ds) ds) (skip_one p c n.0) (skipped p cs n.1)

-- a port from which none is entered adds nothing
pub listed_none : (q : Conn → Bool) (t : Board) (i : SideIndex) (xs : List Conn) (p : ℕ) → IsKept t i → start_at i p ≡ None → IsListed q t.conns xs p → IsListed q t.conns xs (p + 1)
listed_none q t i xs p k e w = w ∙ ap (λ (ys : List Conn). xs ++ filter q ys) (skipped p t.conns (any_found (enters_from p) t.conns ∙ ap is_some (sym (start_is t i p k) ∙ e)))

-- the connection that is entered from a port is the first from there on
pub start_first : (t : Board) (i : SideIndex) (p : ℕ) (c : Conn) → IsKept t i → start_at i p ≡ Some c → (first_from p t.conns ≡ Some c) × (c.from.0 ≡ p)
start_first t i p c k e =
    let f = sym (start_is t i p k) ∙ e in
    let same = eqb-true c.from.0 p (find_passes (enters_from p) t.conns c f) in
    (first_is p p c t.conns (omega arith) (rises_in t i k) (λ j l m. absurd (let z : ⊥ = omega arith in z)) same f, same)

pub listed_some : (q : Conn → Bool) (t : Board) (i : SideIndex) (xs : List Conn) (p : ℕ) (c : Conn) → IsKept t i → start_at i p ≡ Some c → q c ≡ true → IsListed q t.conns xs p → IsListed q t.conns (xs ++ c ∷ []) (p + 1)
listed_some q t i xs p c k e h w = let f = start_first t i p c k e in subst (λ (n : ℕ). IsListed q t.conns (xs ++ c ∷ []) (n + 1)) f.1 (listed_more q t.conns xs p c (rises_in t i k) f.0 h w)

pub listed_other : (q : Conn → Bool) (t : Board) (i : SideIndex) (xs : List Conn) (p : ℕ) (c : Conn) → IsKept t i → start_at i p ≡ Some c → q c ≡ false → IsListed q t.conns xs p → IsListed q t.conns xs (p + 1)
listed_other q t i xs p c k e h w = let f = start_first t i p c k e in subst (λ (n : ℕ). IsListed q t.conns xs (n + 1)) f.1 (listed_past q t.conns xs p c (rises_in t i k) f.0 h w)

by_option : (o : Option Conn) → ((c : Conn) → o ≡ Some c → o ≡ None) → o ≡ None
by_option None f = refl
by_option (Some c) f = f c refl

-- after the last port there are none
pub listed_end : (q : Conn → Bool) (t : Board) (i : SideIndex) (xs : List Conn) → IsKept t i → IsListed q t.conns xs (ports t.shape) → xs ≡ filter q t.conns
listed_end q t i xs k w = listed_all q t.conns xs (ports t.shape) (by_option (first_from (ports t.shape) t.conns) (λ c f. let l = first_within t i (ports t.shape) c k f in absurd (let m = l.0 in let n = l.1 in let z : ⊥ = omega arith in z))) w
