-- The connections in order, as the index has them, and from which ports they are entered.
use Rattle.std.proofs.Common.{◌≡◌, ◌≢◌, ℕ, ◌+◌, ◌<◌, ◌≤◌, zero, suc, arith, Bool, true, false, cond, not, ◌||◌, List, [], ◌∷◌, ◌++◌, Option, Some, None, inl, inr, length, map, refl, sym, ap, ap₂, ◌∙◌, subst}
use Rattle.std.specs.Prelude.{◌==◌, filter, find, flat_map, is_some, nat_lt, option_to_list}
use Rattle.std.specs.List.{list_any, AllByRecursion, range_with_len}
use Rattle.std.proofs.lemmas.Bool.{cases_lt, eqb-true}
use Rattle.std.proofs.lemmas.Nat.{mul-le}
use Rattle.std.proofs.lemmas.Bool.Decides.{eqb_tells}
use Rattle.dxc_num.specs.declared.port.Port.{Port}
use Rattle.dxc_num.specs.Dimensions.{IsPort, ports}
use Rattle.dxc_model.specs.declared.conn.Conn.{Conn}
use Rattle.dxc_model.specs.declared.sides.SideIndex.{SideIndex}
use Rattle.dxc_model.specs.Tables.{Board, joins, is_before}
use Rattle.dxc_model.specs.Tables.Side.{input_of}
use Rattle.dxc_model.specs.Verdicts.{put, replaced}
use Rattle.dxc_model.specs.Order.{RisesByFrom, first_from}
use Rattle.dxc_model.specs.PortSets.{IsNext}
use Rattle.dxc_model.specs.Sides.{conns_in, enters_from, start_at, user_at, user_of, uses_side, where_from}
use Rattle.dxc_model.specs.Keeping.{IsKept}
use Rattle.dxc_model.proofs.Apart.{Apart, apart_of, other_from, rises_of}
use Rattle.dxc_model.proofs.Bools.{by_test, lt_of, or_true, true_false}
use Rattle.dxc_model.proofs.Fromward.{first_is, none_first}
use Rattle.dxc_model.proofs.Lists.{each_filter, each_maps, find_passes}
use Rattle.dxc_model.proofs.Modules.{from_on}
use Rattle.dxc_model.proofs.Places.{false_of, found_has}
use Rattle.dxc_model.proofs.Replacing.{same_ports}
use Rattle.dxc_model.proofs.Users.{Held, Stands, any_found, none_found, some_same}

abbrev port : ℕ → Port
port p = record { 0 = p }

started : (p : ℕ) (c : Conn) (cs : List Conn) (b : Bool) → uses_side (input_of (port p)) c ≡ b → Apart (c ∷ cs) → find (enters_from p) cs ≡ where_from p (user_of cs (input_of (port p)))
    → cond (enters_from p c) (Some c) (find (enters_from p) cs) ≡ where_from p (cond b (Some c) (user_of cs (input_of (port p))))
started p c cs true u a e = ap (λ (o : Option Conn). cond (enters_from p c) (Some c) o) (none_found (enters_from p) cs (each_maps _ (λ d. enters_from p d ≡ false) cs (λ d n. other_from (port p) d n) (a.0 (input_of (port p)) u)))
started p c cs false u a e = ap (λ b. cond b (Some c) (find (enters_from p) cs)) (other_from (port p) c u) ∙ e

-- the connection that is entered from a port is the user of its input side, where that is entered from there
pub start_found : (p : ℕ) (cs : List Conn) → Apart cs → find (enters_from p) cs ≡ where_from p (user_of cs (input_of (port p)))
start_found p [] a = refl
start_found p (c ∷ cs) a = started p c cs (uses_side (input_of (port p)) c) refl a (start_found p cs a.1)

same_lists : (f g : ℕ → List Conn) (ps : List ℕ) → AllByRecursion (λ p. f p ≡ g p) ps → flat_map f ps ≡ flat_map g ps
same_lists f g [] a = refl
same_lists f g (p ∷ ps) a = ap₂ (λ (xs ys : List Conn). xs ++ ys) a.0 (same_lists f g ps a.1)

abbrev from_each : List Conn → ℕ → List Conn
from_each cs p = option_to_list (find (enters_from p) cs)

above : (m n : ℕ) → m ≤ n → m ≢ n → m < n
above m n l f = elim (cases_lt m n) [ inl a ↦ a | inr b ↦ absurd (f (let e : m ≡ n = omega arith in e)) ]

-- a list that rises by from-port is what is entered from each port in turn
listed_from : (low n : ℕ) (cs : List Conn) → RisesByFrom cs → AllByRecursion (λ c. low ≤ c.from.0) cs → AllByRecursion (λ c. c.from.0 < low + n) cs → flat_map (from_each cs) (range_with_len low n) ≡ cs
listed_from low zero [] r a b = refl
listed_from low zero (c ∷ cs) r a b = let l = a.0 in let m = b.0 in absurd (omega arith)
listed_from low (suc n) [] r a b = listed_from (low + 1) n [] tt tt tt
listed_from low (suc n) (c ∷ cs) r a b = elim (eqb_tells c.from.0 low) [
  | inl e ↦ ap (λ q. option_to_list (cond q (Some c) (find (enters_from low) cs)) ++ flat_map (from_each (c ∷ cs)) (range_with_len (low + 1) n)) e.0
      ∙ ap (λ (ds : List Conn). c ∷ ds) (same_lists (from_each (c ∷ cs)) (from_each cs) (range_with_len (low + 1) n)
      (each_maps (λ p. low + 1 ≤ p) (λ p. from_each (c ∷ cs) p ≡ from_each cs p) (range_with_len (low + 1) n)
      (λ p l. ap (λ q. option_to_list (cond q (Some c) (find (enters_from p) cs))) (false_of (enters_from p c) (λ h. let f = eqb-true c.from.0 p h in let g = e.1 in absurd (omega arith)))) (from_on (low + 1) n))
      ∙ listed_from (low + 1) n cs r.1 (each_maps (λ d. nat_lt c.from.0 d.from.0 ≡ true) (λ d. low + 1 ≤ d.from.0) cs (λ d h. let m = lt_of c.from.0 d.from.0 h in let l = a.0 in omega arith) r.0)
      (each_maps (λ d. d.from.0 < low + suc n) (λ d. d.from.0 < low + 1 + n) cs (λ d h. omega arith) b.1))
  | inr e ↦ (let high : low < c.from.0 = let l = a.0 in let n = e.1 in above low c.from.0 l (λ same. n (sym same)) in
      ap (λ (o : Option Conn). option_to_list o ++ flat_map (from_each (c ∷ cs)) (range_with_len (low + 1) n))
      (none_found (enters_from low) (c ∷ cs) (e.0, each_maps (λ d. nat_lt c.from.0 d.from.0 ≡ true) (λ d. enters_from low d ≡ false) cs (λ d h. false_of (enters_from low d) (λ g. let m = lt_of c.from.0 d.from.0 h in let f = eqb-true d.from.0 low g in absurd (omega arith))) r.0))
      ∙ listed_from (low + 1) n (c ∷ cs) r (omega arith, each_maps (λ d. nat_lt c.from.0 d.from.0 ≡ true) (λ d. low + 1 ≤ d.from.0) cs (λ d h. let m = lt_of c.from.0 d.from.0 h in omega arith) r.0)
      (each_maps (λ d. d.from.0 < low + suc n) (λ d. d.from.0 < low + 1 + n) (c ∷ cs) (λ d h. omega arith) b))
]

abbrev pub rises_in : (t : Board) (i : SideIndex) → IsKept t i → RisesByFrom t.conns
rises_in t i k = rises_of t.conns (apart_of t.conns k.proper.apart) k.proper.order

-- what the index says of a port
pub start_is : (t : Board) (i : SideIndex) (p : ℕ) → IsKept t i → start_at i p ≡ find (enters_from p) t.conns
start_is t i p k = ap (where_from p) (k.users (input_of (port p))) ∙ sym (start_found p t.conns (apart_of t.conns k.proper.apart))

each_number : (P : ℕ → Type 0) (ps : List ℕ) → ((p : ℕ) → P p) → AllByRecursion P ps
each_number P [] f = tt
each_number P (p ∷ ps) f = (f p, each_number P ps f)

-- the index has the list
pub listed : (t : Board) (i : SideIndex) → IsKept t i → conns_in i (ports t.shape) ≡ t.conns
listed t i k =
    same_lists (λ p. option_to_list (start_at i p)) (from_each t.conns) (range_with_len 0 (ports t.shape)) (each_number (λ p. option_to_list (start_at i p) ≡ from_each t.conns p) (range_with_len 0 (ports t.shape)) (λ p. ap (λ (o : Option Conn). option_to_list o) (start_is t i p k)))
    ∙ listed_from 0 (ports t.shape) t.conns (rises_in t i k) (each_maps (λ c. IsPort t.shape c.from × IsPort t.shape c.to) (λ c. 0 ≤ c.from.0) t.conns (λ c h. omega arith) k.of_shape.ports)
    (each_maps (λ c. IsPort t.shape c.from × IsPort t.shape c.to) (λ c. c.from.0 < 0 + ports t.shape) t.conns (λ c h. let l = h.0 in omega arith) k.of_shape.ports)

-- a table whose list is told by its index
abbrev pub told_by : Board → SideIndex → Board
told_by t i = record t { conns = conns_in i (ports t.shape) }

pub told_same : (t : Board) (i : SideIndex) → IsKept t i → told_by t i ≡ t
told_same t i k = ap {B = Board} (λ (cs : List Conn). record t { conns = cs }) (listed t i k)

pub told_kept : (t : Board) (i : SideIndex) → IsKept t i → IsKept (told_by t i) i
told_kept t i k = subst (λ (u : Board). IsKept u i) (sym (told_same t i k)) k

or_swap : (a b c : Bool) → (a || (b || c)) ≡ (b || (a || c))
or_swap true true c = refl
or_swap true false c = refl
or_swap false b c = refl

-- a test over a list that got one more
pub any_of_put : {X : Type 0} (q : X → Bool) (before : X → X → Bool) (x : X) (xs : List X) → list_any q (put before x xs) ≡ (q x || list_any q xs)
any_of_put q before x [] = refl
any_of_put {X} q before x (y ∷ ys) = by_test (λ (zs : List X). list_any q zs ≡ (q x || (q y || list_any q ys))) (before x y) (x ∷ (y ∷ ys)) (y ∷ put before x ys) (λ _. refl) (λ _. ap (λ b. q y || b) (any_of_put q before x ys) ∙ or_swap (q y) (q x) (list_any q ys))

abbrev without : Conn → List Conn → List Conn
without c cs = filter (λ d. not (joins c.from c.to d)) cs

gone_other : (p : ℕ) (c d : Conn) (ds : List Conn) (b : Bool) → joins c.from c.to d ≡ b → enters_from p c ≡ false → list_any (enters_from p) (without c ds) ≡ list_any (enters_from p) ds
    → list_any (enters_from p) (cond (not b) (d ∷ without c ds) (without c ds)) ≡ (enters_from p d || list_any (enters_from p) ds)
gone_other p c d ds true j n more = more ∙ sym (ap (λ b. b || list_any (enters_from p) ds) (ap (λ (x : Port). x.0 == p) (same_ports c d j).0 ∙ n))
gone_other p c d ds false j n more = ap (λ b. enters_from p d || b) more

-- a deletion leaves all that are entered from other ports
other_starts : (p : ℕ) (c : Conn) (cs : List Conn) → enters_from p c ≡ false → list_any (enters_from p) (without c cs) ≡ list_any (enters_from p) cs
other_starts p c [] n = refl
other_starts p c (d ∷ ds) n = gone_other p c d ds (joins c.from c.to d) refl n (other_starts p c ds n)

none_any : {X : Type 0} (q : X → Bool) (xs : List X) → AllByRecursion (λ x. q x ≡ false) xs → list_any q xs ≡ false
none_any q [] a = refl
none_any q (x ∷ xs) a = ap₂ (λ b c. b || c) a.0 (none_any q xs a.1)

gone_start : (c d e : Conn) (es : List Conn) (b : Bool) → joins c.from c.to e ≡ b → RisesByFrom (e ∷ es) → cond b (Some e) (find (joins c.from c.to) es) ≡ Some d
    → (find (joins c.from c.to) es ≡ Some d → list_any (enters_from c.from.0) (without c es) ≡ false) → list_any (enters_from c.from.0) (cond (not b) (e ∷ without c es) (without c es)) ≡ false
gone_start c d e es true j r f more =
    let same = ap (λ (p : Port). p.0) (same_ports c e j).0 in
    none_any (enters_from c.from.0) (without c es) (each_filter (λ g. enters_from c.from.0 g ≡ false) (λ g. not (joins c.from c.to g)) es
    (each_maps (λ g. nat_lt e.from.0 g.from.0 ≡ true) (λ g. enters_from c.from.0 g ≡ false) es (λ g h. false_of (enters_from c.from.0 g) (λ m. let l = lt_of e.from.0 g.from.0 h in let n = eqb-true g.from.0 c.from.0 m in absurd (omega arith))) r.0))
gone_start c d e es false j r f more =
    let same = ap (λ (p : Port). p.0) (same_ports c d (find_passes (joins c.from c.to) es d f)).0 in
    let l = lt_of e.from.0 d.from.0 (found_has (λ g. nat_lt e.from.0 g.from.0 ≡ true) (joins c.from c.to) es d r.0 f) in
    ap₂ (λ b q. b || q) (false_of (enters_from c.from.0 e) (λ m. let n = eqb-true e.from.0 c.from.0 m in absurd (omega arith))) (more f)

-- and none from its own
own_start : (c d : Conn) (cs : List Conn) → RisesByFrom cs → find (joins c.from c.to) cs ≡ Some d → list_any (enters_from c.from.0) (without c cs) ≡ false
own_start c d [] r f = absurd (true_false cc)
own_start c d (e ∷ es) r f = gone_start c d e es (joins c.from c.to e) refl r f (λ g. own_start c d es r.1 g)

pub starts_deleted : (p : ℕ) (c : Conn) (cs : List Conn) → RisesByFrom cs → Held cs c → cond (enters_from p c) false (list_any (enters_from p) cs) ≡ list_any (enters_from p) (without c cs)
starts_deleted p c cs r h = elim (eqb_tells c.from.0 p) [
  | inl e ↦ ap (λ b. cond b false (list_any (enters_from p) cs)) e.0 ∙ subst (λ (q : ℕ). false ≡ list_any (enters_from q) (without c cs)) e.1 (sym (own_start c c cs r h))
  | inr e ↦ ap (λ b. cond b false (list_any (enters_from p) cs)) e.0 ∙ sym (other_starts p c cs e.0)
]

same_start : (p : ℕ) (c d : Conn) (b : Bool) → joins c.from c.to d ≡ b → enters_from p (cond b c d) ≡ enters_from p d
same_start p c d true j = ap (λ (x : Port). x.0 == p) (sym (same_ports c d j).0)
same_start p c d false j = refl

-- an edit changes no from-port
pub starts_edited : (p : ℕ) (c : Conn) (cs : List Conn) → list_any (enters_from p) (map (replaced c) cs) ≡ list_any (enters_from p) cs
starts_edited p c [] = refl
starts_edited p c (d ∷ ds) = ap₂ (λ b q. b || q) (same_start p c d (joins c.from c.to d) refl) (starts_edited p c ds)

any_here : {X : Type 0} (q : X → Bool) (x d : X) (o : Option X) (r b : Bool) → q d ≡ true → cond b (Some x) o ≡ Some d → (o ≡ Some d → r ≡ true) → (q x || r) ≡ true
any_here q x d o r true t f more = ap (λ b. b || r) (ap q (some_same x d f) ∙ t)
any_here q x d o r false t f more = or_true (q x) r (more f)

any_at : {X : Type 0} (q p : X → Bool) (xs : List X) (d : X) → q d ≡ true → find p xs ≡ Some d → list_any q xs ≡ true
any_at q p [] d t f = absurd (true_false cc)
any_at q p (x ∷ xs) d t f = any_here q x d (find p xs) (list_any q xs) (p x) t f (λ g. any_at q p xs d t g)

marked_twice : (p : ℕ) (b r : Bool) → (b ≡ true → r ≡ true) → cond b true (cond b false r) ≡ r
marked_twice p true r f = sym (f refl)
marked_twice p false r f = refl

-- the old connection's mark goes, and the edited one's comes, at one port
pub marks_edited : (p : ℕ) (c d : Conn) (cs : List Conn) → Stands cs c d → cond (enters_from p c) true (cond (enters_from p d) false (list_any (enters_from p) cs)) ≡ list_any (enters_from p) (map (replaced c) cs)
marks_edited p c d cs h =
    let from = (same_ports c d (find_passes (joins c.from c.to) cs d h)).0 in
    let same : enters_from p d ≡ enters_from p c = ap (λ (x : Port). x.0 == p) from in
    ap (λ b. cond (enters_from p c) true (cond b false (list_any (enters_from p) cs))) same
    ∙ (marked_twice p (enters_from p c) (list_any (enters_from p) cs) (λ e. any_at (enters_from p) (joins c.from c.to) cs d (same ∙ e) h)
    ∙ sym (starts_edited p c cs))

or_cond : (a b : Bool) → cond a true b ≡ (a || b)
or_cond true b = refl
or_cond false b = refl

pub marks_entered : (p : ℕ) (c : Conn) (cs : List Conn) → cond (enters_from p c) true (list_any (enters_from p) cs) ≡ list_any (enters_from p) (put is_before c cs)
marks_entered p c cs = or_cond (enters_from p c) (list_any (enters_from p) cs) ∙ sym (any_of_put (enters_from p) is_before c cs)

-- the connection at the first port that is marked
abbrev pub at_start : SideIndex → Option ℕ → Option Conn
at_start i None = None
at_start i (Some p) = user_at i (input_of (record { 0 = p }))

where_by : (p : ℕ) (c d : Conn) (b : Bool) → enters_from p d ≡ b → cond b (Some d) None ≡ Some c → (Some d ≡ Some c) × (c.from.0 ≡ p)
where_by p c d true t f = (f, ap (λ (x : Conn). x.from.0) (sym (some_same d c f)) ∙ eqb-true d.from.0 p t)
where_by p c d false t f = absurd (true_false cc)

where_some : (p : ℕ) (o : Option Conn) (c : Conn) → where_from p o ≡ Some c → (o ≡ Some c) × (c.from.0 ≡ p)
where_some p None c e = absurd (true_false cc)
where_some p (Some d) c e = where_by p c d (enters_from p d) refl e

some_by : {X : Type 0} (o : Option X) → is_some o ≡ true → (x : X) × (o ≡ Some x)
some_by None e = absurd (true_false (sym e))
some_by (Some x) e = (x, refl)

-- a connection is entered from a port that is marked
pub start_there : (t : Board) (i : SideIndex) (p : ℕ) → IsKept t i → list_any (enters_from p) t.conns ≡ true → (c : Conn) × (find (enters_from p) t.conns ≡ Some c) × (user_at i (input_of (port p)) ≡ Some c) × (c.from.0 ≡ p)
start_there t i p k e =
    let s = some_by (find (enters_from p) t.conns) (sym (any_found (enters_from p) t.conns) ∙ e) in
    let w = where_some p (user_at i (input_of (port p))) s.0 (start_is t i p k ∙ s.1) in
    (s.0, s.1, w.0, w.1)

pub start_low : (t : Board) (i : SideIndex) (p : ℕ) → IsKept t i → list_any (enters_from p) t.conns ≡ true → p < ports t.shape
start_low t i p k e =
    let s = start_there t i p k e in
    let l = found_has (λ c. IsPort t.shape c.from × IsPort t.shape c.to) (enters_from p) t.conns s.0 k.of_shape.ports s.1 in
    let low = l.0 in let same = s.3 in omega arith

pub next_is : (t : Board) (i : SideIndex) (p : ℕ) (o : Option ℕ) → IsKept t i → IsNext i.starts.items p o → at_start i o ≡ first_from p t.conns
next_is t i p None k n = sym (none_first p t.conns (λ j l. sym (k.starts j) ∙ n j l))
next_is t i p (Some s) k n =
    let there = start_there t i s k (sym (k.starts s) ∙ n.1) in
    there.2 ∙ sym (first_is p s there.0 t.conns n.0 (rises_in t i k) (λ j l m. sym (k.starts j) ∙ n.2 j l m) there.3 there.1)

-- a shape has few ports, and so the set of from-ports few words
pub few_ports : (t : Board) (i : SideIndex) → IsKept t i → ports t.shape ≤ 6144
few_ports t i k = mul-le t.shape.modules t.shape.slots 64 96 k.limits.most_modules k.limits.most_slots

pub word_count : (t : Board) (i : SideIndex) → IsKept t i → length i.starts.items ≤ 1024
word_count t i k = let few = few_ports t i k in let e = k.words in omega arith
