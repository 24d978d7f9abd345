-- The changes to a table, one after the other from a table without connections.
use Rattle.std.proofs.Common.{zero, suc, ◌≡◌, ◌≢◌, ℕ, ◌+◌, ◌<◌, Bool, true, false, cond, not, ◌||◌, ◌&&◌, ◌==◌, Option, Some, None, is_some, List, [], ◌∷◌, ◌++◌, map, sym, refl, ap, ap₂, ◌∙◌, inl, inr, subst, ⊎_elim, arith, append_assoc, append-nil}
use Rattle.std.specs.Prelude.{filter, nat_lt, IfSome, IsTrue, flat_map, ◌⊎◌}
use Rattle.std.specs.List.{list_any, AllByRecursion, range_with_len}
use Rattle.std.proofs.lemmas.Bool.{eq-eqb}
use Rattle.std.proofs.lemmas.Bool.Decides.{eqb_tells}
use Rattle.dxc_num.specs.declared.port.Leg.{Leg}
use Rattle.dxc_num.specs.declared.port.Middle.{Middle}
use Rattle.dxc_num.specs.Dimensions.{Dimensions, IsPort, IsWorking, leg_between, module_of}
use Rattle.dxc_model.specs.declared.conn.Cct.{Cct}
use Rattle.dxc_model.specs.declared.conn.Cct.TheVariants.{OneWay, TwoWay}
use Rattle.dxc_model.specs.declared.conn.Conn.{Conn}
use Rattle.dxc_model.specs.declared.op.Op.TheVariants as asks
use Rattle.dxc_model.specs.declared.op.Change.{Change}
use Rattle.dxc_model.specs.declared.op.Change.TheVariants.{Enter, EnterModule, DeleteModule, TakeOut}
use Rattle.dxc_model.specs.Denials.{is_blocked}
use Rattle.dxc_model.specs.Equipment.{empty_table, has_bit, modules_in}
use Rattle.dxc_model.specs.Operations.{ArePorts}
use Rattle.dxc_model.specs.Sides.{uses_side}
use Rattle.dxc_model.specs.Tables.{Board, IsProper, IsOfShape, IsOrdered, Side, in_use, is_before, is_equipped, legs_between, needs_side}
use Rattle.dxc_model.specs.Tables.Side.{input_of, output_of}
use Rattle.dxc_model.specs.Verdicts.{MayTake, effect, judged, put}
use Rattle.dxc_model.specs.Order.{RisesByFrom}
use Rattle.dxc_model.proofs.Apart.{Apart, apart_of, rises_of}
use Rattle.dxc_model.proofs.Bools.{lt_of, of_lt, or_true, true_false}
use Rattle.dxc_model.proofs.Orders.{earlier_of}
use Rattle.dxc_model.proofs.Lists.{each_at, each_maps}
use Rattle.dxc_model.proofs.Modules.{bit_less, bit_more, cleared, equipped_bit, filter_same, found_ranged, up_to}
use Rattle.dxc_model.proofs.Places.{false_of}
use Rattle.dxc_model.proofs.Users.{in_use_found, none_found}
use Rattle.dxc_model.proofs.Verdicts.{none_of}
use Rattle.tl1_script.specs.Laws.{Comes, ChangesComeToTables}
use Rattle.tl1_script.specs.Scripts.{changes_to, equipment_changes, module_changes, out_changes}

-- the table with these connections alone, and all middles in service
abbrev partial : Board → List Conn → Board
partial t done = record t { conns = done; out = None }

-- what a connection needs, none in front of it does
front_unused : (s : Side) (done : List Conn) (k : Conn) (ks : List Conn) → Apart (done ++ k ∷ ks) → uses_side s k ≡ true → AllByRecursion (λ d. uses_side s d ≡ false) done
front_unused s [] k ks a u = tt
front_unused s (d ∷ ds) k ks a u = (false_of (uses_side s d) (λ b. true_false (sym u ∙ each_at (λ e. uses_side s e ≡ false) ds k ks (a.0 s b))), front_unused s ds k ks a.1 u)

not_in_use : (t : Board) (s : Side) → AllByRecursion (λ d. uses_side s d ≡ false) t.conns → in_use t s ≡ false
not_in_use t s all = in_use_found t s ∙ ap is_some (none_found (uses_side s) t.conns all)

not_first : (k d : Conn) → nat_lt d.from.0 k.from.0 ≡ true → is_before k d ≡ false
not_first k d lt = let low = lt_of d.from.0 k.from.0 lt in false_of (is_before k d) (λ b. ⊎_elim (λ (e : k.from.0 < d.from.0). omega arith) (λ (e : (k.from.0 ≡ d.from.0) × (k.to.0 < d.to.0)). let f = e.0 in omega arith) (earlier_of k d b))

-- a connection comes after those in front of it
put_last : (k : Conn) (done ks : List Conn) → RisesByFrom (done ++ k ∷ ks) → put is_before k done ≡ done ++ k ∷ []
put_last k [] ks r = refl
put_last k (d ∷ ds) ks r = rw (not_first k d (each_at (λ (e : Conn). nat_lt d.from.0 e.from.0 ≡ true) ds k ks r.0)) (ap (λ (xs : List Conn). d ∷ xs) (put_last k ds ks r.1))

-- the next connection of a table may be entered after those in front of it
module _ (t : Board) (p : IsProper t) (s : IsOfShape t) (done : List Conn) (k : Conn) (ks : List Conn) (e : t.conns ≡ done ++ k ∷ ks) where
  apart : Apart (done ++ k ∷ ks)
  apart = subst Apart e (apart_of t.conns p.apart)

  at_k : (P : Conn → Type 0) → AllByRecursion P t.conns → P k
  at_k P all = each_at P done k ks (subst (AllByRecursion P) e all)

  free_leg : (l : Leg) → uses_side (input_of l.input) k ≡ true → uses_side (output_of l.output) k ≡ true → is_blocked (partial t done) l ≡ false
  free_leg l i o = ap₂ (λ (a b : Bool). a || b)
      (not_in_use (partial t done) (input_of l.input) (front_unused (input_of l.input) done k ks apart i))
      (not_in_use (partial t done) (output_of l.output) (front_unused (output_of l.output) done k ks apart o))

  needed : (w : Cct) → k.cct ≡ w → (x : Side) → list_any (needs_side x) (legs_between k.from k.to w) ≡ true → uses_side x k ≡ true
  needed w is x h = ap (λ (v : Cct). list_any (needs_side x) (legs_between k.from k.to v)) is ∙ h

  first_needed : (a : ℕ) (b : Bool) → ((a == a) || b) ≡ true
  first_needed a b = ap (λ (c : Bool). c || b) (eq-eqb a a refl)

  free_legs : (w : Cct) → k.cct ≡ w → list_any (is_blocked (partial t done)) (legs_between k.from k.to w) ≡ false
  free_legs OneWay is = ap (λ (b : Bool). b || false)
      (free_leg (leg_between k.from k.to) (needed OneWay is (input_of k.from) (first_needed k.from.0 _)) (needed OneWay is (output_of k.to) (first_needed k.to.0 _)))
  free_legs TwoWay is = ap₂ (λ (a b : Bool). a || (b || false))
      (free_leg (leg_between k.from k.to) (needed TwoWay is (input_of k.from) (first_needed k.from.0 _)) (needed TwoWay is (output_of k.to) (first_needed k.to.0 _)))
      (free_leg (leg_between k.to k.from) (needed TwoWay is (input_of k.to) (or_true _ _ (first_needed k.to.0 _))) (needed TwoWay is (output_of k.from) (or_true _ _ (first_needed k.from.0 _))))

  may_enter : MayTake (partial t done) (Enter k)
  may_enter =
      let here = at_k (λ d. IsPort t.shape d.from × IsPort t.shape d.to) s.ports in
      let there = at_k (λ d. IsTrue (is_equipped t (module_of t.shape d.from)) × IsTrue (is_equipped t (module_of t.shape d.to))) p.equipped in record {
        apt = record { from = here.0; to = here.1; unequal = at_k (λ d. d.from.0 ≢ d.to.0) p.unequal };
        says = ap (λ o. judged o (Some (Enter k))) (none_of (partial t done) (asks.Enter k) (record {
          equipped = ap₂ (λ (a b : Bool). not a || not b) there.0 there.1;
          free = ap (λ (w : Cct). list_any (is_blocked (partial t done)) (legs_between k.from k.to w)) refl ∙ free_legs k.cct refl;
          other = refl;
          idle = refl;
          bare = refl;
          there = refl;
          all_in = refl;
          its_out = refl;
        }));
      }

  entered : effect (partial t done) (Enter k) ≡ partial t (done ++ k ∷ [])
  entered = ap (partial t) (put_last k done ks (rises_of (done ++ k ∷ ks) apart (subst (IsOrdered is_before) e p.order)))

-- the connections that are left, behind those that are done
conns_come : (t : Board) (p : IsProper t) (s : IsOfShape t) (rest done : List Conn) (behind : List Change) → t.conns ≡ done ++ rest → Comes (partial t t.conns) behind t → Comes (partial t done) (map Enter rest ++ behind) t
conns_come t p s [] done behind e last = subst (λ (cs : List Conn). Comes (partial t cs) behind t) (e ∙ append-nil done) last
conns_come t p s (k ∷ ks) done behind e last = (
  may_enter t p s done k ks e,
  subst (λ (b : Board). Comes b (map Enter ks ++ behind) t) (sym (entered t p s done k ks e))
      (conns_come t p s ks (done ++ k ∷ []) behind (e ∙ sym (append_assoc done (k ∷ []) ks)) last),
)

-- and last the middle
out_comes : (t : Board) (o : Option Middle) → t.out ≡ o → IfSome o (λ m. IsWorking t.shape m.0) → Comes (partial t t.conns) (out_changes o) t
out_comes t None e w = λ i. record t { out = sym e i }
out_comes t (Some m) e w = (
  record {
    apt = w;
    says = ap (λ o. judged o (Some (TakeOut m))) (none_of (partial t t.conns) (asks.TakeOut m) (record { equipped = refl; free = refl; other = refl; idle = refl; bare = refl; there = refl; all_in = refl; its_out = refl }));
  },
  λ i. record t { out = sym e i },
)

-- Modules below a number are as they are to be, the others as they were.
module _ (was is : ℕ → Bool) where
  abbrev mixed : ℕ → ℕ → Bool
  mixed k m = cond (nat_lt m k) (is m) (was m)

  not_below : (m k : ℕ) → (m < k → ⊥) → nat_lt m k ≡ false
  not_below m k n = false_of (nat_lt m k) (λ b. n (lt_of m k b))

  still : (k : ℕ) → mixed k k ≡ was k
  still k = ap (λ (b : Bool). cond b (is k) (was k)) (not_below k k (λ low. omega arith))

  done_there : (k m : ℕ) → m < k → mixed k m ≡ is m
  done_there k m low = ap (λ (b : Bool). cond b (is m) (was m)) (of_lt m k low)

  same_below : (k m : ℕ) → m ≢ k → nat_lt m (k + 1) ≡ nat_lt m k
  same_below k m other = ⊎_elim
      (λ (low : m < k). of_lt m (k + 1) (omega arith) ∙ sym (of_lt m k low))
      (λ (high : k < m). not_below m (k + 1) (λ low. omega arith) ∙ sym (not_below m k (λ low. omega arith)))
      (apart_ways m k other)
    where
      apart_ways : (a b : ℕ) → a ≢ b → (a < b) ⊎ (b < a)
      apart_ways a b n = search arith

  same_other : (k m : ℕ) → m ≢ k → mixed (k + 1) m ≡ mixed k m
  same_other k m other = ap (λ (b : Bool). cond b (is m) (was m)) (same_below k m other)

  same_all : (k m : ℕ) → was k ≡ is k → mixed k m ≡ mixed (k + 1) m
  same_all k m e = sym (elim (eqb_tells m k) [
    | inl h ↦ subst (λ (j : ℕ). mixed (k + 1) j ≡ mixed k j) (sym h.1) (done_there (k + 1) k (omega arith) ∙ (sym e ∙ sym (still k)))
    | inr h ↦ same_other k m h.1
  ])

-- the table with this equipment alone
abbrev bare : Dimensions → (ℕ → Bool) → Board
bare d q = record { shape = d; conns = []; equipped = filter q (range_with_len 0 d.modules); out = None }

module _ (d : Dimensions) (was is : ℕ → Bool) where
  abbrev stage : ℕ → Board
  stage k = bare d (mixed was is k)

  equipped_at : (k : ℕ) → k < d.modules → is_equipped (stage k) k ≡ was k
  equipped_at k low = found_ranged (mixed was is k) k 0 d.modules (omega arith) (omega arith) ∙ still was is k

  everywhere : (P : ℕ → Type 0) → ((m : ℕ) → P m) → AllByRecursion P (range_with_len 0 d.modules)
  everywhere P f = each_maps (λ m. m < 0 + d.modules) P (range_with_len 0 d.modules) (λ m low. f m) (up_to 0 d.modules)

  kept : (k : ℕ) → was k ≡ is k → stage k ≡ stage (k + 1)
  kept k e = λ i. record { shape = d; conns = []; equipped = filter_same (mixed was is k) (mixed was is (k + 1)) (range_with_len 0 d.modules) (everywhere _ (λ m. same_all was is k m e)) i; out = None }

  may_equip : (k : ℕ) → k < d.modules → was k ≡ false → MayTake (stage k) (EnterModule k)
  may_equip k low w = record {
    apt = low;
    says = ap (λ o. judged o (Some (EnterModule k))) (none_of (stage k) (asks.EnterModule k) (record { equipped = refl; free = refl; other = refl; idle = refl; bare = equipped_at k low ∙ w; there = refl; all_in = refl; its_out = refl }));
  }

  equips : (k : ℕ) → k < d.modules → was k ≡ false → is k ≡ true → effect (stage k) (EnterModule k) ≡ stage (k + 1)
  equips k low w e = λ i. record { shape = d; conns = []; equipped = sym (bit_more (mixed was is k) (mixed was is (k + 1)) k 0 d.modules (omega arith) (omega arith) (still was is k ∙ w) (done_there was is (k + 1) k (omega arith) ∙ e) (λ m n. same_other was is k m n)) i; out = None }

  may_unequip : (k : ℕ) → k < d.modules → was k ≡ true → MayTake (stage k) (DeleteModule k)
  may_unequip k low w = record {
    apt = low;
    says = ap (λ o. judged o (Some (DeleteModule k))) (none_of (stage k) (asks.DeleteModule k) (record { equipped = ap not (equipped_at k low ∙ w); free = refl; other = refl; idle = refl; bare = refl; there = refl; all_in = refl; its_out = refl }));
  }

  unequips : (k : ℕ) → k < d.modules → is k ≡ false → effect (stage k) (DeleteModule k) ≡ stage (k + 1)
  unequips k low e = λ i. record { shape = d; conns = []; equipped = sym (bit_less (mixed was is k) (mixed was is (k + 1)) k (range_with_len 0 d.modules) (everywhere _ (λ m. cleared (mixed was is k) (mixed was is (k + 1)) k m (done_there was is (k + 1) k (omega arith) ∙ e) (λ n. same_other was is k m n)))) i; out = None }

  module_comes : (k : ℕ) (a b : Bool) (behind : List Change) (u : Board) → k < d.modules → was k ≡ a → is k ≡ b → Comes (stage (k + 1)) behind u → Comes (stage k) (module_changes a b k ++ behind) u
  module_comes k false true behind u low w e more = (may_equip k low w, subst (λ (t : Board). Comes t behind u) (sym (equips k low w e)) more)
  module_comes k true false behind u low w e more = (may_unequip k low w, subst (λ (t : Board). Comes t behind u) (sym (unequips k low e)) more)
  module_comes k true true behind u low w e more = subst (λ (t : Board). Comes t behind u) (sym (kept k (w ∙ sym e))) more
  module_comes k false false behind u low w e more = subst (λ (t : Board). Comes t behind u) (sym (kept k (w ∙ sym e))) more

  modules_come : (k n : ℕ) (step : ℕ → List Change) (behind : List Change) (u : Board) → k + n ≡ d.modules → ((m : ℕ) → m < d.modules → step m ≡ module_changes (was m) (is m) m) → Comes (stage d.modules) behind u → Comes (stage k) (flat_map step (range_with_len k n) ++ behind) u
  modules_come k zero step behind u all each last = let here : d.modules ≡ k = omega arith in subst (λ (j : ℕ). Comes (stage j) behind u) here last
  modules_come k (suc n) step behind u all each last =
      let low : k < d.modules = omega arith in
      let rest = modules_come (k + 1) n step behind u (omega arith) each last in
      subst (λ (cs : List Change). Comes (stage k) cs u) (sym (append_assoc (step k) (flat_map step (range_with_len (k + 1) n)) behind))
      (subst (λ (cs : List Change). Comes (stage k) (cs ++ (flat_map step (range_with_len (k + 1) n) ++ behind)) u) (sym (each k low))
      (module_comes k (was k) (is k) (flat_map step (range_with_len (k + 1) n) ++ behind) u low refl refl rest))

module _ (t : Board) (bits equipped : ℕ) (p : IsProper t) (s : IsOfShape t) (same : modules_in t.shape equipped ≡ t.equipped) where
  abbrev was : ℕ → Bool
  was = has_bit bits

  abbrev is : ℕ → Bool
  is = has_bit equipped

  each_module : (m : ℕ) → m < t.shape.modules → module_changes (has_bit bits m) (is_equipped t m) m ≡ module_changes (was m) (is m) m
  each_module m low = ap (λ (b : Bool). module_changes (has_bit bits m) b m) (ap (λ (ks : List ℕ). list_any (λ k. k == m) ks) (sym same) ∙ equipped_bit t.shape equipped m low)

  last_stage : stage t.shape was is t.shape.modules ≡ partial t []
  last_stage = λ i. record {
    shape = t.shape;
    conns = [];
    equipped = (filter_same (mixed was is t.shape.modules) is (range_with_len 0 t.shape.modules)
        (each_maps (λ m. m < 0 + t.shape.modules) (λ m. mixed was is t.shape.modules m ≡ is m) (range_with_len 0 t.shape.modules) (λ m low. done_there was is t.shape.modules m (omega arith)) (up_to 0 t.shape.modules)) ∙ same) i;
    out = None;
  }

  first_stage : stage t.shape was is 0 ≡ empty_table t.shape bits
  first_stage = λ i. record {
    shape = t.shape;
    conns = [];
    equipped = filter_same (mixed was is 0) was (range_with_len 0 t.shape.modules)
        (each_maps (λ m. m < 0 + t.shape.modules) (λ m. mixed was is 0 m ≡ was m) (range_with_len 0 t.shape.modules) (λ m low. ap (λ (b : Bool). cond b (is m) (was m)) (not_below was is m 0 (λ l. omega arith))) (up_to 0 t.shape.modules)) i;
    out = None;
  }

  all_come : Comes (empty_table t.shape bits) (changes_to bits t) t
  all_come =
      let tail = map Enter t.conns ++ out_changes t.out in
      let last = conns_come t p s t.conns [] (out_changes t.out) refl (out_comes t t.out refl s.out) in
      let from_stage = subst (λ (b : Board). Comes b tail t) (sym last_stage) last in
      let all : 0 + t.shape.modules ≡ t.shape.modules = omega arith in
      let whole = modules_come t.shape was is 0 t.shape.modules (λ m. module_changes (has_bit bits m) (is_equipped t m) m) tail t all each_module from_stage in
      subst (λ (cs : List Change). Comes (empty_table t.shape bits) cs t) (sym (append_assoc (equipment_changes bits t) (map Enter t.conns) (out_changes t.out)))
      (subst (λ (b : Board). Comes b (equipment_changes bits t ++ tail) t) first_stage whole)

pub changes_come : ChangesComeToTables
changes_come t bits equipped p s same = all_come t bits equipped p s same
