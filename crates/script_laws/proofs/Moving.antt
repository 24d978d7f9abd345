-- A table on a larger shelf has the same commands, and they come to it.
use Rattle.std.proofs.Common.{zero, suc, ◌≡◌, ◌≢◌, ◌⊎◌, ℕ, ◌+◌, ◌-◌, ◌*◌, ◌^◌, ◌/◌, ◌%◌, ◌<◌, ◌≤◌, Bool, true, false, cond, not, ◌||◌, ◌&&◌, ◌==◌, if◌then◌else◌, Option, Some, None, List, [], ◌∷◌, ◌++◌, codes, decimal, map, sym, refl, ap, ap₂, ◌∙◌, subst, inl, inr, ⊎_elim, arith, append-nil}
use Rattle.std.specs.Prelude.{filter, flat_map, nat_lt, IfSome, IsTrue}
use Rattle.std.specs.List.{AllByRecursion, list_any, range_with_len}
use Rattle.std.proofs.lemmas.Bool.{cases_lt, eq-eqb, eqb-true}
use Rattle.std.proofs.lemmas.List.{map-append}
use Rattle.std.proofs.lemmas.Nat.{div-add-mod', div-mul-add, div_below, mod-mul-add, mod_below, mul-add-lt}
use Rattle.std.proofs.lemmas.Nat.Bits.{bit_at_above}
use Rattle.dxc_num.specs.declared.port.Leg.{Leg}
use Rattle.dxc_num.specs.declared.port.Middle.{Middle}
use Rattle.dxc_num.specs.declared.port.Port.{Port}
use Rattle.dxc_num.specs.Dimensions.{Dimensions, IsInLimits, IsModule, IsPort, IsWorking, leg_between, module_of, same_port, slot_of}
use Rattle.dxc_model.specs.declared.conn.Cct.{Cct}
use Rattle.dxc_model.specs.declared.conn.Cct.TheVariants.{OneWay, TwoWay}
use Rattle.dxc_model.specs.declared.conn.Conn.{Conn}
use Rattle.dxc_model.specs.declared.op.Change.{Change}
use Rattle.dxc_model.specs.declared.op.Change.TheVariants.{Enter, Delete, Edit, EnterModule, DeleteModule, TakeOut, PutBack}
use Rattle.dxc_model.specs.Equipment.{IsEquipment, empty_table, has_bit, modules_in}
use Rattle.dxc_model.specs.Tables.{Board, IsOfShape, IsOrdered, IsProper, Side, is_before, is_equipped, legs, legs_between, legs_of, needs_side, times_needed}
use Rattle.dxc_model.specs.Tables.Side.{input_of, output_of}
use Rattle.dxc_model.proofs.Bools.{by_test, lt_of, of_lt}
use Rattle.dxc_model.proofs.Lists.{each_maps}
use Rattle.dxc_model.proofs.Modules.{none_equal}
use Rattle.dxc_model.proofs.Orders.{earlier_of, of_earlier}
use Rattle.dxc_model.proofs.Places.{false_of}
use Rattle.dxc_aid.specs.Names.{port_name}
use Rattle.tl1_answer.specs.Texts.{with_conn, with_label as with_row_label, cct_text}
use Rattle.tl1_script.specs.Commands.{line_of, lines_from, text_of, with_ends, with_label}
use Rattle.tl1_script.specs.Laws.{Comes}
use Rattle.tl1_script.specs.Scripts.{changes_to, equipment_changes, module_changes, out_changes}
use Rattle.tl1_script.proofs.Coming.{changes_come}
use Rattle.script_laws.specs.Larger.{IsLarger, IsSound, ScriptsSuitLargerShelves, Suits, conn_on, port_on, table_on}

-- what nothing comes of may be left out
none_more : (step : ℕ → List Change) (a n : ℕ) → ((m : ℕ) → a ≤ m → step m ≡ []) → flat_map step (range_with_len a n) ≡ []
none_more step a zero none = refl
none_more step a (suc n) none = ap₂ (λ (x y : List Change). x ++ y) (none a (omega arith)) (none_more step (a + 1) n (λ m low. none m (omega arith)))

longer : (step : ℕ → List Change) (a k j : ℕ) → ((m : ℕ) → a + k ≤ m → step m ≡ []) → flat_map step (range_with_len a (k + j)) ≡ flat_map step (range_with_len a k)
longer step a zero j none = none_more step a (zero + j) (λ m low. none m (omega arith))
longer step a (suc k) j none =
    let next : suc k + j ≡ suc (k + j) = omega arith in
    ap (λ (n : ℕ). flat_map step (range_with_len a n)) next
    ∙ ap (λ (l : List Change). step a ++ l) (longer step (a + 1) k j (λ m low. none m (omega arith)))

none_pass : (p : ℕ → Bool) (a n : ℕ) → ((m : ℕ) → a ≤ m → p m ≡ false) → filter p (range_with_len a n) ≡ []
none_pass p a zero none = refl
none_pass p a (suc n) none = ap₂ (λ (b : Bool) (l : List ℕ). cond b (a ∷ l) l) (none a (omega arith)) (none_pass p (a + 1) n (λ m low. none m (omega arith)))

longer_filter : (p : ℕ → Bool) (a k j : ℕ) → ((m : ℕ) → a + k ≤ m → p m ≡ false) → filter p (range_with_len a (k + j)) ≡ filter p (range_with_len a k)
longer_filter p a zero j none = none_pass p a (zero + j) (λ m low. none m (omega arith))
longer_filter p a (suc k) j none =
    let next : suc k + j ≡ suc (k + j) = omega arith in
    ap (λ (n : ℕ). filter p (range_with_len a n)) next
    ∙ ap (λ (l : List ℕ). cond (p a) (a ∷ l) l) (longer_filter p (a + 1) k j (λ m low. none m (omega arith)))

bit_above : (d : Dimensions) (bits m : ℕ) → IsEquipment d bits → d.modules ≤ m → has_bit bits m ≡ false
bit_above d bits m low high = ap (λ (b : ℕ). b == 1) (bit_at_above bits d.modules m low high)

module _ (d e : Dimensions) (limits : IsInLimits d) (larger : IsLarger d e) where
  some : 0 < d.slots
  some = omega (arith, limits.least_slots)

  fits : (p : Port) → slot_of d p < e.slots
  fits p = omega (arith, mod_below p.0 d.slots some, larger.slots)

  module_same : (p : Port) → module_of e (port_on d e p) ≡ module_of d p
  module_same p = div-mul-add (module_of d p) e.slots (slot_of d p) (fits p)

  slot_same : (p : Port) → slot_of e (port_on d e p) ≡ slot_of d p
  slot_same p = mod-mul-add (module_of d p) e.slots (slot_of d p) (fits p)

  name_same : (p : Port) → port_name d p ≡ port_name e (port_on d e p)
  name_same p = ap₂ (λ (m s : ℕ). codes "DS0-" ++ decimal (m + 1) ++ codes "-" ++ decimal (s + 1)) (sym (module_same p)) (sym (slot_same p))

  row_same : (c : Conn) → with_conn [] d c ≡ with_conn [] e (conn_on d e c)
  row_same c = ap₂ (λ (f t : List ℕ). with_row_label ([] ++ f ++ codes "," ++ t ++ codes ":" ++ cct_text c.cct) c.label) (name_same c.from) (name_same c.to)

  rows_same : (cs : List Conn) → map (with_conn [] d) cs ≡ map (with_conn [] e) (map (conn_on d e) cs)
  rows_same [] = refl
  rows_same (c ∷ cs) = ap₂ (λ (r : List ℕ) (rs : List (List ℕ)). r ∷ rs) (row_same c) (rows_same cs)

  entry_same : (n : ℕ) (c : Conn) → line_of d n (Enter c) ≡ line_of e n (Enter (conn_on d e c))
  entry_same n c = ap₂ (λ (f t : List ℕ). with_label (codes "ENT-CRS-T0::" ++ f ++ codes "," ++ t ++ codes ":" ++ decimal n ++ codes "::" ++ cct_text c.cct) c.label ++ codes ";\n") (name_same c.from) (name_same c.to)

  -- changes that are the same by name, one for one
  abbrev on : Change → Change
  on (Enter c) = Enter (conn_on d e c)
  on (Delete c) = Delete (conn_on d e c)
  on (Edit c) = Edit (conn_on d e c)
  on (EnterModule m) = EnterModule m
  on (DeleteModule m) = DeleteModule m
  on (TakeOut m) = TakeOut m
  on (PutBack m) = PutBack m

  line_same : (n : ℕ) (c : Change) → line_of d n c ≡ line_of e n (on c)
  line_same n (Enter c) = entry_same n c
  line_same n (Delete c) = ap₂ (λ (f t : List ℕ). codes "DLT-CRS-T0::" ++ f ++ codes "," ++ t ++ codes ":" ++ decimal n ++ codes "::" ++ cct_text c.cct ++ codes ";\n") (name_same c.from) (name_same c.to)
  line_same n (Edit c) = ap₂ (λ (f t : List ℕ). with_label (codes "ED-CRS-T0::" ++ f ++ codes "," ++ t ++ codes ":" ++ decimal n ++ codes "::" ++ cct_text c.cct) c.label ++ codes ";\n") (name_same c.from) (name_same c.to)
  line_same n (EnterModule m) = refl
  line_same n (DeleteModule m) = refl
  line_same n (TakeOut m) = refl
  line_same n (PutBack m) = refl

  lines_same : (n : ℕ) (cs : List Change) → lines_from d n cs ≡ lines_from e n (map on cs)
  lines_same n [] = refl
  lines_same n (c ∷ cs) = ap₂ (λ (x y : List ℕ). x ++ y) (line_same n c) (lines_same (n + 1) cs)

  entries_on : (cs : List Conn) → map Enter (map (conn_on d e) cs) ≡ map on (map Enter cs)
  entries_on [] = refl
  entries_on (c ∷ cs) = ap (λ (l : List Change). Enter (conn_on d e c) ∷ l) (entries_on cs)

  out_on : (o : Option Middle) → out_changes o ≡ map on (out_changes o)
  out_on None = refl
  out_on (Some m) = refl

  module_on : (a b : Bool) (m : ℕ) → module_changes a b m ≡ map on (module_changes a b m)
  module_on false true m = refl
  module_on true false m = refl
  module_on true true m = refl
  module_on false false m = refl

  modules_on : (a b : ℕ → Bool) (ks : List ℕ) → flat_map (λ m. module_changes (a m) (b m) m) ks ≡ map on (flat_map (λ m. module_changes (a m) (b m) m) ks)
  modules_on a b [] = refl
  modules_on a b (k ∷ ks) = ap₂ (λ (x y : List Change). x ++ y) (module_on (a k) (b k) k) (modules_on a b ks) ∙ sym (map-append on (module_changes (a k) (b k) k) (flat_map (λ m. module_changes (a m) (b m) m) ks))

  -- where a port comes from
  abbrev back : Port → Port
  back q = record { 0 = module_of e q * d.slots + slot_of e q }

  back_again : (p : Port) → back (port_on d e p) ≡ p
  back_again p = ap (λ (n : ℕ). record { 0 = n }) (ap₂ (λ (m s : ℕ). m * d.slots + s) (module_same p) (slot_same p) ∙ div-add-mod' p.0 d.slots)

  abbrev side_back : Side → Side
  side_back (input_of q) = input_of (back q)
  side_back (output_of q) = output_of (back q)

  abbrev leg_on : Leg → Leg
  leg_on l = leg_between (port_on d e l.input) (port_on d e l.output)

  found_back : (p q : Port) → same_port (port_on d e p) q ≡ true → same_port p (back q) ≡ true
  found_back p q h =
      let at : port_on d e p ≡ q = ap (λ (n : ℕ). record { 0 = n }) (eqb-true (port_on d e p).0 q.0 h) in
      eq-eqb p.0 (back q).0 (ap (λ (r : Port). r.0) (sym (back_again p)) ∙ ap (λ (r : Port). (back r).0) at)

  needs_back : (s : Side) (l : Leg) → needs_side s (leg_on l) ≡ true → needs_side (side_back s) l ≡ true
  needs_back (input_of q) l h = found_back l.input q h
  needs_back (output_of q) l h = found_back l.output q h

  counted : (a b : Bool) → (a ≡ true → b ≡ true) → (if a then 1 else 0) ≤ (if b then 1 else 0)
  counted true b f = let is = f refl in subst (λ (c : Bool). 1 ≤ (if c then 1 else 0)) (sym is) (omega arith)
  counted false true f = omega arith
  counted false false f = omega arith

  fewer : (s : Side) (ls : List Leg) → times_needed s (map leg_on ls) ≤ times_needed (side_back s) ls
  fewer s [] = omega arith
  fewer s (l ∷ ls) = omega (arith, counted (needs_side s (leg_on l)) (needs_side (side_back s) l) (needs_back s l), fewer s ls)

  between_on : (x y : Port) (w : Cct) → legs_between (port_on d e x) (port_on d e y) w ≡ map leg_on (legs_between x y w)
  between_on x y OneWay = refl
  between_on x y TwoWay = refl

  legs_on : (cs : List Conn) → legs (map (conn_on d e) cs) ≡ map leg_on (legs cs)
  legs_on [] = refl
  legs_on (c ∷ cs) = ap₂ (λ (x y : List Leg). x ++ y) (between_on c.from c.to c.cct) (legs_on cs) ∙ sym (map-append leg_on (legs_of c) (legs cs))

  apart_on : (cs : List Conn) → ((s : Side) → times_needed s (legs cs) ≤ 1) → (s : Side) → times_needed s (legs (map (conn_on d e) cs)) ≤ 1
  apart_on cs a s = subst (λ (ls : List Leg). times_needed s ls ≤ 1) (sym (legs_on cs)) (omega (arith, fewer s (legs cs), a (side_back s)))

  unequal_on : (x y : Port) → x.0 ≢ y.0 → (port_on d e x).0 ≢ (port_on d e y).0
  unequal_on x y n same = n (ap (λ (p : Port). p.0) (sym (back_again x)) ∙ (ap (λ (k : ℕ). (back (record { 0 = k })).0) same ∙ ap (λ (p : Port). p.0) (back_again y)))

  low_on : (p : Port) → IsPort d p → IsPort e (port_on d e p)
  low_on p h =
      let low : module_of d p < e.modules = omega (arith, div_below p.0 d.slots d.modules some h, larger.modules) in
      omega (arith, mul-add-lt (module_of d p) e.slots (slot_of d p) e.modules low (fits p))

  rises : (x y : Port) → x.0 < y.0 → (port_on d e x).0 < (port_on d e y).0
  rises x y h = ⊎_elim
      (λ (low : module_of d x < module_of d y). omega (arith, mul-add-lt (module_of d x) e.slots (slot_of d x) (module_of d y) low (fits x)))
      (λ (high : module_of d y ≤ module_of d x). ⊎_elim
      (λ (less : module_of d y < module_of d x). absurd (omega (arith, h, mul-add-lt (module_of d y) d.slots (slot_of d y) (module_of d x) less (mod_below y.0 d.slots some), div-add-mod' x.0 d.slots, div-add-mod' y.0 d.slots)))
      (λ (most : module_of d x ≤ module_of d y).
      let same : module_of d x ≡ module_of d y = omega (arith, high, most) in
      let slots : slot_of d x < slot_of d y = omega (arith, h, ap (λ (m : ℕ). m * d.slots) same, div-add-mod' x.0 d.slots, div-add-mod' y.0 d.slots) in
      omega (arith, slots, ap (λ (m : ℕ). m * e.slots) same))
      (cases_lt (module_of d y) (module_of d x)))
      (cases_lt (module_of d x) (module_of d y))

  before_on : (c k : Conn) → is_before c k ≡ true → is_before (conn_on d e c) (conn_on d e k) ≡ true
  before_on c k h = of_earlier (conn_on d e c) (conn_on d e k) (⊎_elim
      (λ (low : c.from.0 < k.from.0). inl (rises c.from k.from low))
      (λ (both : (c.from.0 ≡ k.from.0) × (c.to.0 < k.to.0)). inr (ap (λ (n : ℕ). (port_on d e (record { 0 = n })).0) both.0, rises c.to k.to both.1))
      (earlier_of c k h))

  all_on : (P Q : Conn → Type 0) (cs : List Conn) → ((c : Conn) → P c → Q (conn_on d e c)) → AllByRecursion P cs → AllByRecursion Q (map (conn_on d e) cs)
  all_on P Q [] f a = tt
  all_on P Q (c ∷ cs) f a = (f c a.0, all_on P Q cs f a.1)

  order_on : (cs : List Conn) → IsOrdered is_before cs → IsOrdered is_before (map (conn_on d e) cs)
  order_on [] o = tt
  order_on (c ∷ cs) o = (all_on (λ k. is_before c k ≡ true) (λ k. is_before (conn_on d e c) k ≡ true) cs (λ k h. before_on c k h) o.0, order_on cs o.1)

module _ (t : Board) (bits equipped : ℕ) (e : Dimensions) (sound : IsSound t equipped) (b : IsEquipment t.shape bits) (larger : IsLarger t.shape e) where
  abbrev d : Dimensions
  d = t.shape

  abbrev u : Board
  u = table_on e t

  equipped_on : (p : Port) → IsTrue (is_equipped t (module_of d p)) → IsTrue (is_equipped u (module_of e (port_on d e p)))
  equipped_on p h = subst (λ (m : ℕ). IsTrue (is_equipped t m)) (sym (module_same d e sound.limits larger p)) h

  proper_on : IsProper u
  proper_on = record {
    unequal = all_on d e sound.limits larger (λ c. c.from.0 ≢ c.to.0) (λ c. c.from.0 ≢ c.to.0) t.conns (λ c n. unequal_on d e sound.limits larger c.from c.to n) sound.proper.unequal;
    apart = apart_on d e sound.limits larger t.conns sound.proper.apart;
    equipped = all_on d e sound.limits larger (λ c. IsTrue (is_equipped t (module_of d c.from)) × IsTrue (is_equipped t (module_of d c.to))) (λ c. IsTrue (is_equipped u (module_of e c.from)) × IsTrue (is_equipped u (module_of e c.to))) t.conns (λ c h. (equipped_on c.from h.0, equipped_on c.to h.1)) sound.proper.equipped;
    order = order_on d e sound.limits larger t.conns sound.proper.order;
  }

  out_low : (o : Option Middle) → IfSome o (λ m. IsWorking d m.0) → IfSome o (λ m. IsWorking e m.0)
  out_low None h = tt
  out_low (Some m) h = omega (arith, h, larger.slots)

  shape_on : IsOfShape u
  shape_on = record {
    ports = all_on d e sound.limits larger (λ c. IsPort d c.from × IsPort d c.to) (λ c. IsPort e c.from × IsPort e c.to) t.conns (λ c h. (low_on d e sound.limits larger c.from h.0, low_on d e sound.limits larger c.to h.1)) sound.of_shape.ports;
    modules = each_maps (IsModule d) (IsModule e) t.equipped (λ m h. omega (arith, h, larger.modules)) sound.of_shape.modules;
    order = sound.of_shape.order;
    out = out_low t.out sound.of_shape.out;
  }

  abbrev beyond : ℕ
  beyond = e.modules - d.modules

  split : e.modules ≡ d.modules + beyond
  split = omega (arith, larger.modules)

  same_equipment : modules_in e equipped ≡ t.equipped
  same_equipment = ap (λ (n : ℕ). filter (has_bit equipped) (range_with_len 0 n)) split
      ∙ (longer_filter (has_bit equipped) 0 d.modules beyond (λ m high. bit_above d equipped m sound.bits (omega arith))
      ∙ sound.equipment)

  abbrev step : ℕ → List Change
  step m = module_changes (has_bit bits m) (is_equipped t m) m

  none_beyond : (m : ℕ) → d.modules ≤ m → step m ≡ []
  none_beyond m high = ap₂ (λ (x y : Bool). module_changes x y m) (bit_above d bits m b high)
      (none_equal m t.equipped (each_maps (IsModule d) (λ k. k ≢ m) t.equipped (λ k h same. absurd (omega (arith, h, high, same))) sound.of_shape.modules))

  equipment_on : equipment_changes bits u ≡ map (on d e sound.limits larger) (equipment_changes bits t)
  equipment_on = ap (λ (n : ℕ). flat_map step (range_with_len 0 n)) split
      ∙ (longer step 0 d.modules beyond (λ m high. none_beyond m (omega arith))
      ∙ modules_on d e sound.limits larger (has_bit bits) (is_equipped t) (range_with_len 0 d.modules))

  changes_on : changes_to bits u ≡ map (on d e sound.limits larger) (changes_to bits t)
  changes_on =
      ap₂ (λ (x y : List Change). x ++ y) (ap₂ (λ (x y : List Change). x ++ y) equipment_on (entries_on d e sound.limits larger t.conns)) (out_on d e sound.limits larger t.out)
      ∙ (ap (λ (x : List Change). x ++ map (on d e sound.limits larger) (out_changes t.out)) (sym (map-append (on d e sound.limits larger) (equipment_changes bits t) (map Enter t.conns)))
      ∙ sym (map-append (on d e sound.limits larger) (equipment_changes bits t ++ map Enter t.conns) (out_changes t.out)))

  suits : Suits e bits t
  suits = record {
    same = lines_same d e sound.limits larger 1 (changes_to bits t) ∙ ap (λ (cs : List Change). lines_from e 1 cs) (sym changes_on);
    comes = changes_come u bits equipped proper_on shape_on same_equipment;
    names = rows_same d e sound.limits larger t.conns;
  }

pub scripts_suit : ScriptsSuitLargerShelves
scripts_suit t bits equipped e sound b limits larger = suits t bits equipped e sound b larger
