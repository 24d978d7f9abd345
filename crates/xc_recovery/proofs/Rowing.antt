-- The rows of a checkpoint come to its table and colouring.
use Rattle.std.proofs.Common.{zero, suc, ◌≡◌, ◌≢◌, ℕ, ◌+◌, ◌<◌, ◌≤◌, Bool, true, false, cond, not, ◌||◌, Option, Some, None, is_some, List, [], ◌∷◌, ◌++◌, length, map, sym, refl, ap, ap₂, ◌∙◌, inl, inr, subst, ⊎_elim, arith, append_assoc, append-nil}
use Rattle.std.specs.Prelude.{drop, filter, find, nat_lt, option_map, slice_get, IfSome, IsTrue}
use Rattle.std.proofs.lemmas.Option.{slice_get-map}
use Rattle.std.specs.List.{list_any, AllByRecursion}
use Rattle.std.proofs.lemmas.Bool.{cases_lt, eq-eqb}
use Rattle.std.proofs.lemmas.List.{ext_get_or, length-map}
use Rattle.dxc_num.specs.declared.port.Leg.{Leg}
use Rattle.dxc_num.specs.declared.port.Middle.{Middle}
use Rattle.dxc_num.specs.declared.port.Port.{Port}
use Rattle.dxc_num.specs.declared.port.Route.{Route}
use Rattle.dxc_num.specs.Dimensions.{Dimensions, IsPort, IsWorking, leg_back, leg_between, module_of, ports}
use Rattle.dxc_model.specs.declared.conn.Cct.{Cct}
use Rattle.dxc_model.specs.declared.conn.Cct.TheVariants.{OneWay, TwoWay}
use Rattle.dxc_model.specs.declared.conn.Conn.{Conn}
use Rattle.dxc_model.specs.declared.op.Op.TheVariants as asks
use Rattle.dxc_model.specs.declared.op.Change.TheVariants.{Enter, TakeOut}
use Rattle.dxc_model.specs.Denials.{is_blocked}
use Rattle.dxc_model.specs.Equipment.{empty_table, modules_in}
use Rattle.dxc_model.specs.Sides.{uses_side}
use Rattle.dxc_model.specs.Tables.{Board, IsProper, IsOfShape, IsOrdered, Side, in_use, is_before, is_equipped, legs, legs_between, legs_of, needs_side}
use Rattle.dxc_model.specs.Tables.Side.{input_of, output_of}
use Rattle.dxc_model.specs.Verdicts.{MayTake, effect, judged, put}
use Rattle.dxc_model.proofs.Apart.{Apart, apart_of, rises_of}
use Rattle.dxc_model.proofs.Bools.{lt_of, true_false}
use Rattle.dxc_model.proofs.Orders.{earlier_of}
use Rattle.dxc_model.proofs.Lists.{each_at}
use Rattle.dxc_model.specs.Order.{RisesByFrom, first_from, from_on, is_from_on}
use Rattle.dxc_model.proofs.Fromward.{all_from, left_is}
use Rattle.dxc_model.proofs.Places.{false_of}
use Rattle.dxc_model.proofs.Users.{in_use_found, none_found}
use Rattle.dxc_model.proofs.Verdicts.{IsClear, none_of}
use Rattle.journal_core.specs.declared.version.Version.TheVariants.{Two}
use Rattle.roll_plan.specs.declared.op.Chain.TheVariants.{Direct}
use Rattle.roll_plan.specs.declared.op.LegOp.{LegOp}
use Rattle.roll_plan.specs.declared.op.LegOp.TheVariants as op
use Rattle.roll_plan.specs.Works.{ops_writes, switches_in}
use Rattle.paull_matrix.specs.Colourings.{Colouring, Holds, IsEmpty, IsFreeFor, IsHeld, IsProperColouring, IsUnused, colouring_of, no_legs, module_on, route_at}
use Rattle.paull_matrix.proofs.Legs.{held_before, none_some, out_low}
use Rattle.paull_chain.specs.Paull.{Among}
use Rattle.paull_chain.specs.Works.{after_op, after_ops}
use Rattle.paull_chain.proofs.Planning.{joins_direct}
use Rattle.paull_chain.proofs.Working.{op_shape}
use Rattle.mid_service.proofs.Ways.{joins_direct as joins_direct_out}
use Rattle.xc_journal.specs.Entries.{FitsConn}
use Rattle.xc_recovery.specs.declared.leg_task.LegTask.TheVariants.{Join}
use Rattle.xc_recovery.specs.LegTasks.{joins}
use Rattle.xc_recovery.specs.ChangeWorks.{AreReady, IsReady, JoinsAs, WorksBy}
use Rattle.xc_recovery.specs.Folds.{FoldsTo, Makes, none_folded}
use Rattle.xc_recovery.specs.Laws.{CheckpointsStand}
use Rattle.xc_recovery.specs.Placings.{IsPlaced, idle}
use Rattle.xc_journal.specs.Spelling.{spelling}
use Rattle.xc_recovery.specs.Rows.{IsRowAt, checkpoint, left_behind, middle_in, out_rows, row_of, standing}
use Rattle.xc_recovery.proofs.Folding.{none_held, none_placed}
use Rattle.xc_recovery.proofs.HeldLegs.{does_proper}
use Rattle.xc_recovery.proofs.Placing.{placed_after, tasks_ready}
use Rattle.xc_recovery.proofs.Replaying.{folded}
use Rattle.xc_recovery.proofs.TableLegs.{among_any, among_left, among_right, leg_uses}

-- Two colourings of one network with the same legs on the same middles.
module _ (b c : Colouring) (shape : b.shape ≡ c.shape) (size : length b.routes ≡ length c.routes) (on : (l : Leg) (k : ℕ) → Holds b l k → Holds c l k) (stands : (l : Leg) → IsHeld c l → IsHeld b l) where
  same_route : (y : ℕ) (o u : Option Route) → route_at b y ≡ o → route_at c y ≡ u → o ≡ u
  same_route y None None e f = refl
  same_route y (Some r) u e f = sym (on (record { input = r.input; output = record { 0 = y } }) r.middle.0 e) ∙ f
  same_route y None (Some r) e f = absurd (none_some (sym e ∙ (stands (record { input = r.input; output = record { 0 = y } }) (r.middle.0, f)).1))

  pub same_colouring : b ≡ c
  same_colouring = let routes = ext_get_or None b.routes c.routes size (λ y low. same_route y (route_at b y) (route_at c y) refl refl) in λ i. colouring_of (shape i) (routes i)

below_other : (k n : ℕ) → k ≤ n → k ≢ n → k < n
below_other k n low other = elim (cases_lt k n) [
  | inl h ↦ h
  | inr h ↦ (let same : k ≡ n = omega arith in absurd (other same))
]

-- the op that joins a leg straight at this middle
abbrev pub straight : Leg → Middle → LegOp
straight l m = op.Join l (record { middle = m; chain = Direct }) (record { items = [] })

straight_as : (out : Option Middle) (b : Colouring) (l : Leg) (m : Middle) → IsProperColouring b → IsReady out b (Join l) → m.0 ≤ b.shape.slots → m.0 ≢ idle b.shape out → IsFreeFor b l m.0 → JoinsAs out b l (record { middle = m; chain = Direct }) (straight l m)
straight_as None b l m p r low other free =
    let works = below_other m.0 b.shape.slots low other in
    ((works, free), joins_direct b l m (straight l m) p r.0 r.1 r.3 works free (refl, refl, refl))
straight_as (Some q) b l m p r low other free =
    ((low, (other, free)), joins_direct_out b q.0 l m (straight l m) p (record { inside = r.0; unused = r.1; middle = r.2; empty = r.3 }) low (other, free) (refl, refl, refl))

-- all that stands in the second colouring stands so in the first
abbrev IsPartOf : Colouring → Colouring → Type 0
IsPartOf c b = (l : Leg) (k : ℕ) → Holds b l k → Holds c l k

-- the table with these connections alone
abbrev partial : Board → List Conn → Board
partial t done = record t { conns = done }

-- Legs that stand in a colouring, joined straight at their middles.
module _ (out : Option Middle) (c : Colouring) (proper : IsProperColouring c) (empty : IsEmpty c (idle c.shape out)) where
  abbrev pub stand : Leg → LegOp
  stand l = straight l (standing c l).middle

  here : (l : Leg) → IsHeld c l → Holds c l (standing c l).middle.0
  here l held = subst (Holds c l) (sym (ap (λ (o : Option Route). (middle_in o).0) held.1)) held.1

  free_there : (b : Colouring) (l : Leg) (k : ℕ) → b.shape ≡ c.shape → IsPartOf c b → IsUnused b l → Holds c l k → IsFreeFor b l k
  free_there b l k shape part unused held s v h same =
      let e = proper.apart s k v l (part v k h) held (subst (λ (d : Dimensions). module_on d s v ≡ module_on d s l) shape same) in
      unused.output v k h (ap (λ (x : Leg). x.output.0) e)

  does_stand : (b : Colouring) (l : Leg) → IsProperColouring b → b.shape ≡ c.shape → IsPartOf c b → IsReady out b (Join l) → IsHeld c l → JoinsAs out b l (standing c l) (stand l)
  does_stand b l p shape part r held =
      let m : Middle = (standing c l).middle in
      straight_as out b l m p r
      (subst (λ (d : Dimensions). m.0 ≤ d.slots) (sym shape) (proper.inside l m.0 (here l held)).1)
      (λ e. empty l (subst (Holds c l) (e ∙ ap (λ (d : Dimensions). idle d out) shape) (here l held)))
      (free_there b l m.0 shape part r.1 (here l held))

  part_more : (b : Colouring) (l : Leg) → IsProperColouring b → IsPartOf c b → IsReady out b (Join l) → IsHeld c l → IsPartOf c (after_op (stand l) b)
  part_more b l p part r held v q g =
      let m : Middle = (standing c l).middle in ⊎_elim
      (λ (e : (v ≡ l) × (q ≡ m.0)). subst (λ (w : Leg × ℕ). Holds c w.0 w.1) (λ i. (sym e.0 i, sym e.1 i)) (here l held))
      (λ (e : (v.output.0 ≢ l.output.0) × Holds b v q). part v q e.1)
      (held_before b l v m.0 q (out_low b l p r.0) g)

  pub joins_stand : (ls : List Leg) (b : Colouring) → IsProperColouring b → b.shape ≡ c.shape → IsPartOf c b → AreReady out b (joins ls) → ((l : Leg) → Among l ls → IsHeld c l) → WorksBy out b (joins ls) (map (standing c) ls) (map stand ls) × IsPartOf c (after_ops (map stand ls) b)
  joins_stand [] b p shape part r held = (tt, part)
  joins_stand (l ∷ ls) b p shape part r held =
      let does = does_stand b l p shape part r.0 (held l (inl refl)) in
      let rest = joins_stand ls (after_op (stand l) b) (does_proper out b (Join l) (standing c l) (stand l) p does) (op_shape (stand l) b ∙ shape) (part_more b l p part r.0 (held l (inl refl))) (r.1 (standing c l) (stand l) does) (λ x m. held x (inr m)) in
      ((does, rest.0), rest.1)

none_any : (p : Leg → Bool) (ls : List Leg) → ((l : Leg) → Among l ls → p l ≡ false) → list_any p ls ≡ false
none_any p [] f = refl
none_any p (l ∷ ls) f = ap₂ (λ (a b : Bool). a || b) (f l (inl refl)) (none_any p ls (λ x m. f x (inr m)))

-- what a connection needs, none in front of it does
front_unused : (s : Side) (done : List Conn) (k : Conn) (ks : List Conn) → Apart (done ++ k ∷ ks) → uses_side s k ≡ true → AllByRecursion (λ d. uses_side s d ≡ false) done
front_unused s [] k ks a u = tt
front_unused s (d ∷ ds) k ks a u = (false_of (uses_side s d) (λ b. true_false (sym u ∙ each_at (λ e. uses_side s e ≡ false) ds k ks (a.0 s b))), front_unused s ds k ks a.1 u)

not_in_use : (t : Board) (s : Side) → AllByRecursion (λ d. uses_side s d ≡ false) t.conns → in_use t s ≡ false
not_in_use t s all = in_use_found t s ∙ ap is_some (none_found (uses_side s) t.conns all)

-- so each comes after those in front of it
not_first : (k d : Conn) → nat_lt d.from.0 k.from.0 ≡ true → is_before k d ≡ false
not_first k d lt = let low = lt_of d.from.0 k.from.0 lt in false_of (is_before k d) (λ b. ⊎_elim (λ (e : k.from.0 < d.from.0). omega arith) (λ (e : (k.from.0 ≡ d.from.0) × (k.to.0 < d.to.0)). let f = e.0 in omega arith) (earlier_of k d b))

put_last : (k : Conn) (done ks : List Conn) → RisesByFrom (done ++ k ∷ ks) → put is_before k done ≡ done ++ k ∷ []
put_last k [] ks r = refl
put_last k (d ∷ ds) ks r = rw (not_first k d (each_at (λ (e : Conn). nat_lt d.from.0 e.from.0 ≡ true) ds k ks r.0)) (ap (λ (xs : List Conn). d ∷ xs) (put_last k ds ks r.1))

among_legs : (l : Leg) (done : List Conn) (k : Conn) (ks : List Conn) → Among l (legs_of k) → Among l (legs (done ++ k ∷ ks))
among_legs l [] k ks m = among_left l (legs_of k) (legs ks) m
among_legs l (d ∷ ds) k ks m = among_right l (legs_of d) (legs (ds ++ k ∷ ks)) (among_legs l ds k ks m)

-- The next connection of a table may be entered after those in front of it.
module _ (t : Board) (c : Colouring) (p : IsPlaced t c) (s : IsOfShape t) (fits : AllByRecursion FitsConn t.conns) (done : List Conn) (k : Conn) (ks : List Conn) (e : t.conns ≡ done ++ k ∷ ks) where
  apart : Apart (done ++ k ∷ ks)
  apart = subst Apart e (apart_of t.conns p.table.apart)

  at_k : (P : Conn → Type 0) → AllByRecursion P t.conns → P k
  at_k P all = each_at P done k ks (subst (AllByRecursion P) e all)

  unblocked_leg : (l : Leg) → Among l (legs_of k) → is_blocked (partial t done) l ≡ false
  unblocked_leg l m = ap₂ (λ (a b : Bool). a || b)
      (not_in_use (partial t done) (input_of l.input) (front_unused (input_of l.input) done k ks apart (leg_uses l k m)))
      (not_in_use (partial t done) (output_of l.output) (front_unused (output_of l.output) done k ks apart (among_any (needs_side (output_of l.output)) l (legs_of k) m (eq-eqb l.output.0 l.output.0 refl))))

  clear : IsClear (partial t done) (asks.Enter k)
  clear = let here = at_k (λ d. IsTrue (is_equipped t (module_of t.shape d.from)) × IsTrue (is_equipped t (module_of t.shape d.to))) p.table.equipped in record {
    equipped = ap₂ (λ (a b : Bool). not a || not b) here.0 here.1;
    free = none_any (is_blocked (partial t done)) (legs_of k) unblocked_leg;
    other = refl;
    idle = refl;
    bare = refl;
    there = refl;
    all_in = refl;
    its_out = refl;
  }

  pub may_enter : MayTake (partial t done) (Enter k)
  may_enter = let here = at_k (λ d. IsPort t.shape d.from × IsPort t.shape d.to) s.ports in record {
    apt = record { from = here.0; to = here.1; unequal = at_k (λ d. d.from.0 ≢ d.to.0) p.table.unequal };
    says = ap (λ o. judged o (Some (Enter k))) (none_of (partial t done) (asks.Enter k) clear);
  }

  pub entered : effect (partial t done) (Enter k) ≡ partial t (done ++ k ∷ [])
  entered = ap (partial t) (put_last k done ks (rises_of (done ++ k ∷ ks) apart (subst (IsOrdered is_before) e p.table.order)))

  pub row_makes : (b : Colouring) → IsPlaced (partial t done) b → IsPartOf c b → Makes 2 (partial t done) b (row_of c k) (Enter k) (map (stand t.out c p.colouring p.empty) (legs_of k)) × IsPartOf c (after_ops (map (stand t.out c p.colouring p.empty) (legs_of k)) b)
  row_makes b placed part =
      let ready = tasks_ready (partial t done) b placed (Enter k) may_enter in
      let work = joins_stand t.out c p.colouring p.empty (legs_of k) b placed.colouring (placed.shape ∙ sym p.shape) part ready (λ l m. (p.legs_held l).1 (subst (λ (cs : List Conn). Among l (legs cs)) (sym e) (among_legs l done k ks m))) in (
        record {
          choices = map (standing c) (legs_of k);
          entry = record { fits = at_k FitsConn fits; number = length-map (legs_of k) (standing c); old = λ no. absurd (let z : ⊥ = omega arith in z) };
          spelled = refl;
          granted = may_enter;
          works = work.0;
        },
        work.1,
      )

rows_stand : (t : Board) (c : Colouring) (p : IsPlaced t c) (s : IsOfShape t) (fits : AllByRecursion FitsConn t.conns) (rest done : List Conn) (b : Colouring) (ops : List LegOp) (n : ℕ) → t.conns ≡ done ++ rest → IsPlaced (partial t done) b → IsPartOf c b
    → (os : List LegOp) × (m : ℕ) × FoldsTo Two (folded (partial t done) b ops n) (map (row_of c) rest) (folded t c os m)
rows_stand t c p s fits [] done b ops n e placed part =
    let all = e ∙ append-nil done in
    let shape = placed.shape ∙ sym p.shape in
    let colours = same_colouring b c shape (placed.colouring.size ∙ ap ports shape ∙ sym p.colouring.size) part (λ l h. (placed.legs_held l).1 (subst (λ (cs : List Conn). Among l (legs cs)) all ((p.legs_held l).0 h))) in
    (ops, n, λ i. folded (partial t (all i)) (sym colours i) ops n)
rows_stand t c p s fits (k ∷ ks) done b ops n e placed part =
    let os = map (stand t.out c p.colouring p.empty) (legs_of k) in
    let makes = row_makes t c p s fits done k ks e b placed part in
    let same = entered t c p s fits done k ks e in
    let m = n + switches_in (ops_writes os) in
    let next = rows_stand t c p s fits ks (done ++ k ∷ []) (after_ops os b) os m (e ∙ sym (append_assoc done (k ∷ []) ks))
    (subst (λ (u : Board). IsPlaced u (after_ops os b)) same (placed_after (partial t done) b (Enter k) makes.0.choices os placed makes.0.granted makes.0.works)) makes.1 in
    (next.0, next.1, (Enter k, os, makes.0, subst (λ (u : Board). FoldsTo Two (folded u (after_ops os b) os m) (map (row_of c) ks) (folded t c next.0 next.1)) (sym same) next.2))

-- The middle that is out is taken out of the empty table first.
module _ (t : Board) (c : Colouring) (p : IsPlaced t c) (s : IsOfShape t) (fits : AllByRecursion FitsConn t.conns) (equipped : ℕ) (same : modules_in t.shape equipped ≡ t.equipped) where
  first : IsPlaced (empty_table t.shape equipped) (no_legs t.shape)
  first = none_placed t.shape equipped

  no_part : IsPartOf c (no_legs t.shape)
  no_part l k h = absurd (none_held t.shape l k h)

  abbrev none_moved : List LegOp
  none_moved = op.Shift (record { items = [] }) ∷ []

  take_makes : (m : Middle) → t.out ≡ Some m → Makes 2 (empty_table t.shape equipped) (no_legs t.shape) (spelling (TakeOut m) []) (TakeOut m) none_moved
  take_makes m e = record {
    choices = [];
    entry = record { fits = tt; number = refl; old = λ no. absurd (let z : ⊥ = omega arith in z) };
    spelled = refl;
    granted = record {
      apt = subst (λ (o : Option Middle). IfSome o (λ q. IsWorking t.shape q.0)) e s.out;
      says = ap (λ o. judged o (Some (TakeOut m))) (none_of (empty_table t.shape equipped) (asks.TakeOut m) (record { equipped = refl; free = refl; other = refl; idle = refl; bare = refl; there = refl; all_in = refl; its_out = refl }));
    };
    works = (refl, (op.Shift (record { items = [] }), ([], record { each = λ x. ((λ a. absurd a), (λ h. none_held t.shape x m.0 h)); order = tt }, refl), refl));
  }

  pub stands_from : (o : Option Middle) → t.out ≡ o → (os : List LegOp) × (m : ℕ) × FoldsTo Two (none_folded t.shape equipped) (out_rows o ++ map (row_of c) t.conns) (folded t c os m)
  unfolding take_makes
  stands_from None e =
      let same_table : empty_table t.shape equipped ≡ partial t [] = λ i. record { shape = t.shape; conns = []; equipped = same i; out = sym e i } in
      let rest = rows_stand t c p s fits t.conns [] (no_legs t.shape) [] 0 refl (subst (λ (u : Board). IsPlaced u (no_legs t.shape)) same_table first) no_part in
      (rest.0, rest.1, subst (λ (u : Board). FoldsTo Two (folded u (no_legs t.shape) [] 0) (map (row_of c) t.conns) (folded t c rest.0 rest.1)) (sym same_table) rest.2)
  stands_from (Some m) e =
      let makes = take_makes m e in
      let n = 0 + switches_in (ops_writes none_moved) in
      let same_table : effect (empty_table t.shape equipped) (TakeOut m) ≡ partial t [] = λ i. record { shape = t.shape; conns = []; equipped = same i; out = sym e i } in
      let placed = placed_after (empty_table t.shape equipped) (no_legs t.shape) (TakeOut m) [] none_moved first makes.granted makes.works in
      let rest = rows_stand t c p s fits t.conns [] (no_legs t.shape) none_moved n refl (subst (λ (u : Board). IsPlaced u (no_legs t.shape)) same_table placed) no_part in
      (rest.0, rest.1, (TakeOut m, none_moved, makes, subst (λ (u : Board). FoldsTo Two (folded u (no_legs t.shape) none_moved n) (map (row_of c) t.conns) (folded t c rest.0 rest.1)) (sym same_table) rest.2))

pub checkpoints_stand : CheckpointsStand
checkpoints_stand t c equipped p s fits same = stands_from t c p s fits equipped same t.out refl

-- The legs of a connection at some place of the table stand.
some_conn : (c k : Conn) → Some c ≡ Some k → c ≡ k
some_conn c k e = cc

found_leg : (l : Leg) (c k : Conn) (cs : List Conn) (o : Option Conn) (b : Bool) → cond b (Some c) o ≡ Some k → Among l (legs_of k) → (o ≡ Some k → Among l (legs cs)) → Among l (legs (c ∷ cs))
found_leg l c k cs o true f m more = among_left l (legs_of c) (legs cs) (subst (λ (x : Conn). Among l (legs_of x)) (sym (some_conn c k f)) m)
found_leg l c k cs o false f m more = among_right l (legs_of c) (legs cs) (more f)

found_legs : (l : Leg) (q : Conn → Bool) (cs : List Conn) (k : Conn) → find q cs ≡ Some k → Among l (legs_of k) → Among l (legs cs)
found_legs l q [] k f m = absurd (true_false cc)
found_legs l q (c ∷ cs) k f m = found_leg l c k cs (find q cs) (q c) f m (λ g. found_legs l q cs k g m)

pub held_at : (t : Board) (c : Colouring) (p : ℕ) (k : Conn) → IsPlaced t c → first_from p t.conns ≡ Some k → (l : Leg) → Among l (legs_of k) → IsHeld c l
held_at t c p k at f l m = (at.legs_held l).1 (found_legs l (is_from_on p) t.conns k f m)

abbrev first_of : List Conn → Option Conn
first_of [] = None
first_of (c ∷ cs) = Some c

first_here : (c : Conn) (o : Option Conn) (ds : List Conn) (b : Bool) → o ≡ first_of ds → cond b (Some c) o ≡ first_of (cond b (c ∷ ds) ds)
first_here c o ds true e = refl
first_here c o ds false e = e

find_first : (q : Conn → Bool) (cs : List Conn) → find q cs ≡ first_of (filter q cs)
find_first q [] = refl
find_first q (c ∷ cs) = first_here c (find q cs) (filter q cs) (q c) (find_first q cs)

get_first : (i : ℕ) (cs : List Conn) → first_of (drop i cs) ≡ slice_get cs i
get_first zero [] = refl
get_first zero (c ∷ cs) = refl
get_first (suc i) [] = refl
get_first (suc i) (c ∷ cs) = get_first i cs

drop_more : (i : ℕ) (c : Conn) (cs ds : List Conn) → drop i cs ≡ c ∷ ds → drop (suc i) cs ≡ ds
drop_more zero c [] ds e = absurd (true_false cc)
drop_more zero c (d ∷ cs) ds e = cc
drop_more (suc i) c [] ds e = absurd (true_false cc)
drop_more (suc i) c (d ∷ cs) ds e = drop_more i c cs ds e

-- the row of the first connection from a port on, where so many connections are after
row_from : (c : Colouring) (cs : List Conn) (i p : ℕ) → drop i cs ≡ from_on p cs → option_map (row_of c) (first_from p cs) ≡ slice_get (map (row_of c) cs) i
row_from c cs i p e = ap (option_map (row_of c)) (find_first (is_from_on p) cs ∙ (ap first_of (sym e) ∙ get_first i cs)) ∙ sym (slice_get-map (row_of c) cs i)

pub row_in : (t : Board) (c : Colouring) (i p : ℕ) → t.out ≡ None → IsRowAt t i p → option_map (row_of c) (first_from p t.conns) ≡ slice_get (checkpoint t c) i
row_in t c i p e at = row_from c t.conns i p (subst (λ (o : Option Middle). left_behind o i t.conns ≡ from_on p t.conns) e at) ∙ ap (λ (o : Option Middle). slice_get (out_rows o ++ map (row_of c) t.conns) i) (sym e)

pub row_out : (t : Board) (c : Colouring) (m : Middle) (i p : ℕ) → t.out ≡ Some m → i ≢ 0 → IsRowAt t i p → option_map (row_of c) (first_from p t.conns) ≡ slice_get (checkpoint t c) i
row_out t c m zero p e n at = absurd (n refl)
row_out t c m (suc i) p e n at = row_from c t.conns i p (subst (λ (o : Option Middle). left_behind o (suc i) t.conns ≡ from_on p t.conns) e at) ∙ ap (λ (o : Option Middle). slice_get (out_rows o ++ map (row_of c) t.conns) (suc i)) (sym e)

pub row_taken : (t : Board) (c : Colouring) (m : Middle) → t.out ≡ Some m → Some (spelling (TakeOut m) []) ≡ slice_get (checkpoint t c) 0
row_taken t c m e = ap (λ (o : Option Middle). slice_get (out_rows o ++ map (row_of c) t.conns) 0) (sym e)

-- where the next row's connections are
next_from : (t : Board) (i p q : ℕ) (k : Conn) → IsProper t → drop i t.conns ≡ from_on p t.conns → first_from p t.conns ≡ Some k → q ≡ k.from.0 + 1 → drop (suc i) t.conns ≡ from_on q t.conns
next_from t i p q k proper e f same = drop_more i k t.conns (from_on (k.from.0 + 1) t.conns) (e ∙ left_is p k t.conns (rises_of t.conns (apart_of t.conns proper.apart) proper.order) f) ∙ ap (λ n. from_on n t.conns) (sym same)

next_by : (o : Option Middle) (t : Board) (i p q : ℕ) (k : Conn) → IsProper t → left_behind o i t.conns ≡ from_on p t.conns → (is_some o ≡ true → i ≢ 0) → first_from p t.conns ≡ Some k → q ≡ k.from.0 + 1 → left_behind o (suc i) t.conns ≡ from_on q t.conns
next_by None t i p q k proper at n f same = next_from t i p q k proper at f same
next_by (Some m) t zero p q k proper at n f same = absurd (n refl refl)
next_by (Some m) t (suc i) p q k proper at n f same = next_from t i p q k proper at f same

some_found : (f : Conn → List ℕ) (o : Option Conn) (x : List ℕ) → Some x ≡ option_map f o → (k : Conn) × (o ≡ Some k)
some_found f None x e = absurd (true_false cc)
some_found f (Some k) x e = (k, refl)

row_next : (t : Board) (c : Colouring) (i p q : ℕ) (r : Option (List ℕ)) → IsPlaced t c → IsRowAt t i p → (is_some t.out ≡ true → i ≢ 0) → r ≡ option_map (row_of c) (first_from p t.conns)
    → ((k : Conn) → first_from p t.conns ≡ Some k → q ≡ k.from.0 + 1) → IfSome r (λ row. IsRowAt t (i + 1) q)
row_next t c i p q None at e n f next = tt
row_next t c i p q (Some x) at e n f next = let k = some_found (row_of c) (first_from p t.conns) x f in
    let more : suc i ≡ i + 1 = omega arith in
    subst (λ (j : ℕ). left_behind t.out j t.conns ≡ from_on q t.conns) more (next_by t.out t i p q k.0 at.table e n k.1 (next k.0 k.1))

pub next_in : (t : Board) (c : Colouring) (i p q : ℕ) (r : Option (List ℕ)) → IsPlaced t c → t.out ≡ None → IsRowAt t i p → r ≡ option_map (row_of c) (first_from p t.conns)
    → ((k : Conn) → first_from p t.conns ≡ Some k → q ≡ k.from.0 + 1) → IfSome r (λ row. IsRowAt t (i + 1) q)
next_in t c i p q r at o e f next = row_next t c i p q r at e (λ s. absurd (true_false (sym s ∙ ap is_some o))) f next

pub next_out : (t : Board) (c : Colouring) (i p q : ℕ) (r : Option (List ℕ)) → IsPlaced t c → i ≢ 0 → IsRowAt t i p → r ≡ option_map (row_of c) (first_from p t.conns)
    → ((k : Conn) → first_from p t.conns ≡ Some k → q ≡ k.from.0 + 1) → IfSome r (λ row. IsRowAt t (i + 1) q)
next_out t c i p q r at o e f next = row_next t c i p q r at e (λ s. o) f next

pub next_taken : (t : Board) (m : Middle) (p : ℕ) → t.out ≡ Some m → IsRowAt t 0 p → IsRowAt t 1 p
next_taken t m p e at = subst (λ (o : Option Middle). left_behind o 1 t.conns ≡ from_on p t.conns) (sym e) (subst (λ (o : Option Middle). left_behind o 0 t.conns ≡ from_on p t.conns) e at)

first_at : (o : Option Middle) (cs : List Conn) → left_behind o 0 cs ≡ from_on 0 cs
first_at None cs = sym (all_from cs)
first_at (Some m) cs = sym (all_from cs)

-- the first row is that from port 0 on
pub row_first : (t : Board) → IsRowAt t 0 0
row_first t = first_at t.out t.conns

-- both legs of a connection are its legs
pub first_leg : (x y : Port) (w : Cct) → Among (leg_between x y) (legs_between x y w)
first_leg x y OneWay = inl refl
first_leg x y TwoWay = inl refl

pub second_leg : (x y : Port) (w : Cct) (l b : Leg) → w ≡ TwoWay → l ≡ leg_between x y → b ≡ leg_back l → Among b (legs_between x y w)
second_leg x y w l b is e f = subst (λ (v : Cct). Among b (legs_between x y v)) (sym is) (inr (inl (sym (f ∙ ap leg_back e))))
