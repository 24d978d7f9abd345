-- Where the registers of a halted Provisioner are on the last work of records.
use Rattle.std.proofs.Common.{◌≡◌, inl, inr, ⊎_elim, ℕ, ◌+◌, ◌≤◌, List, [], ◌∷◌, ◌++◌, length, take, drop, Option, Some, None, sym, refl, ap, ◌∙◌, subst, arith}
use Rattle.std.proofs.lemmas.List.{append-nil, drop_all, take_all}
use Rattle.std.proofs.Math.Decide.{dec_lt}
use mathlib.Core.Logic.{dite}
use Rattle.dxc_disk.specs.Disks.{DiskState}
use Rattle.dxc_num.specs.declared.register.RegWrite.{RegWrite}
use Rattle.dxc_num.specs.Dimensions.{Dimensions, IsInLimits}
use Rattle.dxc_model.specs.declared.op.Op.{Op}
use Rattle.dxc_model.specs.declared.op.Change.{Change}
use Rattle.dxc_model.specs.Tables.{Board}
use Rattle.dxc_model.specs.Verdicts.{Grants}
use Rattle.dxc_model.proofs.Altering.{alters}
use Rattle.dxc_model.proofs.Verdicts.{own_verdict}
use Rattle.fabric_core.specs.declared.size.Size.{Size}
use Rattle.fabric_core.specs.declared.mover.Mover.{Mover}
use Rattle.roll_plan.specs.declared.op.LegOp.{LegOp}
use Rattle.roll_plan.specs.declared.work.Work.{Work}
use Rattle.roll_plan.specs.declared.op.LegOp.TheVariants as op
use Rattle.roll_plan.specs.declared.op.Move.{Move}
use Rattle.roll_plan.specs.Works.{join_writes, moves_writes, op_writes, ops_writes, switches_in, writes_of}
use Rattle.paull_matrix.specs.Colourings.{Colouring, with_leg, without_leg}
use Rattle.paull_chain.specs.Works.{AreValidOps, IsValidOp, MovesMade, OpMade, OpsMade, after, after_op, after_ops, moved}
use Rattle.paull_chain.proofs.Undoing.{join_back, move_back, moved_proper, part_back}
use Rattle.paull_chain.proofs.Working.{op_proper, ops_shape}
use Rattle.roll_engine.specs.Courses.{at_rest, course_after}
use Rattle.roll_engine.specs.Rollings.{RollingAt, rest_of}
use Rattle.roll_engine.specs.Stages.{IsAtRestOn, IsMidway}
use Rattle.roll_engine.proofs.Colouring.{join_leads}
use Rattle.roll_engine.proofs.Running.{after_on}
use Rattle.roll_engine.proofs.UnderWay.{under_way_done}
use Rattle.xc_recovery.specs.Folds.{Folded, none_folded}
use Rattle.journal_core.specs.declared.book.Book.{Book}
use Rattle.journal_core.specs.declared.head.Head.{Head}
use Rattle.xc_recovery.specs.ChangeWorks.{choices_in}
use Rattle.xc_recovery.specs.Placings.{IsPlaced}
use Rattle.xc_recovery.specs.Replays.{ComesTo}
use Rattle.xc_recovery.specs.Stages.{IsLastWork}
use Rattle.xc_recovery.proofs.Differing.{stage_once}
use Rattle.xc_recovery.proofs.Folding.{folds_once, none_seated}
use Rattle.xc_recovery.proofs.LastWorks.{last_undone}
use Rattle.xc_recovery.proofs.Once.{change_plans_once}
use Rattle.xc_recovery.proofs.Placing.{change_leaves}
use Rattle.xc_recovery.proofs.Spelled.{changes_made}
use Rattle.roll_engine.specs.UnderWay.{unmade}
use Rattle.roll_engine.proofs.Running.{drop_none}
use Rattle.roll_engine.proofs.UnderWay.{under_way_begun}
use Rattle.xc_core.specs.Journals.{IsRecordOf}
use Rattle.xc_core.proofs.Rolling.{within}
use Rattle.xc_core.specs.declared.provisioner.Provisioner.{Provisioner}
use Rattle.xc_core.specs.Reckonings.{IsPlannedFor, Past, changed}
use Rattle.xc_core.specs.Provisioners.{KeepsPast}
use Rattle.xc_core.specs.Restarts.{HasWay, IsOnWay, IsOwnWay, LastIs, TakesUp}
use Rattle.xc_core.proofs.Granting.{granted_once}

-- the course that the writes of ops come to, each of which may be made
moves_come : (ms : List Move) (c : Colouring) (us : List RegWrite) → course_after (moves_writes ms ++ us) (at_rest c.routes) ≡ course_after us (at_rest (after ms c).routes)
moves_come [] c us = refl
moves_come (v ∷ vs) c us = moves_come vs (moved v c) us

op_comes : (o : LegOp) (c : Colouring) → IsValidOp c o → course_after (op_writes o) (at_rest c.routes) ≡ at_rest (after_op o c).routes
op_comes (op.Join l h ms) c v = moves_come ms.items c (join_writes l h.middle) ∙ (join_leads (after ms.items c) l h.middle v.1).after
op_comes (op.Part l k) c v = refl
op_comes (op.Shift ms) c v = ap (λ (ws : List RegWrite). course_after ws (at_rest c.routes)) (sym (append-nil (moves_writes ms.items))) ∙ moves_come ms.items c []

ops_come : (ops : List LegOp) (c : Colouring) → AreValidOps c ops → course_after (ops_writes ops) (at_rest c.routes) ≡ at_rest (after_ops ops c).routes
ops_come [] c v = refl
ops_come (o ∷ os) c v = after_on (op_writes o) (ops_writes os) (at_rest c.routes) ∙ (ap (course_after (ops_writes os)) (op_comes o c v.0) ∙ ops_come os (after_op o c) v.1)

-- ops were made on one colouring
moves_once : (ms : List Move) (a b d : Colouring) → MovesMade ms a d → MovesMade ms b d → a ≡ b
moves_once [] a b d one other = sym one.2 ∙ other.2
moves_once (v ∷ vs) a b d one other =
    let p = moved_proper a v one.0 one.1.0 one.1.1 one.1.2 in
    let q = moved_proper b v other.0 other.1.0 other.1.1 other.1.2 in
    sym (move_back a v one.1.0) ∙ (ap (with_leg v.leg v.from.0) (moves_once vs (moved v a) (moved v b) d (p, one.1.3, one.2) (q, other.1.3, other.2)) ∙ move_back b v other.1.0)

op_once : (o : LegOp) (a b d : Colouring) → OpMade o a d → OpMade o b d → a ≡ b
op_once (op.Join l h ms) a b d one other = moves_once ms.items a b (without_leg l d) (join_back a d l h ms one).1 (join_back b d l h ms other).1
op_once (op.Part l k) a b d one other = sym (part_back a d l k one).1 ∙ (part_back b d l k other).1
op_once (op.Shift ms) a b d one other = moves_once ms.items a b d one other

pub ops_once : (ops : List LegOp) (a b d : Colouring) → OpsMade ops a d → OpsMade ops b d → a ≡ b
ops_once [] a b d one other = sym one.2 ∙ other.2
ops_once (o ∷ os) a b d one other =
    let p = op_proper o a one.0 one.1.0 in
    let q = op_proper o b other.0 other.1.0 in
    let same = ops_once os (after_op o a) (after_op o b) d (p, one.1.1, one.2) (q, other.1.1, other.2) in
    op_once o a b (after_op o b) (one.0, one.1.0, sym same) (other.0, other.1.0, refl)

-- a number of writes that there are
clip : (ws : List RegWrite) (n : ℕ) → (s : ℕ) × (s ≤ length ws) × (take s ws ≡ take n ws) × (drop s ws ≡ drop n ws)
clip ws n = dite (dec_lt (length ws) n)
    (λ past. (length ws, omega arith, take_all (length ws) ws (omega arith) ∙ sym (take_all n ws (omega arith)), drop_all (length ws) ws (omega arith) ∙ sym (drop_all n ws (omega arith))))
    (λ low. (n, omega arith, refl, refl))

-- a stage of the last work is one
module _ (z : Size) (m : Mover) (c d : Colouring) (ops : List LegOp) (last : IsLastWork c ops d) where
  none_made : (s : ℕ) → ops ≡ [] → s ≤ length (ops_writes ops) → s ≡ 0
  none_made s none low = let n = ap (λ (os : List LegOp). length (ops_writes os)) none in omega arith

  pub last_stage : (s u : ℕ) → s ≤ length (ops_writes ops) → u ≤ length (ops_writes ops) → IsMidway z c (ops_writes ops) s m → IsMidway z c (ops_writes ops) u m → s ≡ u
  last_stage s u ls lu here there = ⊎_elim
      (λ (none : ops ≡ []). none_made s none ls ∙ sym (none_made u none lu))
      (λ granted. stage_once last.table c last.change last.choices ops s u last.placed granted last.works ls lu (sym here.course ∙ there.course))
      last.granted

-- what there is after a change was taken up is one
module _ (b : Past) (doubt : Option Op) where
  same_some : {x y : Op} → Some x ≡ Some y → x ≡ y
  same_some e = cc

  pub taken_once : (l k : Option Change) (g f : Past) → TakesUp b doubt l g → TakesUp b doubt k f → g.fold.table ≡ f.fold.table → (l ≡ k) × (g ≡ f)
  taken_once None None g f is also same = (refl, is ∙ sym also)
  taken_once None (Some c) g f is (op, asked, granted, met, also) same = absurd (alters b.fold.table op c granted (sym (ap (λ (x : Past). x.fold.table) also) ∙ (sym same ∙ ap (λ (x : Past). x.fold.table) is)))
  taken_once (Some c) None g f (op, asked, granted, met, is) also same = absurd (alters b.fold.table op c granted (sym (ap (λ (x : Past). x.fold.table) is) ∙ (same ∙ ap (λ (x : Past). x.fold.table) also)))
  taken_once (Some c) (Some d) g f (op, asked, granted, met, is) (x, ask, grant, meet, also) same =
      let change : d ≡ c = granted_once b.fold.table op c d granted (subst (λ (y : Op). Grants b.fold.table y d) (sym (same_some (sym asked ∙ ask))) grant) in
      let ops : met.ops ≡ meet.ops = change_plans_once b.fold.table b.fold.colours c met.ops meet.ops met.planned (subst (λ (y : Change). IsPlannedFor b y meet.ops) change meet.planned) in
      (ap (λ (y : Change). Some y) (sym change), is ∙ ((λ i. changed b (sym change i) (ops i)) ∙ sym also))

  pub taken_shape : IsPlaced b.fold.table b.fold.colours → (l : Option Change) (g : Past) → TakesUp b doubt l g → g.fold.colours.shape ≡ b.fold.colours.shape
  taken_shape placed None g is = ap (λ (x : Past). x.fold.colours.shape) is
  taken_shape placed (Some c) g (op, asked, granted, met, is) = ap (λ (x : Past). x.fold.colours.shape) is ∙ ops_shape met.ops b.fold.colours

-- the table's shape is that of the registers
pub way_fits : {D : Type 0} (b : Past) (p : Provisioner D) → KeepsPast b p → HasWay b p → b.fold.table.shape ≡ p.mover.fabric.size.shape
way_fits b p past w = sym past.placed.shape ∙ (sym (taken_shape b p.doubt past.placed w.lacking w.past w.taken) ∙ (sym (ap (λ (c : Colouring). c.shape) w.on_way.leads) ∙ (ops_shape w.rolling.work.ops.items w.before ∙ w.on_way.under_way.midway.shape)))

-- it is within the limits, since that is
pub way_limits : {D : Type 0} (b : Past) (p : Provisioner D) → KeepsPast b p → HasWay b p → IsInLimits b.fold.table.shape
way_limits b p past w = subst IsInLimits (sym (way_fits b p past w)) w.on_way.under_way.midway.sized.shape

-- the work of a record in doubt begins where nothing is to be made
pub way_begins : {D : Type 0} (b : Past) (p : Provisioner D) → KeepsPast b p → (g : Past) (before : Colouring) (r : RollingAt) → g ≡ b → IsOnWay p before g r → rest_of r ≡ [] → (op : Op) (bytes : List ℕ) (d : IsRecordOf b op bytes)
    → IsOnWay p b.fold.colours (changed b d.change d.within.ops) (unmade (record { ops = record { items = d.within.ops } }))
way_begins b p past g before r taken way own op bytes d =
    let ops : List LegOp = d.within.ops in
    let z : Size = p.mover.fabric.size in
    let placed = past.placed in
    let rest : IsAtRestOn z b.fold.colours p.mover.mover = subst (λ (c : Colouring). IsAtRestOn z c p.mover.mover) (way.leads ∙ ap (λ (y : Past). y.fold.colours) taken) (under_way_done z before r p.mover.mover way.under_way own) in
    let fits = within (b.fold.switches + switches_in (ops_writes ops)) b.changes (sym d.within.limit) in
    let number : length p.mover.mover.log ≡ b.fold.switches = (let e = ap switches_in own in let n = way.switches in let u = ap (λ (y : Past). y.fold.switches) taken in omega (arith, e, n, u)) in
    let w : Work = record { ops = record { items = ops } } in
    let valid = change_leaves b.fold.table b.fold.colours d.change (choices_in ops) ops placed (own_verdict b.fold.table op d.change d.granted) (changes_made b.fold.table b.fold.colours d.change ops d.within.planned) in
    record {
      under_way = under_way_begun z b.fold.colours w p.mover.mover placed.colouring valid.steps rest (let few = fits.0 in omega (arith, few, number));
      leads = refl;
      switches = let e = ap switches_in (drop_none (writes_of w)) in omega (arith, e, number);
      alone = refl;
    }

-- records come to one thing
pub comes_once : (d : Dimensions) (e : Head) (records : List (List ℕ)) (t u : Board) (c a : Colouring) (ops os : List LegOp) → ComesTo d e records t c ops → ComesTo d e records u a os → (t ≡ u) × (c ≡ a) × (ops ≡ os)
comes_once d e records t u c a ops os one other =
    let f : Folded = record { table = t; colours = c; work = ops; switches = one.0 } in
    let g : Folded = record { table = u; colours = a; work = os; switches = other.0 } in
    let same : f ≡ g = folds_once e.version d (none_folded d e.equipped) f g records (none_seated d e.equipped) one.1 other.1 in
    (ap (λ (x : Folded). x.table) same, ap (λ (x : Folded). x.colours) same, ap (λ (x : Folded). x.work) same)

-- a stage at which the registers are, and what it leaves to be made
pub record IsAtStage {D : Type 0} (s : DiskState) (book : Book) (b : Past) (p : Provisioner D) (l : Option Change) (g : Past) (ops : List LegOp) (c : Colouring) : Type 0 where
  pub step : ℕ
  pub low : step ≤ length (ops_writes ops)
  pub midway : IsMidway p.mover.fabric.size c (ops_writes ops) step p.mover.mover
  pub switches : length p.mover.mover.log + switches_in (drop step (ops_writes ops)) ≡ g.fold.switches
  pub own : (r : RollingAt) → r.work.ops.items ≡ ops → r.step ≡ step → IsOwnWay s book b l c g r

-- Legs to which a last work led, beside a Provisioner whose registers are on its way to legs that may be these.
module _ {D : Type 0} (state : D → DiskState) (b : Past) (p : Provisioner D) (past : KeepsPast b p) (d : Colouring) (ops : List LegOp) (fits : d.shape ≡ p.mover.fabric.size.shape) where
  abbrev z : Size
  z = p.mover.fabric.size

  abbrev m : Mover
  m = p.mover.mover

  abbrev s : DiskState
  s = state p.journal.0

  abbrev book : Book
  book = p.journal.1

  last_shape : (c : Colouring) → IsLastWork c ops d → c.shape ≡ z.shape
  last_shape c is = sym (ops_shape ops c) ∙ (sym (ap (λ (x : Colouring). x.shape) is.leads) ∙ fits)

  -- at the end of a work that led here, the registers are at the last stage of the last work
  ended_stage : (g : Past) (before : Colouring) (r : RollingAt) → IsOnWay p before g r → rest_of r ≡ [] → d ≡ g.fold.colours → (c : Colouring) → IsLastWork c ops d → IsMidway z c (ops_writes ops) (length (ops_writes ops)) m
  ended_stage g before r way none same c is =
      let rest : IsAtRestOn z (after_ops r.work.ops.items before) m = under_way_done z before r m way.under_way none in record {
        sized = rest.sized;
        shape = last_shape c is;
        ruled = rest.ruled;
        course = rest.course ∙ (ap (λ (x : Colouring). at_rest x.routes) (way.leads ∙ (sym same ∙ is.leads)) ∙ (sym (ops_come ops c is.valid) ∙ ap (λ (ws : List RegWrite). course_after ws (at_rest c.routes)) (sym (take_all (length (ops_writes ops)) (ops_writes ops) (omega arith)))));
      }

  -- the last work is that of the change that is taken up, if one is
  abbrev pub IsWorkOf : Option Change → Past → Type 0
  IsWorkOf None g = Unit {0}
  IsWorkOf (Some c) g = ops ≡ g.fold.work

  -- the registers are on the way of the last work, which was made on this colouring
  at_own : (l : Option Change) (g : Past) (before : Colouring) (r : RollingAt) → IsOnWay p before g r → r.work.ops.items ≡ ops → (c : Colouring) → IsLastWork c ops d → before ≡ c → ((q : RollingAt) → q.work.ops.items ≡ ops → IsOwnWay s book b l c g q) → IsAtStage s book b p l g ops c
  at_own l g before r way rolled c is same own =
      let ws : List RegWrite = ops_writes ops in
      let cut = clip ws r.step in
      record {
        step = cut.0;
        low = cut.1;
        midway = record {
          sized = way.under_way.midway.sized;
          shape = last_shape c is;
          ruled = way.under_way.midway.ruled;
          course = way.under_way.midway.course ∙ ((λ i. course_after (take r.step (ops_writes (rolled i))) (at_rest (same i).routes)) ∙ ap (λ (us : List RegWrite). course_after us (at_rest c.routes)) (sym cut.2));
        };
        switches = ap (λ (us : List RegWrite). length m.log + switches_in us) (cut.3 ∙ ap (λ (os : List LegOp). drop r.step (ops_writes os)) (sym rolled)) ∙ way.switches;
        own = λ q also at. own q also;
      }

  -- they are at its end
  pub at_end : (g : Past) (before : Colouring) (r : RollingAt) → IsOnWay p before g r → rest_of r ≡ [] → d ≡ g.fold.colours → (c : Colouring) → IsLastWork c ops d → IsAtStage s book b p None g ops c
  at_end g before r way done led c is = record {
    step = length (ops_writes ops);
    low = omega arith;
    midway = ended_stage g before r way done led c is;
    switches =
        let none = ap switches_in (drop_all (length (ops_writes ops)) (ops_writes ops) (omega arith)) in
        let e = ap switches_in done in
        let s = way.switches in
        omega (arith, none, e, s);
    own = λ q same at. inl ((λ i. drop (at i) (ops_writes (same i))) ∙ drop_all (length (ops_writes ops)) (ops_writes ops) (omega arith));
  }

  -- they are at a stage of it
  pub at_stage : (l : Option Change) (g : Past) (before : Colouring) (r : RollingAt) → TakesUp b p.doubt l g → (way : IsOnWay p before g r) → IsOwnWay s book b l before g r → d ≡ g.fold.colours → IsWorkOf l g → (LastIs s book b r.work.ops.items → r.work.ops.items ≡ ops)
      → (c : Colouring) → IsLastWork c ops d → IsAtStage s book b p l g ops c
  at_stage None g before r taken way own led work last_read c is = elim own [
    | inl done ↦ at_end g before r way done led c is
    | inr listed_last ↦ (
        let rolled = last_read listed_last in
        let leads : d ≡ after_ops ops before = led ∙ sym way.leads ∙ ap (λ (os : List LegOp). after_ops os before) rolled in
        let made : OpsMade ops before d = (way.under_way.proper, subst (AreValidOps before) rolled way.under_way.valid, leads) in
        at_own None g before r way rolled c is (ops_once ops before c d made (last_undone c ops d is))
        (λ q also. inr (subst (LastIs s book b) (rolled ∙ sym also) listed_last))
        )
  ]
  at_stage (Some x) g before r (op, asked, granted, met, is_g) way own led work last_read c is =
      let placed = past.placed in
      let ops_are : ops ≡ met.ops = work ∙ ap (λ (f : Past). f.fold.work) is_g in
      let made : OpsMade met.ops b.fold.colours (after_ops met.ops b.fold.colours) = (placed.colouring, (change_leaves b.fold.table b.fold.colours x (choices_in met.ops) met.ops placed (own_verdict b.fold.table op x granted) (changes_made b.fold.table b.fold.colours x met.ops met.planned)).steps, refl) in
      let leads_to : d ≡ after_ops met.ops b.fold.colours = led ∙ ap (λ (f : Past). f.fold.colours) is_g in
      let here : OpsMade ops c d = last_undone c ops d is in
      let same : c ≡ b.fold.colours = ops_once met.ops c b.fold.colours (after_ops met.ops b.fold.colours) (subst (λ (w : List LegOp × Colouring). OpsMade w.0 c w.1) (λ i. (ops_are i, leads_to i)) here) made in
      at_own (Some x) g before r way (own.0 ∙ sym work) c is (own.1 ∙ sym same) (λ q also. (also ∙ work, same))
