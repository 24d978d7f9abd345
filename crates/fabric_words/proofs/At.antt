-- The steps, at a key and a place that are known by equations.
use Rattle.std.proofs.Common.{◌≡◌, ℕ, ◌+◌, ◌%◌, ◌^◌, ◌<◌, length, sym, ap, ◌∙◌, subst, arith, eqb}
use mathlib.Core.Option.{none, some}
use prog.Atomic.{either}
use Rattle.atomic_table.specs.Table.{Me, step, Allows}
use Rattle.atomic_table.specs.Seated.{TableId}
use Rattle.dxc_num.specs.Dimensions.{IsPort, IsInLimits, module_of, slot_of}
use Rattle.dxc_num.specs.declared.port.Port.{Port}
use Rattle.dxc_num.specs.declared.port.Leg.{Leg}
use Rattle.dxc_num.specs.declared.port.Middle.{Middle}
use Rattle.dxc_num.specs.declared.port.Route.{Route}
use Rattle.dxc_num.specs.declared.register.Reg.{Reg}
use Rattle.dxc_num.specs.declared.register.Reg.TheVariants.{In, Mid, Out}
use Rattle.fabric_core.specs.declared.size.Size.{Size}
use Rattle.fabric_core.specs.declared.phase.Phase.TheVariants.{InSet, MidSet}
use Rattle.fabric_core.specs.declared.worker.Hold.{Hold}
use Rattle.fabric_core.specs.declared.worker.Hold.TheVariants.{Empty, Output, Path}
use Rattle.fabric_core.specs.Registers.{in_cell, out_of}
use Rattle.fabric_core.specs.Working.{Runs, CanBegin, CanLoadOut}
use Rattle.fabric_core.specs.Moving.{IsMiddle, CanSetIn, HasSwitch, CanClearOut, CanClearMid, CanClearIn}
use Rattle.fabric_core.proofs.Cells.{module_lt, in_cell_lt, mid_cell_lt}
use Rattle.fabric_words.specs.declared.table.Aim.{Aim}
use Rattle.fabric_words.specs.declared.table.View.{View}
use Rattle.fabric_words.specs.Places.{mid_place, out_place, frame_place, word_count, reg_place, IsRegInside}
use Rattle.fabric_words.specs.Tied.{Tied}
use Rattle.fabric_words.specs.Plays.{began, loaded_out, loaded_mid, loaded_in, set_in, set_mid, switched_out, cleared_out, looked_at, cleared_mid, cleared_in, read}
use Rattle.fabric_words.specs.Seats.{FabricId, IsMoverToken, IsWorkerToken, mover_in, dealt_in, worker_in, IsHoldInside, IsMidPlace, IsInPlace}
use Rattle.fabric_words.proofs.WorkerSteps.{begins, ends, loads_out, loads_mid, loads_in}
use Rattle.fabric_words.proofs.MoverSteps.{reads, clears_in, clears_out, looks, clears_mid, sets_in, sets_mid, switches}

abbrev Sat : Type 0
Sat = Me Aim View

abbrev pub id_of : TableId → Size → FabricId
id_of t z = record { table = t; size = z }

-- a seat of the fabric has its table, its key and the number of its words
pub ours : (t u : TableId) (z y key : Size) → id_of t z ≡ id_of u y → key ≡ y → u.words ≡ word_count y → (t ≡ u) × (key ≡ z) × (u.words ≡ word_count z)
ours t u z y key own keyed counted = let size : z ≡ y = ap (λ (f : FabricId). f.size) own in (ap (λ (f : FabricId). f.table) own, keyed ∙ sym size, counted ∙ ap word_count (sym size))

-- each place is among the words
pub out_low : (z : Size) (y : Port) (i n : ℕ) → IsPort z.shape y → i ≡ out_place z.shape y → n ≡ word_count z → i < n
out_low z y i n low at all = omega arith

pub in_low : (z : Size) (r : ℕ) (k : Middle) (i n : ℕ) → r < z.shape.modules → IsMiddle z.shape k → i ≡ in_cell z.shape r k → n ≡ word_count z → i < n
in_low z r k i n low lk at all = let h = in_cell_lt z.shape r k low lk in omega arith

pub mid_low : (z : Size) (k : Middle) (j i n : ℕ) → IsMiddle z.shape k → j < z.shape.modules → i ≡ mid_place z.shape k j → n ≡ word_count z → i < n
mid_low z k j i n lk low at all = let h = mid_cell_lt z.shape k j lk low in omega arith

pub frame_low : (z : Size) (w i n : ℕ) → w < z.workers → i ≡ frame_place z.shape w → n ≡ word_count z → i < n
frame_low z w i n low at all = omega arith

pub reg_low : (z : Size) (r : Reg) (i n : ℕ) → IsRegInside z.shape r → i ≡ reg_place z.shape r → n ≡ word_count z → i < n
reg_low z (In j k) i n inside at all = in_low z j k i n inside.0 inside.1 at all
reg_low z (Mid k j) i n inside at all = mid_low z k j i n inside.0 inside.1 at all
reg_low z (Out y) i n inside at all = out_low z y i n inside at all

pub mid_hold_low : (z : Size) (h : Hold) (i n : ℕ) → IsInLimits z.shape → IsHoldInside z.shape h → IsMidPlace z.shape h i → n ≡ word_count z → i < n
mid_hold_low z Empty i n s inside at all = absurd at
mid_hold_low z (Output y q k) i n s inside at all = mid_low z k (module_of z.shape y) i n inside.1 (module_lt z.shape y s inside.0) at all
mid_hold_low z (Path y q k r) i n s inside at all = absurd at

pub in_hold_low : (z : Size) (h : Hold) (i n : ℕ) → IsHoldInside z.shape h → IsInPlace z.shape h i → n ≡ word_count z → i < n
in_hold_low z Empty i n inside at all = absurd at
in_hold_low z (Output y q k) i n inside at all = absurd at
in_hold_low z (Path y q k r) i n inside at all = in_low z r k i n inside.1 inside.0 at all

module _ (slots id : ℕ) (me : Sat) (key z : Size) (i : ℕ) (keyed : key ≡ z) where
  pub loads_out_at : (y : Port) → i ≡ out_place z.shape y → IsWorkerToken z me → CanLoadOut z y (worker_in me.0) → Allows (Tied key) slots id me i (λ n. n) (loaded_out (step slots i 0 0 none) me)
  loads_out_at y at is can = subst (λ (p : Size × ℕ). Allows (Tied p.0) slots id me p.1 (λ n. n) (loaded_out (step slots p.1 0 0 none) me)) (λ j. (sym keyed j, sym at j))
      (loads_out slots id me z (worker_in me.0) y (ap (λ (m : Sat). m.0) is) can)

  pub begins_at : i ≡ frame_place z.shape (worker_in me.0).number → IsWorkerToken z me → CanBegin (worker_in me.0) → Allows (Tied key) slots id me i (λ n. (n + 1) % 2 ^ 64) (began (step slots i 1 0 none) me)
  begins_at at is can = subst (λ (p : Size × ℕ). Allows (Tied p.0) slots id me p.1 (λ n. (n + 1) % 2 ^ 64) (began (step slots p.1 1 0 none) me)) (λ j. (sym keyed j, sym at j))
      (begins slots id me z (worker_in me.0) (ap (λ (m : Sat). m.0) is) can)

  pub ends_at : i ≡ frame_place z.shape (worker_in me.0).number → IsWorkerToken z me → Runs (worker_in me.0) → Allows (Tied key) slots id me i (λ n. (n + 1) % 2 ^ 64) (began (step slots i 1 0 none) me)
  ends_at at is runs = subst (λ (p : Size × ℕ). Allows (Tied p.0) slots id me p.1 (λ n. (n + 1) % 2 ^ 64) (began (step slots p.1 1 0 none) me)) (λ j. (sym keyed j, sym at j))
      (ends slots id me z (worker_in me.0) (ap (λ (m : Sat). m.0) is) runs)

  pub loads_mid_at : (h : Hold) → (worker_in me.0).hold ≡ h → IsMidPlace z.shape h i → IsWorkerToken z me → Allows (Tied key) slots id me i (λ q. q) (loaded_mid (step slots i 0 0 none) me)
  loads_mid_at Empty hold at is = absurd at
  loads_mid_at (Path y n k r) hold at is = absurd at
  loads_mid_at (Output y n k) hold at is = subst (λ (p : Size × ℕ). Allows (Tied p.0) slots id me p.1 (λ q. q) (loaded_mid (step slots p.1 0 0 none) me)) (λ j. (sym keyed j, sym at j))
      (loads_mid slots id me z (worker_in me.0) y n k (ap (λ (m : Sat). m.0) is) hold)

  pub loads_in_at : (h : Hold) → (worker_in me.0).hold ≡ h → IsInPlace z.shape h i → IsWorkerToken z me → Allows (Tied key) slots id me i (λ q. q) (loaded_in (step slots i 0 0 none) me)
  loads_in_at Empty hold at is = absurd at
  loads_in_at (Output y n k) hold at is = absurd at
  loads_in_at (Path y n k r) hold at is = subst (λ (p : Size × ℕ). Allows (Tied p.0) slots id me p.1 (λ q. q) (loaded_in (step slots p.1 0 0 none) me)) (λ j. (sym keyed j, sym at j))
      (loads_in slots id me z (worker_in me.0) y n k r (ap (λ (m : Sat). m.0) is) hold)

  pub sets_in_at : (a : Aim) (x : ℕ) → i ≡ in_cell z.shape (module_of z.shape a.leg.input) a.middle → x ≡ slot_of z.shape a.leg.input + 1 → IsMoverToken z me → CanSetIn z.shape (mover_in me.0) a.leg a.middle
      → Allows (Tied key) slots id me i (λ n. either (eqb n 0) x n) (set_in (step slots i 0 x (some a)) me)
  sets_in_at a x at xs is can = subst (λ (p : Size × ℕ × ℕ). Allows (Tied p.0) slots id me p.1 (λ n. either (eqb n 0) p.2 n) (set_in (step slots p.1 0 p.2 (some a)) me)) (λ j. (sym keyed j, sym at j, sym xs j))
      (sets_in slots id me z (dealt_in me.0) (mover_in me.0) a (ap (λ (m : Sat). m.0) is) can)

  pub sets_mid_at : (l : Leg) (k : Middle) (x : ℕ) → i ≡ mid_place z.shape k (module_of z.shape l.output) → x ≡ module_of z.shape l.input + 1 → IsMoverToken z me → (mover_in me.0).phase ≡ InSet l k
      → Allows (Tied key) slots id me i (λ _. x) (λ _. set_mid (step slots i x 0 none) me x)
  sets_mid_at l k x at xs is phase = subst (λ (p : Size × ℕ × ℕ). Allows (Tied p.0) slots id me p.1 (λ _. p.2) (λ _. set_mid (step slots p.1 p.2 0 none) me p.2)) (λ j. (sym keyed j, sym at j, sym xs j))
      (sets_mid slots id me z (dealt_in me.0) (mover_in me.0) l k (ap (λ (m : Sat). m.0) is) phase)

  pub switches_at : (l : Leg) (k : Middle) (x : ℕ) → i ≡ out_place z.shape l.output → x ≡ out_of (length (mover_in me.0).log + 1) k → IsMoverToken z me → (mover_in me.0).phase ≡ MidSet l k → HasSwitch (mover_in me.0)
      → Allows (Tied key) slots id me i (λ _. x) (switched_out (step slots i x 0 none) me)
  switches_at l k x at xs is phase room = subst (λ (p : Size × ℕ × ℕ). Allows (Tied p.0) slots id me p.1 (λ _. p.2) (switched_out (step slots p.1 p.2 0 none) me)) (λ j. (sym keyed j, sym at j, sym xs j))
      (switches slots id me z (dealt_in me.0) (mover_in me.0) l k (ap (λ (m : Sat). m.0) is) phase room)

  pub looks_at : (w : ℕ) → i ≡ frame_place z.shape w → IsMoverToken z me → w < z.workers → Allows (Tied key) slots id me i (λ n. n) (looked_at (step slots i 0 0 none) me)
  looks_at w at is low = subst (λ (p : Size × ℕ). Allows (Tied p.0) slots id me p.1 (λ n. n) (looked_at (step slots p.1 0 0 none) me)) (λ j. (sym keyed j, sym at j))
      (looks slots id me z (dealt_in me.0) (mover_in me.0) w (ap (λ (m : Sat). m.0) is) low)

  pub clears_mid_at : (l : Leg) (k : Middle) → i ≡ mid_place z.shape k (module_of z.shape l.output) → IsMoverToken z me → CanClearMid z (mover_in me.0) l k → Allows (Tied key) slots id me i (λ _. 0) (λ _. cleared_mid (step slots i 0 0 none) me 0)
  clears_mid_at l k at is can = subst (λ (p : Size × ℕ). Allows (Tied p.0) slots id me p.1 (λ _. 0) (λ _. cleared_mid (step slots p.1 0 0 none) me 0)) (λ j. (sym keyed j, sym at j))
      (clears_mid slots id me z (dealt_in me.0) (mover_in me.0) l k (ap (λ (m : Sat). m.0) is) can)

  pub clears_in_at : (l : Leg) (k : Middle) → i ≡ in_cell z.shape (module_of z.shape l.input) k → IsMoverToken z me → CanClearIn (mover_in me.0) l k → Allows (Tied key) slots id me i (λ _. 0) (λ _. cleared_in (step slots i 0 0 none) me 0)
  clears_in_at l k at is can = subst (λ (p : Size × ℕ). Allows (Tied p.0) slots id me p.1 (λ _. 0) (λ _. cleared_in (step slots p.1 0 0 none) me 0)) (λ j. (sym keyed j, sym at j))
      (clears_in slots id me z (dealt_in me.0) (mover_in me.0) l k (ap (λ (m : Sat). m.0) is) can)

  pub clears_out_at : (l : Leg) (w : Route) → i ≡ out_place z.shape l.output → IsMoverToken z me → CanClearOut (mover_in me.0) l w → Allows (Tied key) slots id me i (λ _. 0) (cleared_out (step slots i 0 0 none) me)
  clears_out_at l w at is can = subst (λ (p : Size × ℕ). Allows (Tied p.0) slots id me p.1 (λ _. 0) (cleared_out (step slots p.1 0 0 none) me)) (λ j. (sym keyed j, sym at j))
      (clears_out slots id me z (dealt_in me.0) (mover_in me.0) l w (ap (λ (m : Sat). m.0) is) can)

  pub reads_at : IsMoverToken z me → Allows (Tied key) slots id me i (λ n. n) (read (step slots i 0 0 none) me)
  reads_at is = subst (λ (y : Size). Allows (Tied y) slots id me i (λ n. n) (read (step slots i 0 0 none) me)) (sym keyed)
      (reads slots id me z (dealt_in me.0) (mover_in me.0) i (ap (λ (m : Sat). m.0) is))
