-- A loop over the writes that are left.
use Rattle.std.proofs.Common.{◌≡◌, ◌≢◌, ℕ, zero, suc, ◌+◌, ◌*◌, ◌<◌, List, [], ◌∷◌, ◌++◌, drop, length, get_or, sym, refl, ap, ap₂, ◌∙◌, subst, ⊎_elim, arith, Option, Some, None, length-append, append_assoc}
use Rattle.std.specs.Prelude.{slice_get}
use Rattle.dxc_num.specs.declared.port.Leg.{Leg}
use Rattle.dxc_num.specs.declared.port.Middle.{Middle}
use Rattle.dxc_num.specs.declared.register.RegWrite.{RegWrite}
use Rattle.dxc_num.specs.declared.register.WriteKind.{WriteKind}
use Rattle.dxc_num.specs.declared.register.WriteKind.TheVariants.{ClearMid}
use Rattle.roll_plan.specs.declared.work.Work.{Work}
use Rattle.roll_plan.specs.declared.op.Move.{Move}
use Rattle.roll_plan.specs.declared.op.LegOp.{LegOp}
use Rattle.roll_plan.specs.declared.op.LegOp.TheVariants.{Join, Part, Shift}
use Rattle.roll_plan.specs.declared.next.Next.TheVariants.{All}
use Rattle.roll_plan.specs.Works.{write, join_writes, moves_of, moves_writes, op_writes, ops_writes, writes_of}
use Rattle.roll_plan.specs.Nexts.{BeginsMove}
use Rattle.roll_plan.proofs.Places.{begins_at, next_front}
use Rattle.fabric_core.specs.declared.size.Size.{Size}
use Rattle.fabric_core.specs.declared.mover.Mover.{Mover}
use Rattle.fabric_core.specs.declared.phase.Phase.TheVariants.{MidSet, Old}
use Rattle.roll_engine.specs.Rollings.{RollingAt, moves_of_first, rest_of}
use Rattle.roll_engine.specs.Writes.{Looks, Makes}
use Rattle.roll_engine.specs.Courses.{Course, GoesByKind, IsOld, IsReady, course_of}
use Rattle.roll_engine.specs.Answers.{GoesOn, IsSeen, IsInFrame}
use Rattle.roll_engine.proofs.Looking.{seen_looks}
use Rattle.roll_engine.proofs.Running.{runs_look, runs_more}
use Rattle.roll_engine.proofs.Stepping.{course_looks, ready_first}

abbrev pub next : RollingAt → RollingAt
next r = record r { step = r.step + 1 }

some_one : {a b : RegWrite} → Some a ≡ Some b → a ≡ b
some_one e = cc

pub left_some : (ws : List RegWrite) (t : ℕ) (w : RegWrite) → slice_get ws t ≡ Some w → drop t ws ≡ w ∷ drop (t + 1) ws
left_some [] t w e = absurd (let h : None ≡ Some w = e in cc)
left_some (x ∷ xs) zero w e = ap (λ (y : RegWrite). y ∷ xs) (some_one e)
left_some (x ∷ xs) (suc t) w e = let h : suc t + 1 ≡ suc (t + 1) = omega arith in left_some xs t w e ∙ ap (λ (n : ℕ). w ∷ drop n (x ∷ xs)) (sym h)

pub left_none : (ws : List RegWrite) (t : ℕ) → slice_get ws t ≡ None → drop t ws ≡ []
left_none [] zero e = refl
left_none [] (suc t) e = refl
left_none (x ∷ xs) zero e = absurd (let h : Some x ≡ None = e in cc)
left_none (x ∷ xs) (suc t) e = left_none xs t e

pub rest_some : (r : RollingAt) (w : RegWrite) → slice_get (writes_of r.work) r.step ≡ Some w → rest_of r ≡ w ∷ rest_of (next r)
rest_some r w at = left_some (writes_of r.work) r.step w at

pub some_left : (r : RollingAt) (w : RegWrite) → slice_get (writes_of r.work) r.step ≡ Some w → rest_of r ≢ []
some_left r w at e = let h : w ∷ rest_of (next r) ≡ [] = sym (rest_some r w at) ∙ e in cc

-- the moves of the first op come before all else
begins_op : (op : LegOp) (v d : Move) (i t : ℕ) → t ≡ 5 * i → i < length (moves_of op) → v ≡ get_or (moves_of op) i d → BeginsMove (op_writes op) t v
begins_op (Join l choice moves) v d i t e low is = next_front (moves_writes moves.items) (join_writes l choice.middle) t (All v) (begins_at moves.items v d i t e low is)
begins_op (Part l k) v d i t e low is = absurd (omega arith)
begins_op (Shift moves) v d i t e low is = begins_at moves.items v d i t e low is

pub begins_first : (ops : List LegOp) (d : Move) (i t : ℕ) → t ≡ 5 * i → i < length (moves_of_first ops) → BeginsMove (ops_writes ops) t (get_or (moves_of_first ops) i d)
begins_first [] d i t e low = absurd (omega arith)
begins_first (op ∷ ops) d i t e low = next_front (op_writes op) (ops_writes ops) t (All (get_or (moves_of op) i d)) (begins_op op (get_or (moves_of op) i d) d i t e low refl)

pub goes_none : (z : Size) (r : RollingAt) (m : Mover) → GoesOn z r r m m
goes_none z r m = record { work = refl; behind = refl; advances = record { writes = []; split = refl; runs = ([], refl) }; step = omega arith }

pub goes_look : (z : Size) (old r : RollingAt) (fs : List (ℕ × ℕ)) (m a m' : Mover) → GoesOn z old r m a → Looks z fs a m' → GoesOn z old r m m'
goes_look z old r fs m a m' h k = record {
  work = h.work;
  behind = h.behind;
  advances = record { writes = h.advances.writes; split = h.advances.split; runs = runs_look z h.advances.writes fs m a m' h.advances.runs k };
  step = h.step;
}

pub goes_made : (z : Size) (old r : RollingAt) (w : RegWrite) (fs : List (ℕ × ℕ)) (m a b m' : Mover) → GoesOn z old r m a → slice_get (writes_of r.work) r.step ≡ Some w → Looks z fs a b → Makes z w b m' → GoesOn z old (next r) m m'
goes_made z old r w fs m a b m' h at k made =
    let ws : List RegWrite = h.advances.writes in record {
      work = h.work;
      behind = h.behind;
      advances = record {
        writes = ws ++ w ∷ [];
        split = h.advances.split ∙ (ap (λ (xs : List RegWrite). ws ++ xs) (rest_some r w at) ∙ sym (append_assoc ws (w ∷ []) (rest_of (next r))));
        runs = runs_more z ws w fs m a b m' h.advances.runs k made;
      };
      step = let e = length-append ws (w ∷ []) in let s = h.step in omega arith;
    }

pub ready_next : (z : Size) (r : RollingAt) (w : RegWrite) (m : Mover) → slice_get (writes_of r.work) r.step ≡ Some w → IsReady z (rest_of r) m → IsReady z (w ∷ rest_of (next r)) m
ready_next z r w m at h = subst (λ (ws : List RegWrite). IsReady z ws m) (rest_some r w at) h

pub ready_step : (z : Size) (r : RollingAt) (w : RegWrite) (m : Mover) → slice_get (writes_of r.work) r.step ≡ Some w → IsReady z (rest_of r) m → IsReady z (w ∷ []) m
ready_step z r w m at h = ready_first z w (rest_of (next r)) m (ready_next z r w m at h)

not_both : (l a : Leg) (k b : Middle) → MidSet l k ≡ Old a b → ⊥
not_both l a k b e = cc

-- the answer where a frame was seen
pub in_frame : (z : Size) (old r : RollingAt) (w : RegWrite) (m a m' : Mover) (f : ℕ) → GoesOn z old r m a → slice_get (writes_of r.work) r.step ≡ Some w → IsReady z (rest_of r) a → (w.kind ≡ ClearMid) × IsOld a.phase × IsSeen z a m' f → IsInFrame z (rest_of old) (rest_of r) m m' f
in_frame z old r w m a m' f h at ready (clears, left_path, seen) =
    let goes : GoesByKind ClearMid z.shape w.leg w.middle (course_of a) = subst (λ (t : WriteKind). GoesByKind t z.shape w.leg w.middle (course_of a)) clears (ready_next z r w a at ready).goes.0 in
    let looks = seen_looks z a m' f seen in record {
      leg = w.leg;
      old = w.middle;
      phase = ap (λ (c : Course). c.phase) (course_looks z looks.0 a m' looks.1) ∙ ⊎_elim (λ (e : a.phase ≡ Old w.leg w.middle). e) (λ (e : a.phase ≡ MidSet w.leg w.middle). absurd (not_both w.leg left_path.0 w.middle left_path.1 (sym e ∙ left_path.2))) goes;
      later = rest_of (next r);
      next = rest_some r w at ∙ ap (λ (t : WriteKind). write t w.leg w.middle ∷ rest_of (next r)) clears;
      reached = a;
      advances = h.advances;
      seen = seen;
    }

-- the write that was found at the step
pub found_at : (r : RollingAt) (k : Work) (t : ℕ) (o : Option RegWrite) (w : RegWrite) → k ≡ r.work → t ≡ r.step → o ≡ slice_get (writes_of k) t → o ≡ Some w → slice_get (writes_of r.work) r.step ≡ Some w
found_at r k t o w ek et is some_write = sym (ap₂ (λ (x : Work) (n : ℕ). slice_get (writes_of x) n) ek et) ∙ (sym is ∙ some_write)

pub none_at : (r : RollingAt) (k : Work) (t : ℕ) (o : Option RegWrite) → k ≡ r.work → t ≡ r.step → o ≡ slice_get (writes_of k) t → o ≡ None → rest_of r ≡ []
none_at r k t o ek et is no_write = left_none (writes_of r.work) r.step (sym (ap₂ (λ (x : Work) (n : ℕ). slice_get (writes_of x) n) ek et) ∙ (sym is ∙ no_write))
