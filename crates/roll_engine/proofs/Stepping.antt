-- One write: when it may be made, and what it keeps.
use Rattle.std.proofs.Common.{◌≡◌, ◌⊎◌, ℕ, ◌+◌, ◌^◌, ◌≤◌, List, [], ◌∷◌, length, sym, refl, ap, ◌∙◌, inl, inr, subst, ⊎_elim, arith, Option, Some, None, length-append}
use mathlib.Core.Logic.{dite}
use native.Mathlib.Decide.{ℕ_discrete}
use Rattle.dxc_num.specs.declared.port.Leg.{Leg}
use Rattle.dxc_num.specs.declared.port.Middle.{Middle}
use Rattle.dxc_num.specs.declared.port.Port.{Port}
use Rattle.dxc_num.specs.declared.port.Route.{Route}
use Rattle.dxc_num.specs.declared.register.RegWrite.{RegWrite}
use Rattle.dxc_num.specs.declared.register.WriteKind.{WriteKind}
use Rattle.dxc_num.specs.declared.register.WriteKind.TheVariants as kind
use Rattle.dxc_num.specs.Dimensions.{Dimensions, IsPort, module_of, leg_between}
use Rattle.roll_plan.specs.Works.{is_switch}
use Rattle.paull_matrix.specs.declared.side.Side.TheVariants.{Row, Column}
use Rattle.paull_matrix.specs.Colourings.{colouring_of, IsHeld, IsFreeFor, IsUnused}
use Rattle.fabric_core.specs.declared.size.Size.{Size}
use Rattle.fabric_core.specs.declared.mover.Mover.{Mover}
use Rattle.fabric_core.specs.declared.phase.Phase.{Phase}
use Rattle.fabric_core.specs.declared.phase.Phase.TheVariants.{Rest}
use Rattle.fabric_core.specs.Registers.{in_word, mid_word}
use Rattle.fabric_core.specs.State.{IsSize, leg_at}
use Rattle.fabric_core.specs.Moving.{IsMiddle, IsEstablished, IsNew, looked}
use Rattle.fabric_core.specs.Laid.{IsOutOf}
use Rattle.fabric_core.specs.Owned.{IsMoverRuled, LegIn, PathIn, LegMid, PathMid, HasIn, HasMid}
use Rattle.fabric_core.proofs.Cells.{module_lt}
use Rattle.fabric_core.proofs.Kept.{mover_moves, mover_looks}
use Rattle.roll_engine.specs.Writes.{Looks, event_of, made_of_kind, Makes}
use Rattle.roll_engine.specs.Courses.{course_of, GoesByKind, Goes, gone_by_kind, gone, IsReady}
use Rattle.roll_engine.specs.Allowed.{CanBeMade, CanMake}
use Rattle.roll_engine.proofs.Looking.{with_looks, looks_only}

can_with : (t : WriteKind) (d : Dimensions) (l : Leg) (k : Middle) (ls : List (List ℕ)) (m : Mover) → CanBeMade t d l k m → CanBeMade t d l k (with_looks ls m)
can_with kind.SetIn d l k ls m h = record { rests = h.rests; inside = h.inside; middle = h.middle; in_none = h.in_none; mid_none = h.mid_none; may_go = may h.may_go }
  where
    may : ((w : Route) × IsEstablished m l w) ⊎ IsNew m l → ((w : Route) × IsEstablished (with_looks ls m) l w) ⊎ IsNew (with_looks ls m) l
    may (inl (w, e)) = inl (w, record { here = e.here; same = e.same })
    may (inr e) = inr e
can_with kind.SetMid d l k ls m h = h
can_with kind.SwitchOut d l k ls m h = h
can_with kind.ClearOut d l k ls m (rests, e) = (rests, record { here = e.here; same = e.same })
can_with kind.ClearMid d l k ls m h = h
can_with kind.ClearIn d l k ls m h = h

-- looks change nothing of when a write may be made
pub can_looks : (z : Size) (w : RegWrite) (fs : List (ℕ × ℕ)) (m a : Mover) → Looks z fs m a → CanMake z.shape w m → CanMake z.shape w a
can_looks z w fs m a h can = subst (CanMake z.shape w) (sym (looks_only z fs m a h)) (can_with w.kind z.shape w.leg w.middle a.looks m can)

pub course_looks : (z : Size) (fs : List (ℕ × ℕ)) (m a : Mover) → Looks z fs m a → course_of a ≡ course_of m
course_looks z fs m a h = ap course_of (looks_only z fs m a h)

pub ruled_looks : (z : Size) (fs : List (ℕ × ℕ)) (m a : Mover) → IsSize z → Looks z fs m a → IsMoverRuled z m → IsMoverRuled z a
ruled_looks z [] m a s h r = subst (IsMoverRuled z) h r
ruled_looks z (f ∷ fs) m a s (low, h) r = ruled_looks z fs (looked f.0 f.1 m) a s h (mover_looks z m f.0 f.1 s r)

pub log_looks : (z : Size) (fs : List (ℕ × ℕ)) (m a : Mover) → Looks z fs m a → length a.log ≡ length m.log
log_looks z fs m a h = ap (λ (x : Mover). length x.log) (looks_only z fs m a h)

pub ruled_made : (z : Size) (w : RegWrite) (m m' : Mover) → IsSize z → Makes z w m m' → IsMoverRuled z m → IsMoverRuled z m'
ruled_made z w m m' s h r = mover_moves z m (event_of w) m' s r h.0

course_kind : (t : WriteKind) (d : Dimensions) (l : Leg) (k : Middle) (m : Mover) → course_of (made_of_kind t d l k m) ≡ gone_by_kind t l k (course_of m)
course_kind kind.SetIn d l k m = refl
course_kind kind.SetMid d l k m = refl
course_kind kind.SwitchOut d l k m = refl
course_kind kind.ClearOut d l k m = refl
course_kind kind.ClearMid d l k m = refl
course_kind kind.ClearIn d l k m = refl

pub course_made : (z : Size) (w : RegWrite) (m m' : Mover) → Makes z w m m' → course_of m' ≡ gone w (course_of m)
course_made z w m m' h = ap course_of h.1 ∙ course_kind w.kind z.shape w.leg w.middle m

log_kind : (t : WriteKind) (d : Dimensions) (l : Leg) (k : Middle) (m : Mover) → length (made_of_kind t d l k m).log ≡ is_switch t + length m.log
log_kind kind.SetIn d l k m = omega arith
log_kind kind.SetMid d l k m = omega arith
log_kind kind.SwitchOut d l k m = let e = length-append m.log (l ∷ []) in omega arith
log_kind kind.ClearOut d l k m = omega arith
log_kind kind.ClearMid d l k m = omega arith
log_kind kind.ClearIn d l k m = omega arith

pub log_made : (z : Size) (w : RegWrite) (m m' : Mover) → Makes z w m m' → length m'.log ≡ is_switch w.kind + length m.log
log_made z w m m' h = ap (λ (x : Mover). length x.log) h.1 ∙ log_kind w.kind z.shape w.leg w.middle m

module _ (z : Size) (m : Mover) (s : IsSize z) (r : IsMoverRuled z m) where
  -- the IN word of a path over a free middle is none
  in_free : (l : Leg) (k : Middle) → m.phase ≡ Rest → IsPort z.shape l.input → IsMiddle z.shape k → IsFreeFor (colouring_of z.shape m.legs) l k.0 → in_word z.shape m.registers (module_of z.shape l.input) k ≡ 0
  in_free l k rest low lq free = dite (ℕ_discrete (in_word z.shape m.registers (module_of z.shape l.input) k) 0) (λ e. e) (λ some_word. absurd (⊎_elim
      (λ (g : LegIn z.shape m (module_of z.shape l.input) k). free Row (leg_between g.1.input g.0) (subst (λ (q : Middle). leg_at m g.0 ≡ Some (record { input = g.1.input; middle = q })) g.4 g.2) g.3)
      (λ (g : PathIn z.shape m.phase (module_of z.shape l.input) k). subst (λ (p : Phase). HasIn p g.0 g.1) rest g.2)
      (r.owned.ins (module_of z.shape l.input) k (module_lt z.shape l.input s.shape low) lq some_word)))

  mid_free : (l : Leg) (k : Middle) → m.phase ≡ Rest → IsPort z.shape l.output → IsMiddle z.shape k → IsFreeFor (colouring_of z.shape m.legs) l k.0 → mid_word z.shape m.registers k (module_of z.shape l.output) ≡ 0
  mid_free l k rest low lq free = dite (ℕ_discrete (mid_word z.shape m.registers k (module_of z.shape l.output)) 0) (λ e. e) (λ some_word. absurd (⊎_elim
      (λ (g : LegMid z.shape m k (module_of z.shape l.output)). free Column (leg_between g.1.input g.0) (subst (λ (q : Middle). leg_at m g.0 ≡ Some (record { input = g.1.input; middle = q })) g.3 g.2) g.4)
      (λ (g : PathMid z.shape m.phase k (module_of z.shape l.output)). subst (λ (p : Phase). HasMid p g.0 g.1) rest g.2)
      (r.owned.mids k (module_of z.shape l.output) lq (module_lt z.shape l.output s.shape low) some_word)))

  -- no leg goes to the output of a leg with unused sides
  none_at : (l : Leg) → IsUnused (colouring_of z.shape m.legs) l → leg_at m l.output ≡ None
  none_at l free = none (leg_at m l.output) refl
    where
      none : (e : Option Route) → leg_at m l.output ≡ e → e ≡ None
      none None at = refl
      none (Some w) at = absurd (free.output (leg_between w.input l.output) w.middle.0 at refl)

  new_is : (l : Leg) → IsPort z.shape l.output → IsUnused (colouring_of z.shape m.legs) l → IsNew m l
  new_is l low free = (
    none_at l free,
    subst (IsOutOf m l.output) (none_at l free) (r.laid.out_is l.output low),
    λ y w at e. free.input (leg_between w.input y) w.middle.0 at (ap (λ (x : Port). x.0) e),
  )

  pub can_kind : (t : WriteKind) (l : Leg) (k : Middle) → GoesByKind t z.shape l k (course_of m) → length m.log + is_switch t ≤ 2 ^ 48 → CanBeMade t z.shape l k m
  can_kind kind.SetIn l k (rest, can) room = record {
    rests = rest;
    inside = can.inside;
    middle = can.middle;
    in_none = in_free l k rest can.inside.input can.middle can.free;
    mid_none = mid_free l k rest can.inside.output can.middle can.free;
    may_go = ⊎_elim
        (λ (h : IsHeld (colouring_of z.shape m.legs) l). inl (record { input = l.input; middle = record { 0 = h.0 } }, record { here = h.1; same = refl }))
        (λ (h : IsUnused (colouring_of z.shape m.legs) l). inr (new_is l can.inside.output h))
        can.may_go;
  }
  can_kind kind.SetMid l k h room = h
  can_kind kind.SwitchOut l k h room = (h, omega arith)
  can_kind kind.ClearOut l k h room = (h.0, record { here = h.1; same = refl })
  can_kind kind.ClearMid l k h room = h
  can_kind kind.ClearIn l k h room = h

-- the first of the writes may be made
pub ready_first : (z : Size) (w : RegWrite) (ws : List RegWrite) (m : Mover) → IsReady z (w ∷ ws) m → IsReady z (w ∷ []) m
ready_first z w ws m r = record { goes = (r.goes.0, tt); room = let room = r.room in omega arith }

pub ready_can : (z : Size) (w : RegWrite) (ws : List RegWrite) (m : Mover) → IsSize z → IsMoverRuled z m → IsReady z (w ∷ ws) m → CanMake z.shape w m
ready_can z w ws m s q r = let room = r.room in can_kind z m s q w.kind w.leg w.middle r.goes.0 (omega arith)

pub ready_looks : (z : Size) (ws : List RegWrite) (fs : List (ℕ × ℕ)) (m a : Mover) → Looks z fs m a → IsReady z ws m → IsReady z ws a
ready_looks z ws fs m a h r = record { goes = subst (Goes z.shape ws) (sym (course_looks z fs m a h)) r.goes; room = let e = log_looks z fs m a h in let room = r.room in omega arith }

pub ready_made : (z : Size) (w : RegWrite) (ws : List RegWrite) (m m' : Mover) → Makes z w m m' → IsReady z (w ∷ ws) m → IsReady z ws m'
ready_made z w ws m m' h r = record { goes = subst (Goes z.shape ws) (sym (course_made z w m m' h)) r.goes.1; room = let e = log_made z w m m' h in let room = r.room in omega arith }
