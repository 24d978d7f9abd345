-- Every step keeps the rule, so every state that is reached meets it, and is hitless.
use Rattle.std.proofs.Common.{◌≡◌, ◌≢◌, ℕ, zero, suc, ◌+◌, ◌<◌, List, [], ◌∷◌, ◌++◌, replicate, length, get_or, sym, refl, ap, ◌∙◌, subst, ⊎_elim, arith, Option, Some, None, length-set}
use mathlib.Core.Option.{some, some-injective, some-ne-none}
use lib.ListN.{get_elem?, length-replicate}
use Rattle.atomic_table.proofs.Lists.{at_set}
use Rattle.dxc_num.specs.Dimensions.{IsPort, ports, module_of, leg_between}
use Rattle.dxc_num.specs.declared.port.Port.{Port}
use Rattle.dxc_num.specs.declared.port.Route.{Route}
use Rattle.fabric_core.specs.declared.size.Size.{Size}
use Rattle.fabric_core.specs.declared.event.CoreEvent.{CoreEvent}
use Rattle.fabric_core.specs.declared.event.CoreEvent.TheVariants.{Begin, LoadOut, LoadMid, LoadIn, End, SetIn, SetMid, SwitchOut, ClearOut, Look, ClearMid, ClearIn}
use Rattle.fabric_core.specs.declared.phase.Phase.{Phase}
use Rattle.fabric_core.specs.declared.phase.Phase.TheVariants.{InSet, MidSet, Old, Freed}
use Rattle.fabric_core.specs.declared.mover.Mover.{Mover}
use Rattle.fabric_core.specs.declared.worker.Worker.{Worker}
use Rattle.fabric_core.specs.Registers.{in_cell, mid_cell, in_count, mid_count, out_word, number_in}
use Rattle.fabric_core.specs.State.{Core, IsSize, leg_at, new_mover, new_worker, new_workers, start}
use Rattle.fabric_core.specs.Moving.{looked}
use Rattle.fabric_core.specs.Steps.{Moves, Works, WorkerSteps, MoverSteps, with_mover, Steps, Reaches}
use Rattle.fabric_core.specs.Notes.{Numbered, Latest}
use Rattle.fabric_core.specs.Hitless.{IsNewest, IsHitless, IsAlwaysHitless}
use Rattle.fabric_core.specs.Laid.{IsHalfLaid, IsPhaseLaid, IsOutOf, IsLaidOut}
use Rattle.fabric_core.specs.Owned.{IsMoverRuled}
use Rattle.fabric_core.specs.Rule.{IsWorkerRuled, IsRuled}
use Rattle.fabric_core.proofs.Cells.{number_is, src_is}
use Rattle.fabric_core.proofs.Noting.{at_below}
use Rattle.fabric_core.proofs.Owning.{owns}
use Rattle.fabric_core.proofs.Working.{begins, ends, loads_out, loads_mid, loads_in}
use Rattle.fabric_core.proofs.Moving.{sets_in, mids_in, switches, clears_out, looks_at, clears_mid, clears_in}
use Rattle.fabric_core.proofs.Held.{in_set_holds, mid_set_holds, switched_holds, out_cleared_holds, looked_holds, mid_cleared_holds, in_cleared_holds}

-- one worker's step
abbrev Still : Size → Mover → Worker → Worker → Type 0
Still z m v u = (u.number ≡ v.number) × IsWorkerRuled z.shape m u

pub works : (z : Size) (m : Mover) (v : Worker) (e : CoreEvent) (v' : Worker) → IsSize z → IsLaidOut z m → IsWorkerRuled z.shape m v → Works z m v e v' → Still z m v v'
works z m v (Begin w) v' s r k h = subst (Still z m v) (sym h.1) (refl, begins z m s r v h.0 k)
works z m v (LoadOut w y) v' s r k h = subst (Still z m v) (sym h.1) (refl, loads_out z m s r v y h.0 k)
works z m v (LoadMid w) v' s r k h = subst (Still z m v) (sym h.1) (refl, loads_mid z m s r v h.0 k)
works z m v (LoadIn w) v' s r k h = subst (Still z m v) (sym h.1) (refl, loads_in z m s r v h.0 k)
works z m v (End w) v' s r k h = subst (Still z m v) (sym h.1) (refl, ends z m s r v h.0 k)
works z m v (SetIn l k') v' s r k h = absurd h
works z m v SetMid v' s r k h = absurd h
works z m v SwitchOut v' s r k h = absurd h
works z m v (ClearOut l) v' s r k h = absurd h
works z m v (Look w) v' s r k h = absurd h
works z m v ClearMid v' s r k h = absurd h
works z m v ClearIn v' s r k h = absurd h

-- what one step of the mover keeps, for itself and for any worker
abbrev Both : Size → Mover → Mover → Type 0
Both z m m' = IsLaidOut z m' × ((v : Worker) → v.number < z.workers → IsWorkerRuled z.shape m v → IsWorkerRuled z.shape m' v)

phase_at : (z : Size) (m : Mover) (p : Phase) → IsLaidOut z m → m.phase ≡ p → IsPhaseLaid z.shape m p
phase_at z m p r e = subst (IsPhaseLaid z.shape m) e r.phase_is

pub moves : (z : Size) (m : Mover) (e : CoreEvent) (m' : Mover) → IsSize z → IsLaidOut z m → Moves z m e m' → Both z m m'
moves z m (SetIn l k) m' s r h = let can = h.0 in subst (Both z m) (sym h.1) (sets_in z m s r l k can, λ v b. in_set_holds z.shape m l k v can.rests)
moves z m SetMid m' s r h = subst (Both z m) (sym h.3) (mids_in z m s r h.0 h.1 (phase_at z m (InSet h.0 h.1) r h.2), λ v b. mid_set_holds z.shape m h.0 h.1 v h.2)
moves z m SwitchOut m' s r h = let half : IsHalfLaid z.shape m h.0 h.1 (module_of z.shape h.0.input + 1) = phase_at z m (MidSet h.0 h.1) r h.2 in
    subst (Both z m) (sym h.4) (switches z m s r h.0 h.1 half, λ v b. switched_holds z.shape m h.0 h.1 v h.2 half.same)
moves z m (ClearOut l) m' s r h = subst (Both z m) (sym h.2) (clears_out z m s r l h.0 h.1, λ v b. out_cleared_holds z.shape m l h.0 v h.1)
moves z m ClearMid m' s r h = subst (Both z m) (sym h.3)
    (clears_mid z m s r h.0 h.1 (⊎_elim (λ p. phase_at z m (MidSet h.0 h.1) r p) (λ p. phase_at z m (Old h.0 h.1) r p.0) h.2), λ v b. mid_cleared_holds z m h.0 h.1 v b h.2)
moves z m ClearIn m' s r h = subst (Both z m) (sym h.3)
    (clears_in z m s r h.0 h.1 (⊎_elim (λ p. phase_at z m (InSet h.0 h.1) r p) (λ p. phase_at z m (Freed h.0 h.1) r p) h.2), λ v b. in_cleared_holds z.shape m h.0 h.1 v h.2)
moves z m (Begin w) m' s r h = absurd h
moves z m (LoadOut w y) m' s r h = absurd h
moves z m (LoadMid w) m' s r h = absurd h
moves z m (LoadIn w) m' s r h = absurd h
moves z m (End w) m' s r h = absurd h
moves z m (Look w) m' s r h = absurd h

-- what the rule says of the mover's part alone is kept by its steps
pub mover_moves : (z : Size) (m : Mover) (e : CoreEvent) (m' : Mover) → IsSize z → IsMoverRuled z m → Moves z m e m' → IsMoverRuled z m'
mover_moves z m e m' s r h = record { laid = (moves z m e m' s r.laid h).0; owned = owns z m s r.laid r.owned e m' h }

pub mover_looks : (z : Size) (m : Mover) (w f : ℕ) → IsSize z → IsMoverRuled z m → IsMoverRuled z (looked w f m)
mover_looks z m w f s r = record { laid = looks_at z m s r.laid w f; owned = record { ins = r.owned.ins; mids = r.owned.mids } }

-- the rule after a step
abbrev Keeps : Core → Core → Type 0
Keeps c b = (b.size ≡ c.size) × IsRuled b

worker_steps : (c : Core) (w : ℕ) (e : CoreEvent) (c' : Core) → IsSize c.size → IsRuled c → WorkerSteps c w e c' → Keeps c c'
worker_steps c w e c' s r (v, v', at, does, is) = subst (Keeps c) (sym is) (
  refl,
  record {
    mover = r.mover;
    workers = length-set c.workers w v' ∙ r.workers;
    each = λ u x there. ⊎_elim
        (λ (t : (u ≡ w) × (v' ≡ x)). subst (λ (p : ℕ × Worker). (p.1.number ≡ p.0) × IsWorkerRuled c.size.shape c.mover p.1) (λ i. (sym t.0 i, t.1 i)) (now.0 ∙ was.0, now.1))
        (λ (t : (u ≢ w) × (get_elem? c.workers u ≡ some x)). r.each u x t.1)
        (at_set c.workers w u v' x there);
  },
)
  where
    was : (v.number ≡ w) × IsWorkerRuled c.size.shape c.mover v
    was = r.each w v at

    now : Still c.size c.mover v v'
    now = works c.size c.mover v e v' s r.mover.laid (r.each w v at).1 does

number_low : (c : Core) (w : ℕ) (v : Worker) → IsRuled c → get_elem? c.workers w ≡ some v → v.number < c.size.workers
number_low c w v r at = let a = (r.each w v at).0 in let b = at_below c.workers v w at in let d = r.workers in omega arith

mover_steps : (c : Core) (e : CoreEvent) (c' : Core) → IsSize c.size → IsRuled c → MoverSteps c e c' → Keeps c c'
mover_steps c e c' s r (m, does, is) = let both = moves c.size c.mover e m s r.mover.laid does in subst (Keeps c) (sym is) (
  refl,
  record {
    mover = mover_moves c.size c.mover e m s r.mover does;
    workers = r.workers;
    each = λ u v at. ((r.each u v at).0, both.1 v (number_low c u v r at) (r.each u v at).1);
  },
)

look_steps : (c : Core) (w : ℕ) (v : Worker) (c' : Core) → IsSize c.size → IsRuled c → get_elem? c.workers w ≡ some v → c' ≡ with_mover c (looked w v.frame c.mover) → Keeps c c'
look_steps c w v c' s r at is = subst (Keeps c) (sym is) (
  refl,
  record {
    mover = mover_looks c.size c.mover w v.frame s r.mover;
    workers = r.workers;
    each = λ u x there. ((r.each u x there).0, looked_holds c.size.shape c.mover w v.frame x (same u x there) room (r.each u x there).1);
  },
)
  where
    room : w < length c.mover.looks
    room = let a = at_below c.workers v w at in let b = r.workers in let d = r.mover.laid.looks in omega arith

    same : (u : ℕ) (x : Worker) → get_elem? c.workers u ≡ some x → x.number ≡ w → v.frame ≡ x.frame
    same u x there e = let h : u ≡ w = sym (r.each u x there).0 ∙ e in ap (λ (y : Worker). y.frame) (some-injective v x (sym at ∙ (ap (get_elem? c.workers) (sym h) ∙ there)))

pub step_keeps : (c : Core) (e : CoreEvent) (c' : Core) → IsSize c.size → IsRuled c → Steps c e c' → Keeps c c'
step_keeps c (Begin w) c' s r h = worker_steps c w (Begin w) c' s r h
step_keeps c (LoadOut w y) c' s r h = worker_steps c w (LoadOut w y) c' s r h
step_keeps c (LoadMid w) c' s r h = worker_steps c w (LoadMid w) c' s r h
step_keeps c (LoadIn w) c' s r h = worker_steps c w (LoadIn w) c' s r h
step_keeps c (End w) c' s r h = worker_steps c w (End w) c' s r h
step_keeps c (Look w) c' s r h = look_steps c w h.0 c' s r h.1 h.2
step_keeps c (SetIn l k) c' s r h = mover_steps c (SetIn l k) c' s r h
step_keeps c SetMid c' s r h = mover_steps c SetMid c' s r h
step_keeps c SwitchOut c' s r h = mover_steps c SwitchOut c' s r h
step_keeps c (ClearOut l) c' s r h = mover_steps c (ClearOut l) c' s r h
step_keeps c ClearMid c' s r h = mover_steps c ClearMid c' s r h
step_keeps c ClearIn c' s r h = mover_steps c ClearIn c' s r h

pub reach_keeps : (c : Core) (es : List CoreEvent) (c' : Core) → IsSize c.size → IsRuled c → Reaches c es c' → Keeps c c'
reach_keeps c [] c' s r e = subst (Keeps c) e (refl, r)
reach_keeps c (e ∷ es) c' s r (b, does, rest) = let k = step_keeps c e b s r does in let n = reach_keeps b es c' (subst IsSize (sym k.0) s) k.1 rest in (n.0 ∙ k.0, n.1)

-- one more event at the end of a list
pub reach_more : (a : Core) (es : List CoreEvent) (b : Core) (e : CoreEvent) (c : Core) → Reaches a es b → Steps b e c → Reaches a (es ++ e ∷ []) c
reach_more a [] b e c h does = subst (λ (x : Core). Reaches x (e ∷ []) c) (sym h) (c, does, refl)
reach_more a (d ∷ es) b e c (x, first, more) does = (x, first, reach_more x es b e c more does)

same_all : {A : Type 0} (n i : ℕ) (a : A) → get_or (replicate n a) i a ≡ a
same_all zero i a = refl
same_all (suc n) zero a = refl
same_all (suc n) (suc i) a = same_all n i a

workers_length : (b n : ℕ) → length (new_workers b n) ≡ n
workers_length b zero = refl
workers_length b (suc n) = ap suc (workers_length (b + 1) n)

workers_at : (b n w : ℕ) (v : Worker) → get_elem? (new_workers b n) w ≡ some v → new_worker (b + w) ≡ v
workers_at b zero w v e = absurd (some-ne-none v (sym e))
workers_at b (suc n) zero v e = let h : b + 0 ≡ b = omega arith in ap new_worker h ∙ some-injective (new_worker b) v e
workers_at b (suc n) (suc w) v e = let h : b + suc w ≡ (b + 1) + w = omega arith in ap new_worker h ∙ workers_at (b + 1) n w v e

no_leg : {B : Type 0} (z : Size) (y : Port) (w : Route) → leg_at (new_mover z) y ≡ Some w → B
no_leg z y w at = let h : leg_at (new_mover z) y ≡ None = same_all (ports z.shape) y.0 None in absurd (cc)

pub mover_starts : (z : Size) → IsMoverRuled z (new_mover z)
mover_starts z = record {
  laid = record {
    ins = length-replicate (in_count z.shape) 0;
    mids = length-replicate (mid_count z.shape) 0;
    outs = length-replicate (ports z.shape) 0;
    legs = length-replicate (ports z.shape) None;
    looks = length-replicate z.workers [];
    out_is = λ y h. subst (IsOutOf (new_mover z) y) (sym (same_all (ports z.shape) y.0 None)) (same_all (ports z.shape) y.0 0);
    leg_is = λ y w at. no_leg z y w at;
    apart = λ y u w v at _ _. no_leg z y w at;
    phase_is = tt;
  };
  owned = record { ins = λ i k low lk h. absurd (h (same_all (in_count z.shape) (in_cell z.shape i k) 0)); mids = λ k j lk low h. absurd (h (same_all (mid_count z.shape) (mid_cell z.shape k j) 0)) };
}

pub starts : (z : Size) → IsRuled (start z)
starts z = record {
  mover = mover_starts z;
  workers = workers_length 0 z.workers;
  each = λ w v at. let is : new_worker (0 + w) ≡ v = workers_at 0 z.workers w v at in subst (λ (u : Worker). (u.number ≡ w) × IsWorkerRuled z.shape (new_mover z) u) is
      (omega arith, record { hold_is = tt; may_end = omega arith; logged = λ t n y x none. absurd (some-ne-none _ (sym none)); of_last_word = λ t n y x none. absurd (some-ne-none _ (sym none)); found = λ t q. ((λ none. absurd (some-ne-none _ (sym none))), (λ none. absurd (some-ne-none _ (sym none)))) });
}

pub rule_hitless : (c : Core) → IsSize c.size → IsRuled c → IsHitless c
rule_hitless c s r = record {
  carries = λ y w at. let ok = r.mover.laid.leg_is y w at in let out = subst (IsOutOf c.mover y) at (r.mover.laid.out_is y ok.inside.output) in src_is c.size.shape c.mover y out.0 w s.shape out.1 ok;
  logged = λ w v at. (r.each w v at).1.logged;
  newest = λ y h some_word. named y h some_word (leg_at c.mover y) refl (r.mover.laid.out_is y h);
  of_last_word = λ w v at. (r.each w v at).1.of_last_word;
  found = λ w v at. (r.each w v at).1.found;
}
  where
    named : (y : Port) → IsPort c.size.shape y → out_word c.mover.registers y ≢ 0 → (e : Option Route) → leg_at c.mover y ≡ e → IsOutOf c.mover y e → IsNewest c.mover y
    named y h there None at ok = absurd (there ok)
    named y h there (Some w) at ok =
        let low = (r.mover.laid.leg_is y w at).middle in
        let slots = s.shape.most_slots in
        let number : ok.0 ≡ number_in (out_word c.mover.registers y) = sym (ap number_in ok.1 ∙ number_is ok.0 w.middle (omega arith)) in
        (leg_between w.input y, subst (λ (n : ℕ). Numbered c.mover.log n (leg_between w.input y)) number ok.2, refl, subst (Latest c.mover.log y) number ok.3)

pub reached_ruled : (z : Size) (es : List CoreEvent) (c : Core) → IsSize z → Reaches (start z) es c → Keeps (start z) c
reached_ruled z es c s reached = reach_keeps (start z) es c s (starts z) reached

pub always_hitless : IsAlwaysHitless
always_hitless z es c s reached = let k = reached_ruled z es c s reached in rule_hitless c (subst IsSize (sym k.0) s) k.1
