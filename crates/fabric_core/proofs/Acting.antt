-- A step is allowed where the one who takes it may take it.
use Rattle.std.proofs.Common.{◌≡◌, ℕ, zero, suc, ◌+◌, ◌<◌, List, [], ◌∷◌, ◌++◌, length, get_or, Bool, IsTrue, ◌↔◌, ◌≤◌, sym, refl, ap, ◌∙◌, subst, arith}
use mathlib.Core.Option.{some, some-injective, some-ne-none}
use lib.ListN.{get_elem?}
use Rattle.fabric_core.specs.declared.size.Size.{Size}
use Rattle.fabric_core.specs.declared.event.CoreEvent.{CoreEvent}
use Rattle.fabric_core.specs.declared.event.CoreEvent.TheVariants.{Begin, LoadOut, LoadMid, LoadIn, End, SetIn, SetMid, SwitchOut, ClearOut, Look, ClearMid, ClearIn}
use Rattle.fabric_core.specs.declared.event.Actor.TheVariants as actor
use Rattle.fabric_core.specs.declared.mover.Mover.{Mover}
use Rattle.fabric_core.specs.declared.worker.Worker.{Worker}
use Rattle.fabric_core.specs.Registers.{out_word}
use Rattle.fabric_core.specs.State.{Core, IsSize, start, new_worker, new_workers}
use Rattle.fabric_core.specs.Working.{begun, out_loaded, named_mid, mid_loaded, named_in, in_loaded}
use Rattle.fabric_core.specs.Moving.{in_set, mid_set, switched, out_cleared, looked, mid_cleared, in_cleared}
use Rattle.fabric_core.specs.Steps.{Moves, Works, WorkerSteps, with_worker, with_mover, Steps, IsAllowed, Reaches, IsReached}
use Rattle.fabric_core.specs.Allowed.{actor_of, MayWork, MayMove}
use Rattle.fabric_core.proofs.Kept.{reach_more, reached_ruled}
use Rattle.fabric_core.specs.Rule.{IsRuled}

-- items of a list, as code reads them
pub found_at : {A : Type 0} (xs : List A) (i : ℕ) (x : A) → i < length xs → get_or xs i x ≡ x → get_elem? xs i ≡ some x
found_at [] i x low e = absurd (omega arith)
found_at (y ∷ xs) zero x low e = ap (λ z. some z) e
found_at (y ∷ xs) (suc i) x low e = found_at xs i x (omega arith) e

pub there_at : {A : Type 0} (xs : List A) (i : ℕ) → i < length xs → (x : A) × (get_elem? xs i ≡ some x)
there_at [] i low = absurd (omega arith)
there_at (y ∷ xs) zero low = (y, refl)
there_at (y ∷ xs) (suc i) low = there_at xs i (omega arith)

-- a test of the item at a place, for the test of it
pub test_at : {A : Type 0} (P : A → Type 0) (xs : List A) (i : ℕ) (x : A) (b : Bool) → i < length xs → x ≡ get_or xs i x → IsTrue b ↔ P x → IsTrue b ↔ ((y : A) × (get_elem? xs i ≡ some y) × P y)
test_at P xs i x b low e test = (
  (λ t. (x, found_at xs i x low (sym e), test.0 t)),
  (λ h. test.1 (subst P (some-injective h.0 x (sym h.1 ∙ found_at xs i x low (sym e))) h.2)),
)

pub none_at : {A : Type 0} (xs : List A) (i : ℕ) (x : A) → length xs ≤ i → get_elem? xs i ≡ some x → ⊥
none_at [] i x le e = absurd (some-ne-none x (sym e))
none_at (y ∷ xs) zero x le e = absurd (omega arith)
none_at (y ∷ xs) (suc i) x le e = none_at xs i x (omega arith) e

-- a worker's events
pub worker_takes : (c : Core) (e : CoreEvent) (w : ℕ) (c' : Core) → actor_of e ≡ actor.Worker w → WorkerSteps c w e c' → Steps c e c'
worker_takes c (Begin u) w c' is h = let same : w ≡ u = cc in subst (λ (n : ℕ). WorkerSteps c n (Begin u) c') same h
worker_takes c (LoadOut u y) w c' is h = let same : w ≡ u = cc in subst (λ (n : ℕ). WorkerSteps c n (LoadOut u y) c') same h
worker_takes c (LoadMid u) w c' is h = let same : w ≡ u = cc in subst (λ (n : ℕ). WorkerSteps c n (LoadMid u) c') same h
worker_takes c (LoadIn u) w c' is h = let same : w ≡ u = cc in subst (λ (n : ℕ). WorkerSteps c n (LoadIn u) c') same h
worker_takes c (End u) w c' is h = let same : w ≡ u = cc in subst (λ (n : ℕ). WorkerSteps c n (End u) c') same h
worker_takes c (SetIn l k) w c' is h = absurd (cc)
worker_takes c SetMid w c' is h = absurd (cc)
worker_takes c SwitchOut w c' is h = absurd (cc)
worker_takes c (ClearOut l) w c' is h = absurd (cc)
worker_takes c (Look u) w c' is h = absurd (cc)
worker_takes c ClearMid w c' is h = absurd (cc)
worker_takes c ClearIn w c' is h = absurd (cc)

pub worker_took : (c : Core) (e : CoreEvent) (w : ℕ) (c' : Core) → actor_of e ≡ actor.Worker w → Steps c e c' → WorkerSteps c w e c'
worker_took c (Begin u) w c' is h = let same : u ≡ w = cc in subst (λ (n : ℕ). WorkerSteps c n (Begin u) c') same h
worker_took c (LoadOut u y) w c' is h = let same : u ≡ w = cc in subst (λ (n : ℕ). WorkerSteps c n (LoadOut u y) c') same h
worker_took c (LoadMid u) w c' is h = let same : u ≡ w = cc in subst (λ (n : ℕ). WorkerSteps c n (LoadMid u) c') same h
worker_took c (LoadIn u) w c' is h = let same : u ≡ w = cc in subst (λ (n : ℕ). WorkerSteps c n (LoadIn u) c') same h
worker_took c (End u) w c' is h = let same : u ≡ w = cc in subst (λ (n : ℕ). WorkerSteps c n (End u) c') same h
worker_took c (SetIn l k) w c' is h = absurd (cc)
worker_took c SetMid w c' is h = absurd (cc)
worker_took c SwitchOut w c' is h = absurd (cc)
worker_took c (ClearOut l) w c' is h = absurd (cc)
worker_took c (Look u) w c' is h = absurd (cc)
worker_took c ClearMid w c' is h = absurd (cc)
worker_took c ClearIn w c' is h = absurd (cc)

pub may_of_works : (z : Size) (m : Mover) (v : Worker) (e : CoreEvent) (v' : Worker) → Works z m v e v' → MayWork z v e
may_of_works z m v (Begin w) v' h = h.0
may_of_works z m v (LoadOut w y) v' h = h.0
may_of_works z m v (LoadMid w) v' h = h.0
may_of_works z m v (LoadIn w) v' h = h.0
may_of_works z m v (End w) v' h = h.0
may_of_works z m v (SetIn l k) v' h = absurd h
may_of_works z m v SetMid v' h = absurd h
may_of_works z m v SwitchOut v' h = absurd h
may_of_works z m v (ClearOut l) v' h = absurd h
may_of_works z m v (Look w) v' h = absurd h
may_of_works z m v ClearMid v' h = absurd h
may_of_works z m v ClearIn v' h = absurd h

works_of_may : (z : Size) (m : Mover) (v : Worker) (e : CoreEvent) → MayWork z v e → (v' : Worker) × Works z m v e v'
works_of_may z m v (Begin w) h = (begun v, (h, refl))
works_of_may z m v (LoadOut w y) h = (out_loaded y (out_word m.registers y) v, (h, refl))
works_of_may z m v (LoadMid w) h = (mid_loaded (named_mid z.shape m.registers v.hold) v, (h, refl))
works_of_may z m v (LoadIn w) h = (in_loaded z.shape (named_in z.shape m.registers v.hold) v, (h, refl))
works_of_may z m v (End w) h = (begun v, (h, refl))
works_of_may z m v (SetIn l k) h = absurd h
works_of_may z m v SetMid h = absurd h
works_of_may z m v SwitchOut h = absurd h
works_of_may z m v (ClearOut l) h = absurd h
works_of_may z m v (Look w) h = absurd h
works_of_may z m v ClearMid h = absurd h
works_of_may z m v ClearIn h = absurd h

pub worker_allowed : (c : Core) (e : CoreEvent) (w : ℕ) → actor_of e ≡ actor.Worker w → (v : Worker) × (get_elem? c.workers w ≡ some v) × MayWork c.size v e → IsAllowed c e
worker_allowed c e w is (v, at, may) = let next = works_of_may c.size c.mover v e may in
    (with_worker c w next.0, worker_takes c e w (with_worker c w next.0) is (v, next.0, at, next.1, refl))

pub worker_may : (c : Core) (e : CoreEvent) (w : ℕ) → actor_of e ≡ actor.Worker w → IsAllowed c e → (v : Worker) × (get_elem? c.workers w ≡ some v) × MayWork c.size v e
worker_may c e w is (c', h) = let steps = worker_took c e w c' is h in (steps.0, steps.2, may_of_works c.size c.mover steps.0 e steps.1 steps.3)

-- the mover's looks
pub looker_takes : (c : Core) (e : CoreEvent) (w : ℕ) (v : Worker) → actor_of e ≡ actor.Looker w → get_elem? c.workers w ≡ some v → Steps c e (with_mover c (looked w v.frame c.mover))
looker_takes c (Look u) w v is at = let same : w ≡ u = cc in subst (λ (n : ℕ). Steps c (Look n) (with_mover c (looked w v.frame c.mover))) same (v, at, refl)
looker_takes c (Begin u) w v is at = absurd (cc)
looker_takes c (LoadOut u y) w v is at = absurd (cc)
looker_takes c (LoadMid u) w v is at = absurd (cc)
looker_takes c (LoadIn u) w v is at = absurd (cc)
looker_takes c (End u) w v is at = absurd (cc)
looker_takes c (SetIn l k) w v is at = absurd (cc)
looker_takes c SetMid w v is at = absurd (cc)
looker_takes c SwitchOut w v is at = absurd (cc)
looker_takes c (ClearOut l) w v is at = absurd (cc)
looker_takes c ClearMid w v is at = absurd (cc)
looker_takes c ClearIn w v is at = absurd (cc)

pub looker_may : (c : Core) (e : CoreEvent) (w : ℕ) → actor_of e ≡ actor.Looker w → IsAllowed c e → (v : Worker) × (get_elem? c.workers w ≡ some v)
looker_may c (Look u) w is (c', (v, at, h)) = let same : u ≡ w = cc in (v, subst (λ (n : ℕ). get_elem? c.workers n ≡ some v) same at)
looker_may c (Begin u) w is h = absurd (cc)
looker_may c (LoadOut u y) w is h = absurd (cc)
looker_may c (LoadMid u) w is h = absurd (cc)
looker_may c (LoadIn u) w is h = absurd (cc)
looker_may c (End u) w is h = absurd (cc)
looker_may c (SetIn l k) w is h = absurd (cc)
looker_may c SetMid w is h = absurd (cc)
looker_may c SwitchOut w is h = absurd (cc)
looker_may c (ClearOut l) w is h = absurd (cc)
looker_may c ClearMid w is h = absurd (cc)
looker_may c ClearIn w is h = absurd (cc)

-- the mover's other steps
pub mover_takes : (c : Core) (e : CoreEvent) (m : Mover) → actor_of e ≡ actor.Mover → Moves c.size c.mover e m → Steps c e (with_mover c m)
mover_takes c (SetIn l k) m is h = (m, h, refl)
mover_takes c SetMid m is h = (m, h, refl)
mover_takes c SwitchOut m is h = (m, h, refl)
mover_takes c (ClearOut l) m is h = (m, h, refl)
mover_takes c ClearMid m is h = (m, h, refl)
mover_takes c ClearIn m is h = (m, h, refl)
mover_takes c (Begin u) m is h = absurd (cc)
mover_takes c (LoadOut u y) m is h = absurd (cc)
mover_takes c (LoadMid u) m is h = absurd (cc)
mover_takes c (LoadIn u) m is h = absurd (cc)
mover_takes c (End u) m is h = absurd (cc)
mover_takes c (Look u) m is h = absurd (cc)

pub mover_allowed : (c : Core) (e : CoreEvent) → MayMove c.size c.mover e → IsAllowed c e
mover_allowed c (SetIn l k) h = let m : Mover = in_set c.size.shape l k c.mover in (with_mover c m, (m, (h, refl), refl))
mover_allowed c SetMid h = let m : Mover = mid_set c.size.shape h.0 h.1 c.mover in (with_mover c m, (m, (h.0, h.1, h.2, refl), refl))
mover_allowed c SwitchOut h = let m : Mover = switched h.0 h.1 c.mover in (with_mover c m, (m, (h.0, h.1, h.2, h.3, refl), refl))
mover_allowed c (ClearOut l) h = let m : Mover = out_cleared l h.0.middle c.mover in (with_mover c m, (m, (h.0, h.1, refl), refl))
mover_allowed c ClearMid h = let m : Mover = mid_cleared c.size.shape h.0 h.1 c.mover in (with_mover c m, (m, (h.0, h.1, h.2, refl), refl))
mover_allowed c ClearIn h = let m : Mover = in_cleared c.size.shape h.0 h.1 c.mover in (with_mover c m, (m, (h.0, h.1, h.2, refl), refl))
mover_allowed c (Begin u) h = absurd h
mover_allowed c (LoadOut u y) h = absurd h
mover_allowed c (LoadMid u) h = absurd h
mover_allowed c (LoadIn u) h = absurd h
mover_allowed c (End u) h = absurd h
mover_allowed c (Look u) h = absurd h

pub mover_may : (c : Core) (e : CoreEvent) → actor_of e ≡ actor.Mover → IsAllowed c e → MayMove c.size c.mover e
mover_may c (SetIn l k) is (c', (m, h, same)) = h.0
mover_may c SetMid is (c', (m, h, same)) = (h.0, h.1, h.2)
mover_may c SwitchOut is (c', (m, h, same)) = (h.0, h.1, h.2, h.3)
mover_may c (ClearOut l) is (c', (m, h, same)) = (h.0, h.1)
mover_may c ClearMid is (c', (m, h, same)) = (h.0, h.1, h.2)
mover_may c ClearIn is (c', (m, h, same)) = (h.0, h.1, h.2)
mover_may c (Begin u) is h = absurd (cc)
mover_may c (LoadOut u y) is h = absurd (cc)
mover_may c (LoadMid u) is h = absurd (cc)
mover_may c (LoadIn u) is h = absurd (cc)
mover_may c (End u) is h = absurd (cc)
mover_may c (Look u) is h = absurd (cc)

-- a state that is reached meets the rule, and so does the next
pub ruled : (c : Core) → IsReached c → IsRuled c
ruled c h = (reached_ruled c.size h.events c h.sized h.reached).1

pub one_more : (c : Core) (e : CoreEvent) (c' : Core) → IsReached c → Steps c e c' → IsReached c'
one_more c e c' h does =
    let all = h.events ++ e ∷ [] in
    let far = reach_more (start c.size) h.events c e c' h.reached does in
    let same = (reached_ruled c.size all c' h.sized far).0 in
    record { sized = subst IsSize (sym same) h.sized; events = all; reached = subst (λ (z : Size). Reaches (start z) all c') (sym same) far }

-- the start is reached
pub start_reached : (z : Size) → IsSize z → IsReached (start z)
start_reached z s = record { sized = s; events = []; reached = refl }

-- one worker more, after the others
pub workers_more : (b n : ℕ) → new_workers b n ++ new_worker (b + n) ∷ [] ≡ new_workers b (n + 1)
workers_more b zero = let e : b + 0 ≡ b = omega arith in ap (λ (k : ℕ). new_worker k ∷ []) e
workers_more b (suc n) = let e : b + suc n ≡ (b + 1) + n = omega arith in let f : suc n + 1 ≡ suc (n + 1) = omega arith in
    ap (λ (k : ℕ). new_workers b (suc n) ++ new_worker k ∷ []) e ∙ (ap (λ l. new_worker b ∷ l) (workers_more (b + 1) n) ∙ ap (new_workers b) (sym f))
