-- After a step that was taken, or failed for want of memory, the state is one that was reached.
use Rattle.std.proofs.Common.{◌≡◌, ℕ, ◌<◌, Result, Ok, Err, OnOk, OnErr, MatchResult, length, get_or, set, sym, refl, ap, ◌∙◌, subst, arith}
use mathlib.Core.Option.{some, some-injective as some_same}
use lib.ListN.{get_elem?}
use Rattle.atomic_table.proofs.Lists.{set_again}
use Rattle.fabric_core.specs.declared.event.CoreEvent.{CoreEvent}
use Rattle.fabric_core.specs.declared.event.Actor.TheVariants as actor
use Rattle.fabric_core.specs.declared.mover.Mover.{Mover}
use Rattle.fabric_core.specs.declared.worker.Worker.{Worker}
use Rattle.fabric_core.specs.State.{Core}
use Rattle.fabric_core.specs.Moving.{looked}
use Rattle.fabric_core.specs.Steps.{Moves, Works, with_worker, with_mover, Steps, IsAllowed, IsReached}
use Rattle.fabric_core.specs.Allowed.{actor_of, MayWork}
use Rattle.fabric_core.specs.Rule.{IsWorkerRuled}
use Rattle.fabric_core.proofs.Noting.{at_below}
use Rattle.fabric_core.proofs.Acting.{found_at, worker_takes, worker_may, looker_takes, looker_may, mover_takes, ruled, one_more}

module _ (c : Core) (reached : IsReached c) (e : CoreEvent) where
  -- what an allowed step of a worker finds
  pub worker_there : (w : ℕ) → actor_of e ≡ actor.Worker w → IsAllowed c e → w < length c.workers
  worker_there w is may = let found = worker_may c e w is may in at_below c.workers found.0 w found.1

  pub worker_ready : (w : ℕ) (x : Worker) → actor_of e ≡ actor.Worker w → IsAllowed c e → x ≡ get_or c.workers w x → (get_elem? c.workers w ≡ some x) × IsWorkerRuled c.size.shape c.mover x × MayWork c.size x e
  worker_ready w x is may at =
      let found = worker_may c e w is may in
      let here = found_at c.workers w x (at_below c.workers found.0 w found.1) (sym at) in
      let same : found.0 ≡ x = some_same found.0 x (sym found.1 ∙ here) in
      (here, ((ruled c reached).each w x here).1, subst (λ v. MayWork c.size v e) same found.2)

  pub looker_there : (w : ℕ) → actor_of e ≡ actor.Looker w → IsAllowed c e → (w < length c.workers) × (w < length c.mover.looks)
  looker_there w is may = let found = looker_may c e w is may in let low = at_below c.workers found.0 w found.1 in let r = ruled c reached in let a = r.workers in let b = r.mover.laid.looks in (low, omega arith)

module _ {A E : Type 0} (c : Core) (reached : IsReached c) (e : CoreEvent) where
  -- the step was taken, and the next state is reached
  abbrev pub After : Result A E → Core → Type 0
  After r c' = OnOk r (Steps c e c') × IsReached c'

  pub after_worker : (w : ℕ) (v v' : Worker) (r : Result A E) → actor_of e ≡ actor.Worker w → get_elem? c.workers w ≡ some v → OnOk r (Works c.size c.mover v e v') → OnErr r (v' ≡ v) → After r (with_worker c w v')
  after_worker w v v' (Ok x) is at does same = let steps = worker_takes c e w (with_worker c w v') is (v, v', at, does, refl) in (steps, one_more c e (with_worker c w v') reached steps)
  after_worker w v v' (Err x) is at does same = let all : with_worker c w v' ≡ c = λ i. record { size = c.size; mover = c.mover; workers = (ap (λ u. set c.workers w u) same ∙ set_again c.workers w v at) i } in (tt, subst IsReached (sym all) reached)

  pub after_look : (w : ℕ) (v : Worker) (m : Mover) (r : Result A E) → actor_of e ≡ actor.Looker w → get_elem? c.workers w ≡ some v → MatchResult r (λ _. m ≡ looked w v.frame c.mover) (λ _. m ≡ c.mover) → After r (with_mover c m)
  after_look w v m (Ok x) is at does = let steps = subst (λ n. Steps c e (with_mover c n)) (sym does) (looker_takes c e w v is at) in (steps, one_more c e (with_mover c m) reached steps)
  after_look w v m (Err x) is at same = (tt, subst (λ n. IsReached (with_mover c n)) (sym same) reached)

  pub after_move : (m : Mover) (r : Result A E) → actor_of e ≡ actor.Mover → OnOk r (Moves c.size c.mover e m) → OnErr r (m ≡ c.mover) → After r (with_mover c m)
  after_move m (Ok x) is does same = let steps = mover_takes c e m is does in (steps, one_more c e (with_mover c m) reached steps)
  after_move m (Err x) is does same = (tt, subst (λ n. IsReached (with_mover c n)) (sym same) reached)
