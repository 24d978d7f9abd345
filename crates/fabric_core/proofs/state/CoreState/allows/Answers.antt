use Rattle.std.proofs.Common.{◌≡◌, ◌↔◌, IsTrue, length, rules, sym, ◌∙◌, subst, arith}
use Rattle.std.proofs.lemmas.Bool.{ltb-true, lt-ltb}
use Rattle.std.proofs.Math.Dec.{ltb}
use Rattle.fabric_core.specs.declared.event.Actor.TheVariants as actor
use Rattle.fabric_core.specs.State.{Core}
use Rattle.fabric_core.specs.Steps.{IsAllowed, with_mover}
use Rattle.fabric_core.specs.Moving.{looked}
use Rattle.fabric_core.specs.Allowed.{actor_of}
use Rattle.fabric_core.proofs.Noting.{at_below}
use Rattle.fabric_core.proofs.Acting.{ruled, worker_allowed, worker_may, looker_takes, looker_may, mover_allowed, mover_may, there_at}
use Rattle.fabric_core.proofs.state.CoreState.allows.Goals as goal

pub may-requires-clause-laid : goal.may-requires-clause-laid
may-requires-clause-laid c = (ruled _ c.self.invariant).mover.laid

pub returns-in-Worker : goal.returns-in-Worker
returns-in-Worker c = let is : actor_of c.args.event ≡ actor.Worker c.in-Worker.worker = sym c.actor.ensures ∙ c.in-Worker.is in (
  (λ e. worker_allowed c.args.self.now c.args.event c.in-Worker.worker is (c.worker_may.ensures.0 e)),
  (λ may. c.worker_may.ensures.1 (worker_may c.args.self.now c.args.event c.in-Worker.worker is may)),
)

pub returns-in-Looker : goal.returns-in-Looker
returns-in-Looker c =
    let is : actor_of c.args.event ≡ actor.Looker c.in-Looker.worker = sym c.actor.ensures ∙ c.in-Looker.is in
    let len : c.len.result ≡ length c.self.inside.workers.items = search rules in
    subst (λ (k : Core). IsTrue (ltb c.in-Looker.worker c.len.result) ↔ IsAllowed k c.args.event) c.self.view_is (
      (λ e. let low = ltb-true c.in-Looker.worker c.len.result e in let there = there_at c.self.inside.workers.items c.in-Looker.worker (omega arith) in
          (with_mover (record { size = c.self.inside.size; mover = c.self.inside.mover; workers = c.self.inside.workers.items }) (looked c.in-Looker.worker there.0.frame c.self.inside.mover), looker_takes _ c.args.event c.in-Looker.worker there.0 is there.1)),
      (λ may. let found = looker_may _ c.args.event c.in-Looker.worker is may in let low = at_below c.self.inside.workers.items found.0 c.in-Looker.worker found.1 in lt-ltb c.in-Looker.worker c.len.result (omega arith)),
    )

pub returns-in-Mover : goal.returns-in-Mover
returns-in-Mover c = let is : actor_of c.args.event ≡ actor.Mover = sym c.actor.ensures ∙ c.in-Mover.is in
    subst (λ (k : Core). IsTrue c.may.result ↔ IsAllowed k c.args.event) c.self.view_is
    ((λ e. mover_allowed _ c.args.event (c.may.ensures.0 e)), (λ may. c.may.ensures.1 (mover_may _ c.args.event is may)))
