use Rattle.std.proofs.Common.{◌<◌, OnOk, length, sym, subst, arith}
use Rattle.fabric_core.specs.State.{Core}
use Rattle.fabric_core.specs.Steps.{IsAllowed, Steps, with_worker}
use Rattle.fabric_core.proofs.Acting.{ruled}
use Rattle.fabric_core.proofs.Stepping.{worker_there, worker_ready, after_worker}
use Rattle.fabric_core.proofs.state.CoreState.work.Goals as goal

pub index_mut-requires : goal.index_mut-requires
index_mut-requires c = let i = c.self.inside in let k : Core = record { size = i.size; mover = i.mover; workers = i.workers.items } in
    let low : c.args.worker < length i.workers.items = worker_there k c.self.invariant c.args.event c.args.worker c.requires.taken (subst (λ (s : Core). IsAllowed s c.args.event) (sym c.self.view_is) c.requires.allowed) in omega arith

pub step-requires-clause-mover : goal.step-requires-clause-mover
step-requires-clause-mover c = (ruled _ c.self.invariant).mover

pub step-requires-clause-ruled : goal.step-requires-clause-ruled
step-requires-clause-ruled c = let i = c.self.inside in let k : Core = record { size = i.size; mover = i.mover; workers = i.workers.items } in
    (worker_ready k c.self.invariant c.args.event c.args.worker c.index_mut.result.now c.requires.taken (subst (λ (s : Core). IsAllowed s c.args.event) (sym c.self.view_is) c.requires.allowed) c.index_mut.ensures.value).1

pub step-requires-clause-allowed : goal.step-requires-clause-allowed
step-requires-clause-allowed c = let i = c.self.inside in let k : Core = record { size = i.size; mover = i.mover; workers = i.workers.items } in
    (worker_ready k c.self.invariant c.args.event c.args.worker c.index_mut.result.now c.requires.taken (subst (λ (s : Core). IsAllowed s c.args.event) (sym c.self.view_is) c.requires.allowed) c.index_mut.ensures.value).2

pub invariant_of-self : goal.invariant_of-self
invariant_of-self c = let i = c.self.inside in let k : Core = record { size = i.size; mover = i.mover; workers = i.workers.items } in
    let ready = worker_ready k c.self.invariant c.args.event c.args.worker c.index_mut.result.now c.requires.taken (subst (λ (s : Core). IsAllowed s c.args.event) (sym c.self.view_is) c.requires.allowed) c.index_mut.ensures.value in
    (after_worker k c.self.invariant c.args.event c.args.worker c.index_mut.result.now c.step.new.self c.step.result c.requires.taken ready.0 c.step.ensures.stepped c.step.ensures.kept).1

pub returns-clause-stepped : goal.returns-clause-stepped
returns-clause-stepped c = let i = c.self.inside in let k : Core = record { size = i.size; mover = i.mover; workers = i.workers.items } in
    let ready = worker_ready k c.self.invariant c.args.event c.args.worker c.index_mut.result.now c.requires.taken (subst (λ (s : Core). IsAllowed s c.args.event) (sym c.self.view_is) c.requires.allowed) c.index_mut.ensures.value in
    let next : Core = with_worker k c.args.worker c.step.new.self in
    subst (λ (s : Core). OnOk c.step.result (Steps s c.args.event next)) c.self.view_is
    (after_worker k c.self.invariant c.args.event c.args.worker c.index_mut.result.now c.step.new.self c.step.result c.requires.taken ready.0 c.step.ensures.stepped c.step.ensures.kept).0
