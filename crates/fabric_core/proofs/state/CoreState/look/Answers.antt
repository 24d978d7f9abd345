use Rattle.std.proofs.Common.{OnOk, sym, subst, arith}
use Rattle.fabric_core.specs.State.{Core}
use Rattle.fabric_core.specs.Steps.{IsAllowed, Steps, with_mover}
use Rattle.fabric_core.proofs.Acting.{found_at}
use Rattle.fabric_core.proofs.Stepping.{looker_there, after_look}
use Rattle.fabric_core.proofs.state.CoreState.look.Goals as goal

pub index-requires : goal.index-requires
index-requires c = let i = c.self.inside in let k : Core = record { size = i.size; mover = i.mover; workers = i.workers.items } in
    let low = (looker_there k c.self.invariant c.args.event c.args.worker c.requires.taken (subst (λ (s : Core). IsAllowed s c.args.event) (sym c.self.view_is) c.requires.allowed)).0 in omega arith

pub look-requires : goal.look-requires
look-requires c = let i = c.self.inside in let k : Core = record { size = i.size; mover = i.mover; workers = i.workers.items } in
    (looker_there k c.self.invariant c.args.event c.args.worker c.requires.taken (subst (λ (s : Core). IsAllowed s c.args.event) (sym c.self.view_is) c.requires.allowed)).1

pub invariant_of-self : goal.invariant_of-self
invariant_of-self c = let i = c.self.inside in let k : Core = record { size = i.size; mover = i.mover; workers = i.workers.items } in
    let low = (looker_there k c.self.invariant c.args.event c.args.worker c.requires.taken (subst (λ (s : Core). IsAllowed s c.args.event) (sym c.self.view_is) c.requires.allowed)).0 in
    let after = after_look k c.self.invariant c.args.event c.args.worker c.index.result.now c.look.new.self c.look.result c.requires.taken (found_at i.workers.items c.args.worker c.index.result.now low (sym c.index.ensures)) c.look.ensures in
    after.1

pub returns-clause-stepped : goal.returns-clause-stepped
returns-clause-stepped c = let i = c.self.inside in let k : Core = record { size = i.size; mover = i.mover; workers = i.workers.items } in
    let low = (looker_there k c.self.invariant c.args.event c.args.worker c.requires.taken (subst (λ (s : Core). IsAllowed s c.args.event) (sym c.self.view_is) c.requires.allowed)).0 in
    let after = after_look k c.self.invariant c.args.event c.args.worker c.index.result.now c.look.new.self c.look.result c.requires.taken (found_at i.workers.items c.args.worker c.index.result.now low (sym c.index.ensures)) c.look.ensures in
    let next : Core = with_mover k c.look.new.self in
    subst (λ (s : Core). OnOk c.look.result (Steps s c.args.event next)) c.self.view_is after.0
