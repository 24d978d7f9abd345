use Rattle.std.proofs.Common.{sym, subst}
use Rattle.fabric_core.specs.State.{Core}
use Rattle.fabric_core.specs.Steps.{IsAllowed}
use Rattle.fabric_core.proofs.Acting.{ruled, mover_may}
use Rattle.fabric_core.proofs.Stepping.{after_move}
use Rattle.fabric_core.proofs.state.CoreState.turn.Goals as goal

pub step-requires-clause-ruled : goal.step-requires-clause-ruled
step-requires-clause-ruled c = (ruled _ c.self.invariant).mover

pub step-requires-clause-allowed : goal.step-requires-clause-allowed
step-requires-clause-allowed c = let i = c.self.inside in let k : Core = record { size = i.size; mover = i.mover; workers = i.workers.items } in mover_may k c.args.event c.requires.taken (subst (λ (s : Core). IsAllowed s c.args.event) (sym c.self.view_is) c.requires.allowed)

pub invariant_of-self : goal.invariant_of-self
invariant_of-self c = let i = c.self.inside in let k : Core = record { size = i.size; mover = i.mover; workers = i.workers.items } in
    (after_move k c.self.invariant c.args.event c.step.new.self c.step.result c.requires.taken c.step.ensures.stepped c.step.ensures.kept).1
