use Rattle.std.proofs.Common.{subst}
use Rattle.std.specs.Arc.{arc_value}
use Rattle.turnstile.specs.Passing.{TurnstileView}
use Rattle.fabric_words.specs.Seats.{FabricId}
use Rattle.xc_core.specs.declared.state.State.{State}
use Rattle.craft_session.specs.Seats.{IsSeated}
use Rattle.worked_restarts.proofs.audit.Audit.words.Goals as goal

pub words_in_turn-requires : goal.words_in_turn-requires
words_in_turn-requires g c = rw (c.deref.ensures, c.deref-2.ensures) c.self.invariant.0

pub invariant_of-self : goal.invariant_of-self
invariant_of-self g c =
    let seated = subst (λ (i : FabricId). IsSeated g.D.Disk.told g.D.Disk.state c.words_in_turn.new.pass (arc_value c.self.inside.turns) i) c.deref-2.ensures
    (subst (λ (t : TurnstileView (State g.row.D.Denot)). IsSeated g.D.Disk.told g.D.Disk.state c.words_in_turn.new.pass t c.deref-2.result.now) c.deref.ensures c.words_in_turn.ensures) in
    (seated, c.self.invariant.1)
