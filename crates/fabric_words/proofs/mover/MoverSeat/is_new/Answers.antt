use Rattle.std.proofs.Common.{sym, ◌∙◌, subst}
use Rattle.fabric_core.specs.Moving.{IsUnused}
use Rattle.fabric_words.specs.Seats.{MoverAt}
use Rattle.fabric_words.proofs.Asked.{not_found}
use Rattle.fabric_words.proofs.mover.MoverSeat.is_new.Goals as goal

pub returns-then-load-eq0-clause-unused : goal.returns-then-load-eq0-clause-unused
returns-then-load-eq0-clause-unused c =
    let v = c.args.self.now in
    let none = sym c.load.ensures.word ∙ c.if-load-eq0.true in
    let unused = c.is_unused.ensures.unused in (
      (λ e. (sym (not_found v.fabric.size v.mover c.args.leg.output c.phase.ensures.sized c.phase.ensures.ruled c.requires.inside none), none, subst (λ (s : MoverAt). IsUnused s.mover c.args.leg.input) c.load.ensures.same (unused.0 e))),
      (λ new. unused.1 (subst (λ (s : MoverAt). IsUnused s.mover c.args.leg.input) (sym c.load.ensures.same) new.2)),
    )
