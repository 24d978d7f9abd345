use Rattle.std.proofs.Common.{length, ap, ◌∙◌}
use Rattle.fabric_words.specs.Seats.{MoverAt}
use Rattle.xc_core.proofs.Staged.{resumed_at}
use Rattle.xc_core.proofs.recovery.resume.Goals as goal

pub returns-in-At-clause-resumed : goal.returns-in-At-clause-resumed
returns-in-At-clause-resumed c = resumed_at _ c.args.mover.now.mover c.args.work c.args.matrix.now c.in-At.made _ _ c.args.switches c.rest.result c.requires.made
    c.in-At.ensures.stage (c.switches.ensures ∙ ap (λ (v : MoverAt). length v.mover.log) c.stage_on.ensures.mover) (c.phase.ensures.value ∙ ap (λ (v : MoverAt). v.mover.phase) c.stage_on.ensures.mover) c.rest.ensures
