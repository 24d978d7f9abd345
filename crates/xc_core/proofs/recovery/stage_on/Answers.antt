use Rattle.std.proofs.Common.{sym, ap, ◌∙◌}
use Rattle.paull_matrix.specs.Colourings.{Colouring}
use Rattle.paull_chain.proofs.Working.{ops_shape}
use Rattle.xc_recovery.proofs.LastWorks.{last_undone}
use Rattle.xc_core.proofs.recovery.stage_on.Goals as goal

pub stage_of-stage-requires-clause-shape : goal.stage_of-stage-requires-clause-shape
stage_of-stage-requires-clause-shape c =
    let b = c.requires.made.0 in
    let is = c.requires.made.1 in
    let ops = c.args.last.now.ops.items in
    ap (λ (x : Colouring). x.shape) (c.undo_work.ensures b (last_undone b ops c.args.matrix.now is)) ∙ (sym (ops_shape ops b) ∙ (sym (ap (λ (x : Colouring). x.shape) is.leads) ∙ c.requires.shape))
