use Rattle.std.proofs.Common.{◌≡◌, Some, sym, ◌∙◌, subst, true≢false}
use Rattle.dxc_model.specs.Tables.{Board}
use Rattle.dxc_model.specs.Verdicts.{Grants}
use Rattle.xc_core.proofs.Giving.{beside_op, given_more}
use Rattle.xc_core.proofs.replayed.compare.Goals as goal

pub returns-clause-given : goal.returns-clause-given
returns-clause-given c = λ b h.
    let asked : c.args.doubt ≡ Some c.in_ok-op.op = c.in_ok-op.was in
    let granted = subst (λ (t : Board). Grants t c.in_ok-op.op c.in-Ok.change) h.table c.in-Ok.ensures.verdict in
    given_more b c.args.doubt c.in_ok-op.op c.in-Ok.change c.args.replayed.now.table c.args.replayed.now.matrix asked granted
    (λ is. true≢false (sym (c.is.ensures.1 (is.0 ∙ sym h.table, is.1 ∙ sym h.matrix)) ∙ c.if-is.false))
    c.more.result h.doubts (c.more.ensures.more b c.in_ok-op.op (beside_op b c.args.replayed.now c.args.matrix.now c.args.replayed.now.expected c.args.doubt c.args.spent c.in_ok-op.op asked h) granted)
