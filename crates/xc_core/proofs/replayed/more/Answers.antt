use Rattle.std.proofs.Common.{◌≡◌, sym, ap, ◌∙◌, subst, true≢false}
use Rattle.dxc_model.specs.Tables.{Board}
use Rattle.dxc_model.specs.Verdicts.{MayTake, effect}
use Rattle.dxc_model.proofs.Verdicts.{own_verdict}
use Rattle.paull_matrix.specs.Colourings.{Colouring}
use Rattle.paull_chain.specs.Works.{after_ops}
use Rattle.xc_recovery.specs.ChangeWorks.{ChangesPlanned}
use Rattle.xc_recovery.proofs.Once.{change_plans_once}
use Rattle.xc_core.proofs.Rolling.{placed_as}
use Rattle.xc_core.proofs.replayed.more.Goals as goal

pub take-requires : goal.take-requires
take-requires c = let w = c.requires.past in
    subst (λ (t : Board). MayTake t c.args.change) (sym w.2.table) (own_verdict w.0.fold.table w.1 c.args.change w.3)

pub plan_work-requires-clause-placed : goal.plan_work-requires-clause-placed
plan_work-requires-clause-placed c = let w = c.requires.past in placed_as w.0 c.args.replayed.now.expected c.args.matrix.now w.2.table w.2.matrix w.2.placed

pub plan_work-requires-clause-granted : goal.plan_work-requires-clause-granted
plan_work-requires-clause-granted c = let w = c.requires.past in subst (λ (t : Board). MayTake t c.args.change) (sym w.2.table) (own_verdict w.0.fold.table w.1 c.args.change w.3)

pub returns-else-is_more-clause-more : goal.returns-else-is_more-clause-more
returns-else-is_more-clause-more c = λ b op h granted ops planned table matrix.
    let w = c.in_ok-work.work in
    let mine : ChangesPlanned b.fold.table b.fold.colours c.args.change w.ops.items = subst (λ (x : Board × Colouring). ChangesPlanned x.0 x.1 c.args.change w.ops.items) (λ i. (h.table i, h.matrix i)) c.in_ok-work.ensures.planned in
    let same : w.ops.items ≡ ops = change_plans_once b.fold.table b.fold.colours c.args.change w.ops.items ops mine planned in
    true≢false (sym (c.is-is_more.ensures.1 (
      table ∙ sym (c.take.ensures ∙ ap (λ (t : Board). effect t c.args.change) h.table),
      matrix ∙ sym (c.in_ok-work.ensures.matrix ∙ (λ i. after_ops (same i) (h.matrix i))),
    )) ∙ c.if-is_more.false)
