use Rattle.std.proofs.Common.{◌≡◌, ◌∙◌, length, sym, ap}
use Rattle.xc_recovery.proofs.Shifting.{first_alone}
use Rattle.xc_recovery.proofs.plan.plan_ahead.Goals as goal

pub begin_one-requires-clause-only : goal.begin_one-requires-clause-only
begin_one-requires-clause-only c =
    let ts = c.deref.result.now in
    let one : length ts ≡ 1 = ap length c.deref.ensures.0 ∙ sym c.len.ensures.value ∙ c.if-len-eq1.true in
    sym c.tasks_of-tasks.ensures ∙ sym c.deref.ensures.0 ∙ first_alone ts _ one
