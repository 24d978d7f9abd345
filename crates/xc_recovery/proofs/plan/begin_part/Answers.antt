use Rattle.xc_recovery.proofs.plan.begin_part.Goals as goal

pub returns : goal.returns
returns c = (c.planned_part.result, c.planned_part.ensures, c.begin.ensures.ops, c.begin.ensures.unmade)
