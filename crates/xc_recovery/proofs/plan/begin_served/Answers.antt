use Rattle.xc_recovery.proofs.plan.begin_served.Goals as goal

pub returns-in-Some : goal.returns-in-Some
returns-in-Some c = (c.direct.result, c.in-Some.ensures c.direct.result c.direct.ensures.direct, c.begin.ensures.ops, c.begin.ensures.unmade)
