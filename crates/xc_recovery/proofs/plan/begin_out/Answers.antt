use Rattle.xc_recovery.proofs.plan.begin_out.Goals as goal

pub returns-in-Some-clause-planned : goal.returns-in-Some-clause-planned
returns-in-Some-clause-planned c = (c.in-Some.op, c.in-Some.ensures.planned, c.begin.ensures.ops, c.begin.ensures.unmade)
