use Rattle.xc_recovery.proofs.plan.begin_chain.Goals as goal

pub returns : goal.returns
returns c = (c.plan_chain.new.op, c.plan_chain.ensures, c.begin.ensures.ops, c.begin.ensures.unmade)
