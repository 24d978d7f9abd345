use Rattle.paull_chain.proofs.Unique.{plan_once}
use Rattle.paull_chain.proofs.laws.plans_determined.Goals as goal

pub returns : goal.returns
returns c = plan_once
