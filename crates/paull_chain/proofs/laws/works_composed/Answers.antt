use Rattle.paull_chain.proofs.Working.{works_composed}
use Rattle.paull_chain.proofs.laws.works_composed.Goals as goal

pub returns : goal.returns
returns c = works_composed
