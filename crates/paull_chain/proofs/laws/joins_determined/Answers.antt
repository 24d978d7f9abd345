use Rattle.paull_chain.proofs.Unique.{joins_determined}
use Rattle.paull_chain.proofs.laws.joins_determined.Goals as goal

pub returns : goal.returns
returns c = joins_determined
