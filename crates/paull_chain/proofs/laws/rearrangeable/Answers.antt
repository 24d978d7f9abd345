use Rattle.paull_chain.proofs.Joining.{rearrangeable}
use Rattle.paull_chain.proofs.laws.rearrangeable.Goals as goal

pub returns : goal.returns
returns c = rearrangeable
