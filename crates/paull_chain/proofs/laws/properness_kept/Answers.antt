use Rattle.paull_chain.proofs.Working.{properness_kept}
use Rattle.paull_chain.proofs.laws.properness_kept.Goals as goal

pub returns : goal.returns
returns c = properness_kept
