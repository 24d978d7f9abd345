use Rattle.paull_chain.proofs.Unique.{chain_once}
use Rattle.paull_chain.proofs.laws.chains_determined.Goals as goal

pub returns : goal.returns
returns c = λ d a b m s ks ls p h g. chain_once d a b p s m ks ls h g
