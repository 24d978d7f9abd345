use Rattle.paull_chain.proofs.Chosen.{always_chosen}
use Rattle.paull_chain.proofs.laws.always_chosen.Goals as goal

pub returns : goal.returns
returns c = always_chosen
