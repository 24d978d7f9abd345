use Rattle.paull_matrix.specs.declared.side.Side.TheVariants.{Row, Column}
use Rattle.paull_chain.proofs.Bound.{share_none, short}
use Rattle.paull_chain.proofs.Seconds.{chain_walk}
use Rattle.paull_chain.proofs.laws.chains_apart.Goals as goal

pub returns : goal.returns
returns c = λ d a b i j ks ls e h g.
    let x = chain_walk d a b Row i ks h in
    let y = chain_walk d a b Column j ls g in
    (share_none d a b e.proper i j ks ls e.in_row e.in_column x y, short d a b e.proper i j ks ls e.in_row e.in_column e.low.0 e.low.1 x y)
