use Rattle.paull_chain.proofs.Joining.{column_chain, row_chain}
use Rattle.paull_chain.proofs.laws.chains_end.Goals as goal

pub returns : goal.returns
returns c = λ d a b i j e.
    let row = row_chain d a b e.proper i j e.in_row e.in_column e.low.0 e.low.1 in
    let column = column_chain d a b e.proper i j e.in_row e.in_column e.low.0 e.low.1 in
    (row.0, column.0, row.1, column.1)
