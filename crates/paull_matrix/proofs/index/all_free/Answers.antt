use Rattle.paull_matrix.proofs.Bits.{full_bit}
use Rattle.paull_matrix.proofs.index.all_free.Goals as goal

pub returns : goal.returns
returns c = full_bit
