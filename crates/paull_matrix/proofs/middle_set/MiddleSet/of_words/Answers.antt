use Rattle.std.proofs.Common.{rules}
use Rattle.paull_matrix.proofs.Bits.{high_bit, low_bit}
use Rattle.paull_matrix.proofs.middle_set.MiddleSet.of_words.Goals as goal

pub returns-clause-low : goal.returns-clause-low
returns-clause-low c = λ k h. low_bit c.args.high c.args.low k (search rules) h

pub returns-clause-high : goal.returns-clause-high
returns-clause-high c = λ k h. high_bit c.args.high c.args.low k (search rules) (search rules)
