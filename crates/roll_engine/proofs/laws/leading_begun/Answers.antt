use Rattle.roll_engine.proofs.Leading.{leading_begun}
use Rattle.roll_engine.proofs.laws.leading_begun.Goals as goal

pub returns : goal.returns
returns c = leading_begun
