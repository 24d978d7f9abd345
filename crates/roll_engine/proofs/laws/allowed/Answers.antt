use Rattle.roll_engine.proofs.Colouring.{always_allowed}
use Rattle.roll_engine.proofs.laws.allowed.Goals as goal

pub returns : goal.returns
returns c = always_allowed
