use Rattle.roll_engine.proofs.Colouring.{new_at_rest}
use Rattle.roll_engine.proofs.laws.new_at_rest.Goals as goal

pub returns : goal.returns
returns c = new_at_rest
