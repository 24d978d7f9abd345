use Rattle.roll_engine.proofs.Colouring.{ready_midway}
use Rattle.roll_engine.proofs.laws.midway_ready.Goals as goal

pub returns : goal.returns
returns c = ready_midway
