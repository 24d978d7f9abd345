use Rattle.roll_engine.proofs.Colouring.{done_midway}
use Rattle.roll_engine.proofs.laws.midway_done.Goals as goal

pub returns : goal.returns
returns c = done_midway
