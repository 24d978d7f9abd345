use Rattle.roll_engine.proofs.Running.{always_midway}
use Rattle.roll_engine.proofs.laws.midway.Goals as goal

pub returns : goal.returns
returns c = always_midway
