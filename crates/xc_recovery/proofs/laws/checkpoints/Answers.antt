use Rattle.xc_recovery.proofs.Rowing.{checkpoints_stand}
use Rattle.xc_recovery.proofs.laws.checkpoints.Goals as goal

pub returns : goal.returns
returns c = checkpoints_stand
