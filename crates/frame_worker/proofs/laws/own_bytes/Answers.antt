use Rattle.frame_worker.proofs.Owning.{own_bytes}
use Rattle.frame_worker.proofs.laws.own_bytes.Goals as goal

pub returns : goal.returns
returns c = own_bytes
