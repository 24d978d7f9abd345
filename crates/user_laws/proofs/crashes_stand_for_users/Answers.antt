use Rattle.user_laws.proofs.Crashed.{crashes_stand}
use Rattle.user_laws.proofs.crashes_stand_for_users.Goals as goal

pub returns : goal.returns
returns g c = crashes_stand g.D.Disk.told g.D.Disk.state
