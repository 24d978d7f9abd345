use Rattle.craft_session.proofs.Scripts.{script_of}
use Rattle.session_laws.proofs.scripts_are_played.Goals as goal

pub returns : goal.returns
returns g c = λ disk users_disk. script_of g.D.Disk.told g.K.Link.told g.C.Clock.told (g.D.Disk.state disk) (g.U.Disk.state users_disk)
