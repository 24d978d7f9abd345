use Rattle.std.proofs.Common.{subst, sym}
use Rattle.dxc_element.specs.Loads.{NotLoaded}
use Rattle.dxc_element.proofs.Loading.{not_loaded}
use Rattle.dxc_element.proofs.memory.new_controller.Goals as goal

pub returns-in-Ok-clause-started : goal.returns-in-Ok-clause-started
returns-in-Ok-clause-started g c = (c.args.disk, c.requires.fresh, c.in-Ok.ensures.started)

pub returns-in-Err-clause-started : goal.returns-in-Err-clause-started
returns-in-Err-clause-started g c = subst (NotLoaded _ _) (sym c.not_started.ensures) (not_loaded g.D.Disk.told g.D.Disk.state c.requires.told c.args.disk c.args.shelf _ _ c.requires.fresh c.in-Err.fault c.in-Err.ensures.started)
