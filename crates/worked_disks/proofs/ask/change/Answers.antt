use Rattle.worked_disks.proofs.Standing.{still_stands}
use Rattle.worked_disks.proofs.ask.change.Goals as goal

pub returns : goal.returns
returns g c = record { stands = let w = c.requires.stands in still_stands g.D.Disk.told g.D.Disk.state w.0 w.1 0 c.args.op.now c.change-done.new.self c.change-done.result (c.change-done.ensures.changed w.0 w.1 0 w.2) }
