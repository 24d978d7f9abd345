use Rattle.dxc_element.proofs.Starting.{users_started}
use Rattle.dxc_element.proofs.opening.start_users_on.Goals as goal

pub returns-in-Ok : goal.returns-in-Ok
returns-in-Ok g c =
    let e = c.open.ensures in
    users_started g.D.Disk.told g.D.Disk.state _ g.met.D.Disk.counts_on c.args.disk c.args.shelf.now c.in-Ok.users c.open.result c.in-Ok.is c.in-Ok.ensures.ok.0 c.in-Ok.ensures.handed c.in-Ok.ensures.ok.1 e.cause e.room

pub returns-in-Err : goal.returns-in-Err
returns-in-Err g c =
    let e = c.in-Err.ensures in
    record { why = e.fails; left = e.any_moment; disk_failed = λ failed sound. e.sound sound failed }
