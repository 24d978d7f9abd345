use Rattle.std.proofs.Common.{refl, ap, ◌∙◌}
use Rattle.xc_core.specs.declared.provisioner.Driver.{Driver}
use Rattle.xc_core.proofs.start.house.Goals as goal

pub returns-in-Ok : goal.returns-in-Ok
returns-in-Ok g c = record { table = refl; reports = refl; last = refl; handed = refl; p = ap (λ (x : Driver g.row.D.Denot). x.p) c.in-Ok.ensures.ok }

pub returns-in-Err : goal.returns-in-Err
returns-in-Err g c = c.disk_in.ensures ∙ ap (λ (x : Driver g.row.D.Denot). x.p.journal.0) c.in-Err.ensures.value_returned
