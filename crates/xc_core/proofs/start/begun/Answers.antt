use Rattle.std.proofs.Common.{refl, ap, ◌∙◌}
use Rattle.xc_core.specs.declared.provisioner.Driver.{Driver}
use Rattle.xc_core.proofs.start.begun.Goals as goal

pub returns-clause-state : goal.returns-clause-state
returns-clause-state g c = refl

pub returns-clause-disk : goal.returns-clause-disk
returns-clause-disk g c = c.of-origin.ensures.disk

pub returns-clause-table : goal.returns-clause-table
returns-clause-table g c = c.of-origin.ensures.table

pub returns-clause-provisioner : goal.returns-clause-provisioner
returns-clause-provisioner g c = c.of-origin.ensures.provisioner ∙ ap (λ (x : Driver g.row.D.Denot). x.p) c.deref.ensures

pub returns-clause-last : goal.returns-clause-last
returns-clause-last g c = c.of-origin.ensures.last
