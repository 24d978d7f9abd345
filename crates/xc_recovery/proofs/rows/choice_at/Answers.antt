use Rattle.std.proofs.Common.{sym, ap, Option}
use Rattle.dxc_num.specs.declared.port.Route.{Route}
use Rattle.roll_plan.specs.declared.op.Chain.TheVariants.{Direct}
use Rattle.xc_recovery.specs.Rows.{middle_in}
use Rattle.xc_recovery.proofs.rows.choice_at.Goals as goal

pub returns : goal.returns
returns c = ap (λ (o : Option Route). record { middle = middle_in o; chain = Direct }) (sym c.in-Some.ensures)
