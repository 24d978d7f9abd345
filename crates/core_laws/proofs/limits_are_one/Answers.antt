use Rattle.xc_core.proofs.Reckoning.{reckons_once, changes_counted, limits_once}
use Rattle.core_laws.proofs.limits_are_one.Goals as goal

pub returns-clause-come_to : goal.returns-clause-come_to
returns-clause-come_to c = reckons_once

pub returns-clause-met : goal.returns-clause-met
returns-clause-met c = limits_once

pub returns-clause-counted : goal.returns-clause-counted
returns-clause-counted c = changes_counted
