use Rattle.core_laws.proofs.Openings.{openings_once}
use Rattle.core_laws.proofs.openings_are_one.Goals as goal

pub returns : goal.returns
returns c = openings_once (Unit {0}) tt
