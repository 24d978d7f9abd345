use Rattle.dxc_aid.proofs.Selections.{are_names}
use Rattle.dxc_aid.proofs.laws.names_are_read.Goals as goal

pub returns : goal.returns
returns c = are_names
