use Rattle.dxc_aid.proofs.Selections.{are_read_again}
use Rattle.dxc_aid.proofs.laws.what_is_written_is_read_again.Goals as goal

pub returns : goal.returns
returns c = are_read_again
