use Rattle.roll_engine.proofs.Running.{switch_counted}
use Rattle.roll_engine.proofs.laws.switches.Goals as goal

pub returns : goal.returns
returns c = switch_counted
