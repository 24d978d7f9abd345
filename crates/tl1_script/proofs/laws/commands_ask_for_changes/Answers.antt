use Rattle.tl1_script.proofs.Asking.{commands_ask}
use Rattle.tl1_script.proofs.laws.commands_ask_for_changes.Goals as goal

pub returns : goal.returns
returns c = commands_ask
