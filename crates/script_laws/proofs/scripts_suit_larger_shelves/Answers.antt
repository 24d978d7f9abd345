use Rattle.script_laws.proofs.Moving.{scripts_suit}
use Rattle.script_laws.proofs.scripts_suit_larger_shelves.Goals as goal

pub returns : goal.returns
returns c = scripts_suit
