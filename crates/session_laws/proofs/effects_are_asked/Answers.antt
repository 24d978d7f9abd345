use Rattle.session_laws.proofs.Effects.{effects_asked}
use Rattle.session_laws.proofs.effects_are_asked.Goals as goal

pub returns : goal.returns
returns c = effects_asked
