use Rattle.roll_engine.proofs.Leading.{led_to_rest}
use Rattle.roll_engine.proofs.laws.leading_done.Goals as goal

pub returns : goal.returns
returns c = led_to_rest
