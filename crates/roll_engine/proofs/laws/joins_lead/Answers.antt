use Rattle.roll_engine.proofs.ColdRolling.{led_by_joins}
use Rattle.roll_engine.proofs.laws.joins_lead.Goals as goal

pub returns : goal.returns
returns c = led_by_joins
