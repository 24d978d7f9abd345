use Rattle.standby_link.proofs.AnsweredSteps.{answered_stays}
use Rattle.standby_link.proofs.laws.answers_stay.Goals as goal

pub returns : goal.returns
returns c = answered_stays
