use Rattle.tl1_text.proofs.Fronts.{before_front}
use Rattle.tl1_text.proofs.ctag.before_colon.Goals as goal

pub loop-at-init : goal.loop-at-init
loop-at-init c = before_front _ _ c.front_of-at.ensures.unparted
