use Rattle.tl1_text.proofs.Fronts.{behind_front}
use Rattle.tl1_text.proofs.ctag.behind_colon.Goals as goal

pub loop-at-init : goal.loop-at-init
loop-at-init c = behind_front _ _ c.front_of-at.ensures.unparted
