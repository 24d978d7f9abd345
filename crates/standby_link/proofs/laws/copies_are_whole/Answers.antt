use Rattle.standby_link.proofs.CopySteps.{copies_are_whole}
use Rattle.standby_link.proofs.HeldSteps.{joined_have}
use Rattle.standby_link.proofs.laws.copies_are_whole.Goals as goal

pub returns : goal.returns
returns c = record { whole = copies_are_whole; joined = joined_have }
