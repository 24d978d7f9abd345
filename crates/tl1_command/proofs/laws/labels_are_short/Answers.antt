use Rattle.tl1_command.proofs.LabelBytes.{labels_are_short}
use Rattle.tl1_command.proofs.laws.labels_are_short.Goals as goal

pub returns : goal.returns
returns c = labels_are_short
