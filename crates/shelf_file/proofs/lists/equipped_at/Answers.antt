use Rattle.std.proofs.Common.{sym}
use Rattle.shelf_file.proofs.Marking.{all_marked}
use Rattle.shelf_file.proofs.lists.equipped_at.Goals as goal

pub returns-in_default : goal.returns-in_default
returns-in_default c = (c.all_marks.ensures.below, all_marked c.args.modules c.all_marks.result _ (sym c.in_default.ensures) c.all_marks.ensures.all)
