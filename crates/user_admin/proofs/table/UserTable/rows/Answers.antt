use Rattle.std.proofs.Common.{◌∙◌, ap, map}
use Rattle.std.specs.FinMap.{entries}
use Rattle.user_admin.specs.Users.{Users}
use Rattle.user_admin.specs.Verdicts.{row}
use Rattle.user_admin.proofs.Placed.{all_entries}
use Rattle.user_admin.proofs.table.UserTable.rows.Goals as goal

pub returns : goal.returns
returns c = c.rows_of.ensures ∙ (all_entries row c.list.result.now c.list.ensures.order ∙ ap (λ (m : Users). map (λ e. row e.1) (entries m)) c.list.ensures.users)
