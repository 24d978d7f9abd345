use Rattle.std.proofs.Common.{sym, ap, ◌∙◌}
use Rattle.user_admin.specs.declared.op.UserOutcome.{UserOutcome}
use Rattle.user_admin.specs.Changes.{after}
use Rattle.user_admin.specs.Histories.{change_in}
use Rattle.user_admin.proofs.Sharing.{nothing_done}
use Rattle.user_admin.proofs.shared.take_done.Goals as goal

pub returns-in_default : goal.returns-in_default
returns-in_default c = ap (λ cs. after cs c.args.list.now) (sym (nothing_done c.args.outcome.now c.in_default.not-Done))

pub returns : goal.returns
returns c = c.take.ensures ∙ ap (λ (x : UserOutcome). after (change_in x) c.args.list.now) (sym c.in-Done.is)
