use Rattle.std.proofs.Common.{Some, Ok, sym, ap, ◌∙◌}
use Rattle.user_admin.specs.declared.op.UserMark.TheVariants.{Entered}
use Rattle.user_admin.specs.Marks.{mark_for}
use Rattle.user_admin.proofs.shared.mark_of.Goals as goal

pub returns-in-Denied : goal.returns-in-Denied
returns-in-Denied g c = (λ i. Some (Entered c.args.place (record { marker = record {}; value = c.of.ensures i }) (c.refused.ensures i))) ∙ ap (λ p. mark_for c.args.place c.args.op.now (Ok p)) (sym c.in-Denied.is) ∙ ap (λ p. mark_for c.args.place c.args.op.now p) (sym c.in-Ok.is)
