use Rattle.std.proofs.Common.{List, ◌≡◌, ◌∙◌, subst, sym}
use Rattle.std.specs.List.{AllByRecursion}
use Rattle.dxc_model.specs.declared.op.Change.{Change}
use Rattle.tl1_answer.specs.Texts.{IsChangeOf}
use Rattle.tl1_script.proofs.Making.{gathered, inside}
use Rattle.tl1_script.proofs.changes.changes_to.Goals as goal

pub returns-clause-changes : goal.returns-clause-changes
returns-clause-changes c = gathered c.args.equipped c.args.table.now _ _ _ _ c.in_ok-changes.ensures (c.deref.ensures.value ∙ c.rows.ensures.rows) c.in_ok-push_entries.ensures c.in_ok-push_out.ensures

pub returns-clause-inside : goal.returns-clause-inside
returns-clause-inside c =
    subst (λ (l : List Change). AllByRecursion (IsChangeOf c.args.table.now.shape) l)
    (sym (gathered c.args.equipped c.args.table.now _ _ _ _ c.in_ok-changes.ensures (c.deref.ensures.value ∙ c.rows.ensures.rows) c.in_ok-push_entries.ensures c.in_ok-push_out.ensures))
    (inside c.args.equipped c.args.table.now c.shape.ensures.of_shape)
