use Rattle.std.proofs.Common.{◌∙◌}
use Rattle.craft_session.proofs.FillSteps.{filled_lines, fills_line}
use Rattle.craft_session.proofs.say.add_row.Goals as goal

pub returns-then-row-clause-filled : goal.returns-then-row-clause-filled
returns-then-row-clause-filled g c = filled_lines _ _ _ _ _ c.requires.unended (c.row.ensures.added c.if-row.true)

pub returns-clause-filled : goal.returns-clause-filled
returns-clause-filled g c = fills_line _ _ _ _ _ _ _ _ _ (c.row.ensures.kept c.if-row.false) (c.as_slice.ensures.value ∙ c.row_text.ensures.text) c.add_line.ensures.filled
