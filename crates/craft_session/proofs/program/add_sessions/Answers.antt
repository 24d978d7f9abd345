use Rattle.std.proofs.Common.{◌∙◌, ap}
use Rattle.craft_session.specs.Responses.{logged_in_text}
use Rattle.craft_session.proofs.FillSteps.{filled_is, fills_row, cut_row}
use Rattle.craft_session.proofs.program.add_sessions.Goals as goal

pub returns-in-Cut-clause-filled : goal.returns-in-Cut-clause-filled
returns-in-Cut-clause-filled g c = cut_row logged_in_text _ c.args.sessions.now c.loop-at.at c.loop-at-test.true _ _ _ _ _ _ _ _ _ c.in-Cut.is (c.as_slice.ensures.value ∙ c.write_session.ensures ∙ ap logged_in_text c.index-sessions-at.is) c.loop-at.invariant.filled c.add_line.ensures.filled

pub loop-at-preserved : goal.loop-at-preserved
loop-at-preserved g c = record {
  filled = filled_is _ _ _ _ _ _ _ c.in-Whole.is (fills_row logged_in_text _ c.args.sessions.now c.loop-at.at c.loop-at-test.true _ _ _ _ _ _ _ _ _ (c.as_slice.ensures.value ∙ c.write_session.ensures ∙ ap logged_in_text c.index-sessions-at.is) c.loop-at.invariant.filled c.add_line.ensures.filled);
  hung_up = c.add_line.ensures.hung_up ∙ c.loop-at.invariant.hung_up;
}
