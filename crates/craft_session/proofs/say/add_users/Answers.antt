use Rattle.std.proofs.Common.{◌∙◌, ap}
use Rattle.craft_session.specs.Responses.{user_text}
use Rattle.craft_session.proofs.FillSteps.{filled_is, fills_row, cut_row}
use Rattle.craft_session.proofs.say.add_users.Goals as goal

pub returns-in-Cut-clause-filled : goal.returns-in-Cut-clause-filled
returns-in-Cut-clause-filled g c = cut_row user_text _ c.args.users.now c.loop-at.at c.loop-at-test.true _ _ _ _ _ _ _ _ _ c.in-Cut.is (c.as_slice.ensures.value ∙ c.write_user.ensures ∙ ap user_text c.index-users-at.is) c.loop-at.invariant.filled c.add_line.ensures.filled

pub loop-at-preserved : goal.loop-at-preserved
loop-at-preserved g c = record {
  filled = filled_is _ _ _ _ _ _ _ c.in-Whole.is (fills_row user_text _ c.args.users.now c.loop-at.at c.loop-at-test.true _ _ _ _ _ _ _ _ _ (c.as_slice.ensures.value ∙ c.write_user.ensures ∙ ap user_text c.index-users-at.is) c.loop-at.invariant.filled c.add_line.ensures.filled);
  hung_up = c.add_line.ensures.hung_up ∙ c.loop-at.invariant.hung_up;
}
