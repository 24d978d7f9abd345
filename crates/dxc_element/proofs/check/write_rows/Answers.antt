use Rattle.std.proofs.Common.{◌∙◌, ap, refl}
use Rattle.dxc_element.specs.Listings.{row_line}
use Rattle.dxc_element.proofs.Checking.{row_sent, row_cut, sent_is, sent_none}
use Rattle.dxc_element.proofs.check.write_rows.Goals as goal

pub loop-at-init : goal.loop-at-init
loop-at-init g c = record { sent = sent_none _ _; hung_up = refl }

pub returns-in-Cut-clause-sent : goal.returns-in-Cut-clause-sent
returns-in-Cut-clause-sent g c = row_cut (row_line c.args.shape) _ c.args.listed.now c.loop-at.at c.loop-at-test.true _ _ _ _ _ _ c.in-Cut.is (c.as_slice.ensures.value ∙ c.write_line.ensures ∙ ap (row_line c.args.shape) c.index-listed-at.is) c.loop-at.invariant.sent c.write_all.ensures.sent

pub loop-at-preserved : goal.loop-at-preserved
loop-at-preserved g c = record {
  sent = sent_is _ _ _ _ _ c.in-Whole.is (row_sent (row_line c.args.shape) _ c.args.listed.now c.loop-at.at c.loop-at-test.true _ _ _ _ _ _ (c.as_slice.ensures.value ∙ c.write_line.ensures ∙ ap (row_line c.args.shape) c.index-listed-at.is) c.loop-at.invariant.sent c.write_all.ensures.sent);
  hung_up = c.write_all.ensures.hung_up ∙ c.loop-at.invariant.hung_up;
}
