use Rattle.std.proofs.Common.{◌+◌, ◌∙◌, ap, refl}
use Rattle.tl1_script.specs.Commands.{line_of}
use Rattle.dxc_element.proofs.Checking.{sent_is, sent_none}
use Rattle.dxc_element.proofs.Exporting.{line_cut, line_sent}
use Rattle.dxc_element.proofs.export.write_commands.Goals as goal

pub loop-at-init : goal.loop-at-init
loop-at-init g c = record { sent = sent_none _ _; hung_up = refl }

pub returns-in-Cut-clause-sent : goal.returns-in-Cut-clause-sent
returns-in-Cut-clause-sent g c = line_cut c.args.shape c.args.changes.now c.loop-at.at c.loop-at-test.true _ _ _ _ _ _ _ (c.as_slice.ensures.value ∙ c.command_line.ensures.line ∙ ap (line_of c.args.shape (c.loop-at.at + 1)) c.index-changes-at.is) c.loop-at.invariant.sent c.write_all.ensures.sent c.in-Cut.is

pub loop-at-preserved : goal.loop-at-preserved
loop-at-preserved g c = record {
  sent = sent_is _ _ _ _ _ c.in-Whole.is (line_sent c.args.shape c.args.changes.now c.loop-at.at c.loop-at-test.true _ _ _ _ _ _ _ (c.as_slice.ensures.value ∙ c.command_line.ensures.line ∙ ap (line_of c.args.shape (c.loop-at.at + 1)) c.index-changes-at.is) c.loop-at.invariant.sent c.write_all.ensures.sent);
  hung_up = c.write_all.ensures.hung_up ∙ c.loop-at.invariant.hung_up;
}
