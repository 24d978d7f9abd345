use Rattle.std.proofs.Common.{ℕ, List, refl, ◌∙◌, ap, ap₂, subst}
use Rattle.dxc_outside.specs.Links.{IsSent}
use Rattle.shelf_file.specs.Contents.{Contents}
use Rattle.tl1_answer.specs.Blocks.{Draft}
use Rattle.tl1_answer.specs.Messages.{report as whole_report}
use Rattle.craft_session.proofs.reports.tell_one.Goals as goal

pub returns : goal.returns
returns g c = record {
  shelf = refl;
  seat = refl;
  users = refl;
  attending = refl;
  reader = refl;
  hung_up = c.write_all.ensures.hung_up;
  changes = refl;
  told = record {
    moment = c.stamp-moment.result;
    wrote = subst (λ (out : List ℕ). IsSent g.K.Link.told (g.K.Link.state c.args.link.now) (g.K.Link.state c.write_all.new.link) c.write_all.result out) (c.bytes.ensures ∙ ap (λ (d : Draft). d.bytes) c.report.ensures ∙ ap₂ (λ (sid text : List ℕ). whole_report sid c.stamp-moment.result c.args.number text) (c.sid.ensures ∙ ap (λ (s : Contents). s.sid) c.deref.ensures) c.as_slice.ensures.value) c.write_all.ensures.sent;
    now = c.stamp-moment.ensures.now;
    later = c.stamp-moment.ensures.later;
  };
  stamped = c.stamp-moment.ensures.stamped;
}
