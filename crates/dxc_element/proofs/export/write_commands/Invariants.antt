use Rattle.std.proofs.Common.{◌≡◌, take}
use Rattle.dxc_outside.specs.declared.send.Sent.TheVariants.{Whole}
use Rattle.dxc_outside.specs.Links.{IsSent}
use Rattle.tl1_script.specs.Commands.{lines_from}
use Rattle.dxc_element.proofs.export.write_commands.Given as goal

abbrev pub invariant-loop-at : goal.invariant-loop-at
invariant-loop-at g l = record {
  sent : IsSent g.K.Link.told (g.K.Link.state l.fn.link) (g.K.Link.state l.link) Whole (lines_from l.shape 1 (take l.at l.changes));
  hung_up : g.K.Link.hung_up l.link ≡ g.K.Link.hung_up l.fn.link;
}
