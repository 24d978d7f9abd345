use Rattle.std.proofs.Common.{◌≡◌, take}
use Rattle.std.specs.List.{flat_map}
use Rattle.dxc_outside.specs.declared.send.Sent.TheVariants.{Whole}
use Rattle.dxc_outside.specs.Links.{IsSent}
use Rattle.dxc_element.specs.Listings.{row_line}
use Rattle.dxc_element.proofs.check.write_rows.Given as goal

abbrev pub invariant-loop-at : goal.invariant-loop-at
invariant-loop-at g l = record {
  sent : IsSent g.K.Link.told (g.K.Link.state l.fn.link) (g.K.Link.state l.link) Whole (flat_map (row_line l.shape) (take l.at l.listed));
  hung_up : g.K.Link.hung_up l.link ≡ g.K.Link.hung_up l.fn.link;
}
