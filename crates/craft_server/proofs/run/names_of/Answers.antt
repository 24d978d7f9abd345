use Rattle.std.proofs.Common.{ap₂}
use Rattle.dxc_element.specs.Openings.{named}
use Rattle.craft_server.proofs.run.names_of.Goals as goal

pub returns : goal.returns
returns c = ap₂ named c.text.ensures c.text-2.ensures
