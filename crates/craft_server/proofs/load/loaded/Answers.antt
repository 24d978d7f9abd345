use Rattle.std.proofs.Common.{inl, refl}
use Rattle.dxc_element.specs.Loads.{IsLoadStarted, NotLoaded}
use Rattle.craft_server.proofs.Loading.{if_started, loaded_by, stops_by}
use Rattle.craft_server.proofs.load.loaded.Goals as goal

pub load_on-requires-clause-element : goal.load_on-requires-clause-element
load_on-requires-clause-element g c = if_started IsLoadStarted (NotLoaded (g.G.Gate.stops c.args.gate.now) (g.G.Gate.stops c.load_element-opened.new.gate)) c.load_element-opened.result c.load_element-opened.ensures.started

pub load_on-requires-clause-rows : goal.load_on-requires-clause-rows
load_on-requires-clause-rows g c = c.in-Ok.ensures.rows

pub load_on-requires-clause-written : goal.load_on-requires-clause-written
load_on-requires-clause-written g c = c.in-Ok.ensures.written

pub returns-in_default-clause-loaded : goal.returns-in_default-clause-loaded
returns-in_default-clause-loaded g c = inl refl

pub returns-clause-loaded : goal.returns-clause-loaded
returns-clause-loaded g c = loaded_by c.args.number (g.G.Gate.stops c.args.gate.now) (g.G.Gate.stops c.load_element-opened.new.gate) (g.G.Gate.stops c.load_on.new.gate) c.load_on.result c.load_element-opened.result c.load_element-opened.ensures.started c.load_element-opened.ensures.unstopped c.load_on.ensures

pub returns-clause-unstopped : goal.returns-clause-unstopped
returns-clause-unstopped g c = stops_by c.args.number (g.G.Gate.stops c.args.gate.now) (g.G.Gate.stops c.load_element-opened.new.gate) (g.G.Gate.stops c.load_on.new.gate) c.load_on.result c.load_element-opened.result c.load_element-opened.ensures.unstopped c.load_on.ensures
