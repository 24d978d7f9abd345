use Rattle.std.proofs.Common.{◌≡◌, false, List, []}
use Rattle.dxc_model.specs.declared.entry.Entry.{Entry}
use Rattle.xc_core.specs.Seeing.{Saw}
use Rattle.xc_core.specs.States.{opening_of}
use Rattle.xc_core.specs.Turns.{KeepsPass}
use Rattle.craft_session.specs.Changing.{PassedBy}
use Rattle.craft_session.specs.Gated.{Entered}
use Rattle.craft_session.proofs.mend.warm_restart.Given as goal

abbrev pub invariant-loop : goal.invariant-loop
invariant-loop g l = record {
  goes : (goal.iterator-loop g).can_next l.iterator' × (goal.iterator-loop g).is_finite l.iterator';
  pass : KeepsPass l.turns l.fn.pass l.pass;
  passed : (h : List Entry) → Saw (opening_of g.D.Disk.state l.turns.first) l.fn.pass.seen h → PassedBy (opening_of g.D.Disk.state l.turns.first) l.fn.pass.number h l.pass.seen;
  gate : g.G.Gate.stops l.gate ≡ g.G.Gate.stops l.fn.gate;
  asked : g.G.Gate.asked l.fn.gate l.gate [];
  entered : (h : List Entry) → Saw (opening_of g.D.Disk.state l.turns.first) l.fn.pass.seen h → Entered (opening_of g.D.Disk.state l.turns.first) l.fn.pass.number (g.G.Gate.asked l.fn.gate l.gate) false false h l.pass.seen;
}
