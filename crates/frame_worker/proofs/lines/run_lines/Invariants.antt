use Rattle.std.proofs.Common.{◌≡◌, replicate, true}
use Rattle.dxc_outside.specs.declared.gate.GatePlace.TheVariants as place
use Rattle.frame_worker.specs.Lines.{IsRun}
use Rattle.frame_worker.specs.declared.lines.LinesEnd.TheVariants.{Spent}
use Rattle.frame_worker.proofs.lines.run_lines.Given as goal

abbrev pub invariant-loop : goal.invariant-loop
invariant-loop g l = record {
  fabric : l.seat.reader.fabric ≡ l.initial.seat.reader.fabric;
  run : IsRun l.fabric.size g.N.Lines.told l.counter Spent (g.N.Lines.state l.initial.lines) (g.N.Lines.state l.lines) l.initial.seat.reader.worker l.seat.reader.worker;
  said_end : (g.N.Lines.state l.lines).ended ≡ true → (g.N.Lines.state l.initial.lines).ended ≡ true;
  read_faults : (g.N.Lines.state l.lines).read_faults ≡ (g.N.Lines.state l.initial.lines).read_faults;
  write_faults : (g.N.Lines.state l.lines).write_faults ≡ (g.N.Lines.state l.initial.lines).write_faults;
  unstopped : g.G.Gate.stops l.gate ≡ g.G.Gate.stops l.initial.gate;
  asked : g.G.Gate.asked l.initial.gate l.gate (replicate l.counter place.Frame);
}
