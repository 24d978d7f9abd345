use Rattle.std.proofs.Common.{◌≡◌, ◌≤◌, ◌+◌, length}
use Rattle.std.specs.Arc.{arc_value}
use Rattle.dxc_outside.specs.Asked.{asked_each, lines_named}
use Rattle.fabric_words.specs.New.{AreNew}
use Rattle.dxc_jobs.specs.Handed.{AreJobsOf}
use Rattle.dxc_jobs.proofs.workers.frame_jobs.Given as goal

abbrev pub invariant-loop-number : goal.invariant-loop-number
invariant-loop-number g l = record {
  fabric : l.fabric ≡ l.fn.fabric;
  seats : AreNew (arc_value l.fabric) l.number l.seats.items;
  each : length l.seats.items + l.number ≡ l.fn.workers;
  jobs : length l.jobs.items ≡ l.number;
  handed : AreJobsOf g.O.Opener.lines_for (arc_value l.fabric) l.fn.name 0 l.jobs.items;
  later : (g.O.Opener.state l.fn.opener).faults ≤ (g.O.Opener.state l.opener).faults;
  asked : g.O.Opener.asked l.fn.opener l.opener (asked_each (lines_named l.fn.name) l.number);
}
