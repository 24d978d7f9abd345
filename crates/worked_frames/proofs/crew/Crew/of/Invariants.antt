use Rattle.std.proofs.Common.{◌≡◌, ◌+◌, length}
use Rattle.std.specs.Arc.{arc_value}
use Rattle.fabric_words.specs.New.{AreNew}
use Rattle.worked_frames.proofs.crew.Crew.of.Given as goal

abbrev pub invariant-loop-number : goal.invariant-loop-number
invariant-loop-number l = record {
  seats : AreNew (arc_value l.fabric) l.number l.seats.items;
  each : length l.seats.items + l.number ≡ length l.fn.seats.items;
}
