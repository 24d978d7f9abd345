use Rattle.std.proofs.Common.{◌≡◌, ◌*◌, List, take}
use Rattle.fabric_core.specs.declared.worker.Note.{Note}
use Rattle.frame_worker.specs.Frames.{CarriesFrom, with_notes}
use Rattle.frame_worker.specs.Rows.{lanes_of}
use Rattle.frame_worker.proofs.carry.carry_frame.Given as goal

abbrev pub invariant-loop-output_module : goal.invariant-loop-output_module
invariant-loop-output_module l = record {
  fabric : l.seat.reader.fabric ≡ l.initial.seat.reader.fabric;
  lanes : l.lanes ≡ lanes_of l.fabric.size.shape l.output_module;
  carried : (ns : List Note) × (l.seat.reader.worker ≡ with_notes ns l.initial.seat.reader.worker)
      × CarriesFrom l.fabric.size l.initial.seat.reader.worker.number l.input 0 (take (l.output_module * l.fabric.size.shape.slots) l.output) ns;
}
