use Rattle.std.proofs.Common.{◌≡◌, ◌-◌, ◌*◌, ◌≤◌, List}
use Rattle.fabric_core.specs.declared.worker.Note.{Note}
use Rattle.frame_worker.specs.Frames.{with_notes}
use Rattle.frame_worker.specs.Rows.{IsWritten}
use Rattle.frame_worker.proofs.outputs.carry_outputs.Given as goal

abbrev pub invariant-loop-place : goal.invariant-loop-place
invariant-loop-place l = record {
  fabric : l.reader.fabric ≡ l.initial.reader.fabric;
  from : l.lanes.first ≤ l.place;
  carried : (ns : List Note) × (l.reader.worker ≡ with_notes ns l.initial.reader.worker)
      × IsWritten l.initial.reader.fabric.size l.initial.reader.worker.number l.input (l.output_module * l.initial.reader.fabric.size.shape.slots)
      ((l.place - l.lanes.outs) - l.output_module * l.initial.reader.fabric.size.shape.slots) l.initial.output l.output ns;
}
