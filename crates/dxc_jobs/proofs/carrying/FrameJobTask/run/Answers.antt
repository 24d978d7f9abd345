use Rattle.std.proofs.Common.{◌∙◌, ap, sym}
use Rattle.fabric_words.specs.Seats.{FabricId}
use Rattle.fabric_words.specs.declared.worker.WorkerSeat.{WorkerSeat}
use Rattle.dxc_jobs.proofs.Framing.{run_of}
use Rattle.dxc_jobs.proofs.carrying.FrameJobTask.run.Goals as goal

pub returns : goal.returns
returns g c = let e = c.run_lines-end.ensures in record {
  frames = e.run.0;
  fabric = ap (λ (s : WorkerSeat). s.reader.fabric) c.into_inner.ensures ∙ e.fabric ∙ ap (λ (s : WorkerSeat). s.reader.fabric) c.deref_mut.ensures.value ∙ c.args.self.own;
  run = run_of _ _ _ _ _ _ _ _ _ _ _ (ap (λ (f : FabricId). f.size) c.deref.ensures) (ap (λ (s : WorkerSeat). s.reader.worker) c.deref_mut.ensures.value) (sym (ap (λ (s : WorkerSeat). s.reader.worker) c.into_inner.ensures)) e.run.1;
  spent = e.run.2;
  gated = e.run.3;
  ended = e.end;
  all_read = e.all_read;
  read_fault = e.read_fault;
  no_read_fault = e.no_read_fault;
  write_fault = e.write_fault;
  no_write_fault = e.no_write_fault;
  stopped = e.stopped;
  unstopped = e.unstopped;
}
