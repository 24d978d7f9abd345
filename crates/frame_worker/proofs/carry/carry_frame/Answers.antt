use Rattle.std.proofs.Common.{◌≡◌, ◌≢◌, ◌<◌, ◌≤◌, ◌+◌, ◌*◌, ◌%◌, List, [], ℕ, length, sym, subst, ap, ◌∙◌, arith}
use Rattle.fabric_core.specs.declared.worker.Worker.{Worker}
use Rattle.fabric_words.specs.Seats.{FabricId}
use Rattle.fabric_words.specs.declared.worker.WorkerSeat.{WorkerSeat}
use Rattle.dxc_num.specs.Dimensions.{Dimensions}
use Rattle.frame_worker.specs.Rows.{IsWritten, lanes_of}
use Rattle.frame_worker.proofs.Kept.{module_below, no_notes, module_more}
use Rattle.frame_worker.proofs.carry.carry_frame.Goals.{then-output_module-workers, else-output_module-workers}
use Rattle.frame_worker.proofs.carry.carry_frame.Goals as goal

pub carry_outputs-requires-clause-lanes : goal.carry_outputs-requires-clause-lanes
carry_outputs-requires-clause-lanes c =
    let i = c.loop-output_module.invariant in let j = c.loop-output_module.output_module in
    let own = i.fabric ∙ (c.begin_frame.ensures.fabric ∙ c.requires.own) in i.lanes ∙ ap (λ (f : FabricId). lanes_of f.size.shape j) (sym own)

pub loop-output_module-preserved : goal.loop-output_module-preserved
loop-output_module-preserved c =
    let l = c.loop-output_module in let i = l.invariant in let j = l.output_module in let z = c.args.fabric.now.size in
    let v = c.begin_frame.new.self.reader.worker in let input = c.args.input.now in
    let own : l.seat.reader.fabric ≡ c.args.fabric.now = i.fabric ∙ (c.begin_frame.ensures.fabric ∙ c.requires.own) in
    let number : l.seat.reader.worker.number ≡ v.number = ap (λ (t : Worker). t.number) i.carried.1 in
    let modules = c.modules-output_module-end.ensures.value in let shape = ap (λ d. d.modules) c.shape-shape.ensures.value in let room = c.requires.room.1 in let long = l.auto.output in let test = c.loop-output_module-test.true in
    let below : j < z.shape.modules = omega arith in
    let next = c.next-lanes.ensures ∙ ap (λ (d : Dimensions). lanes_of d (j + 1)) c.shape-shape.ensures.value in
    let low : j * z.shape.slots ≤ length l.output = module_below z.shape j (length l.output) below (omega arith) in
    elim c.if-output_module-workers.branch [
      | then-output_module-workers w ↦
          let one = w.carry_outputs.ensures.carried in
          let written = subst (λ (t : FabricId × ℕ). IsWritten t.0.size t.1 input (j * t.0.size.shape.slots) t.0.size.shape.slots l.output w.carry_outputs.new.output one.0) (λ k. (own k, number k)) one.2 in record {
            fabric = ap (λ (s : WorkerSeat). s.reader.fabric) w.seat-is ∙ (w.carry_outputs.ensures.fabric ∙ i.fabric);
            lanes = next;
            carried = module_more z v.number input v l.seat.reader.worker c.if-output_module-workers.seat.reader.worker j l.output c.if-output_module-workers.output i.carried.0 one.0 low i.carried.1
                (ap (λ (s : WorkerSeat). s.reader.worker) w.seat-is ∙ one.1) i.carried.2 (subst (λ (out : List ℕ). IsWritten z v.number input (j * z.shape.slots) z.shape.slots l.output out one.0) (sym w.output-is) written);
          }
      | else-output_module-workers w ↦
          let other : j % z.workers ≢ v.number = λ e. w.if-output_module-workers.false (ap (λ (n : ℕ). j % n) c.workers-workers.ensures.value ∙ (e ∙ sym c.number-number.ensures.value)) in
          let shape = c.shape-shape.ensures.value in
          let slots : c.shape-shape.result.slots ≡ z.shape.slots = ap (λ d. d.slots) shape in
          let written = w.idle_outputs.ensures z v.number input (sym shape) other in record {
            fabric = ap (λ (s : WorkerSeat). s.reader.fabric) w.seat-is ∙ i.fabric;
            lanes = next;
            carried = module_more z v.number input v l.seat.reader.worker c.if-output_module-workers.seat.reader.worker j l.output c.if-output_module-workers.output i.carried.0 [] low i.carried.1
                (ap (λ (s : WorkerSeat). s.reader.worker) w.seat-is ∙ no_notes l.seat.reader.worker (ap (λ (t : Worker). t.hold) i.carried.1)) i.carried.2
                (subst (λ (t : ℕ × List ℕ). IsWritten z v.number input (j * t.0) t.0 l.output t.1 []) (λ k. (slots k, sym w.output-is k)) written);
          }
    ]
