use Rattle.std.proofs.Common.{◌≡◌, ◌<◌, ◌∙◌, arith, length, sym, ap}
use Rattle.std.specs.Arc.{arc_value}
use Rattle.fabric_core.specs.declared.worker.Worker.{Worker}
use Rattle.fabric_core.specs.State.{new_worker}
use Rattle.fabric_words.specs.declared.reader.Reader.{Reader}
use Rattle.fabric_words.specs.declared.worker.WorkerSeat.{WorkerSeat}
use Rattle.dxc_jobs.proofs.Jobs.{first_new}
use Rattle.craft_server.proofs.load.load_link.Goals as goal

pub new-requires-clause-own : goal.new-requires-clause-own
new-requires-clause-own c =
    let some : 0 < length c.args.seats.items = omega (arith, c.requires.one) in
    ap (λ (w : WorkerSeat). w.reader.fabric) c.remove.ensures.value ∙ ap (λ (r : Reader). r.fabric) (first_new (arc_value c.args.fabric) 0 c.args.seats.items c.remove.result c.requires.seats some)

pub new-requires-clause-unused : goal.new-requires-clause-unused
new-requires-clause-unused c =
    let some : 0 < length c.args.seats.items = omega (arith, c.requires.one) in
    let is : c.remove.result.reader.worker ≡ new_worker 0 = ap (λ (w : WorkerSeat). w.reader.worker) c.remove.ensures.value ∙ ap (λ (r : Reader). r.worker) (first_new (arc_value c.args.fabric) 0 c.args.seats.items c.remove.result c.requires.seats some) in
    is ∙ sym (ap (λ (w : Worker). new_worker w.number) is)

pub new-requires-clause-room : goal.new-requires-clause-room
new-requires-clause-room c = c.requires.room
