use Rattle.std.proofs.Common.{arith, ◌≡◌, ◌-◌, ◌*◌, ◌%◌, ℕ, [], ◌++◌, set, sym, subst, refl, ap, ◌∙◌}
use Rattle.dxc_num.specs.Dimensions.{module_of}
use Rattle.fabric_core.specs.declared.worker.Worker.{Worker}
use Rattle.fabric_core.specs.Working.{CanLoadOut}
use Rattle.fabric_words.specs.Seats.{FabricId}
use Rattle.frame_worker.specs.Frames.{CarriesOne}
use Rattle.frame_worker.specs.Rows.{IsWritten, lanes_of}
use Rattle.frame_worker.proofs.Kept.{lane_ends, output_at, no_notes, more_notes, written_none, written_at}
use Rattle.frame_worker.proofs.outputs.carry_outputs.Goals as goal

pub loop-place-init : goal.loop-place-init
loop-place-init c =
    let v = c.args.reader.now in let first : ℕ = c.args.output_module * v.fabric.size.shape.slots in
    let begin = (lane_ends v.fabric.size.shape c.args.output_module c.args.lanes c.requires.lanes).0 in
    let none : 0 ≡ (c.args.lanes.first - c.args.lanes.outs) - first = omega arith in record {
      fabric = refl;
      from = omega arith;
      carried = ([], no_notes v.worker c.requires.runs.1, subst (λ (n : ℕ). IsWritten v.fabric.size v.worker.number c.args.input.now first n c.args.output.now c.args.output.now []) none (written_none v.fabric.size v.worker.number c.args.input.now first c.args.output.now));
    }

pub carry_one-requires-clause-allowed : goal.carry_one-requires-clause-allowed
carry_one-requires-clause-allowed c =
    let v = c.args.reader.now in let l = c.loop-place in let i = l.invariant in
    let at = output_at v.fabric.size.shape c.args.output_module l.place c.args.lanes c.requires.lanes c.requires.place.0 i.from c.loop-place-test.true in
    subst (λ (t : FabricId × Worker). CanLoadOut t.0.size (record { 0 = l.place - c.args.lanes.outs }) t.1) (λ k. (sym i.fabric k, sym i.carried.1 k)) (c.requires.runs.0, at.1, ap (λ (n : ℕ). n % v.fabric.size.workers) at.2 ∙ c.requires.place.1)

pub carry_one-requires-clause-lanes : goal.carry_one-requires-clause-lanes
carry_one-requires-clause-lanes c =
    let v = c.args.reader.now in let l = c.loop-place in let i = l.invariant in
    let at = output_at v.fabric.size.shape c.args.output_module l.place c.args.lanes c.requires.lanes c.requires.place.0 i.from c.loop-place-test.true in
    subst (λ (f : FabricId). c.args.lanes ≡ lanes_of f.size.shape (module_of f.size.shape (record { 0 = l.place - c.args.lanes.outs }))) (sym i.fabric) (c.requires.lanes ∙ (λ k. lanes_of v.fabric.size.shape (sym at.2 k)))

pub loop-place-preserved : goal.loop-place-preserved
loop-place-preserved c =
    let v = c.args.reader.now in let l = c.loop-place in let i = l.invariant in let one = c.carry_one.ensures.carried in
    let first : ℕ = c.args.output_module * v.fabric.size.shape.slots in let port : ℕ = l.place - c.args.lanes.outs in
    let at = output_at v.fabric.size.shape c.args.output_module l.place c.args.lanes c.requires.lanes c.requires.place.0 i.from c.loop-place-test.true in
    let low = at.1 in let room = c.requires.room.1 in let long = l.auto.output in let from = i.from in record {
      fabric = c.carry_one.ensures.fabric ∙ i.fabric;
      from = omega arith;
      carried = (
        i.carried.0 ++ one.0,
        more_notes v.worker l.reader.worker c.carry_one.new.reader.worker i.carried.0 one.0 i.carried.1 one.1,
        subst (λ (n : ℕ). IsWritten v.fabric.size v.worker.number c.args.input.now first n c.args.output.now (set l.output port c.carry_one.result) (i.carried.0 ++ one.0)) at.3
            (written_at v.fabric.size v.worker.number c.args.input.now first port c.args.output.now l.output i.carried.0 one.0 c.carry_one.result at.0 (omega arith) i.carried.2
            (subst (λ (t : FabricId × Worker). CarriesOne t.0.size t.1.number c.args.input.now (record { 0 = port }) one.0 c.carry_one.result) (λ k. (i.fabric k, i.carried.1 k)) one.2)),
      );
    }
