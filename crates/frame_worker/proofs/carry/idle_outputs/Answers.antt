use Rattle.std.proofs.Common.{arith, ◌≡◌, ◌-◌, ◌*◌, ℕ, [], subst, ap, ◌∙◌}
use Rattle.dxc_num.specs.Dimensions.{Dimensions, module_of}
use Rattle.frame_worker.specs.Frames.{idle}
use Rattle.frame_worker.specs.Rows.{IsWritten}
use Rattle.frame_worker.proofs.Kept.{port_in, others_at, written_at}
use Rattle.frame_worker.proofs.carry.idle_outputs.Goals as goal

pub loop-port-preserved : goal.loop-port-preserved
loop-port-preserved c =
    let l = c.loop-port in let i = l.invariant in let j = c.args.output_module in
    let first : ℕ = j * c.slots.result in
    let from : first ≡ j * c.args.shape.slots = ap (λ (n : ℕ). j * n) c.slots.ensures.value in
    let to = c.loop-port-test.true in
    let slots = c.slots-2.ensures.value in
    let at = port_in c.args.shape j first l.port c.requires.place from i.from (omega arith) in
    let low = at.0 in
    let room = c.requires.room in
    let long = l.auto.output in record {
      from = omega arith;
      written = λ z w input same other. written_at z w input first l.port c.args.output.now l.output [] [] idle i.from (omega arith) (i.written z w input same other)
          (others_at z w input j l.port (ap (λ (d : Dimensions). module_of d (record { 0 = l.port })) same ∙ at.1) other);
    }

pub returns : goal.returns
returns c z w input same other =
    let l = c.loop-port in let j = c.args.output_module in
    let past = c.loop-port-test.false in
    let end = l.auto.port-end in
    let one = c.slots.ensures.value in let two = c.slots-2.ensures.value in
    let from : j * c.slots.result ≡ j * c.args.shape.slots = ap (λ (n : ℕ). j * n) one in
    let n : l.port - j * c.slots.result ≡ c.args.shape.slots = omega arith in
    subst (λ (t : ℕ × ℕ). IsWritten z w input t.0 t.1 c.args.output.now l.output []) (λ i. (from i, n i)) (l.invariant.written z w input same other)
