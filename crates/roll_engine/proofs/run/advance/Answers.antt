use Rattle.std.proofs.Common.{◌∙◌, ℕ, ap, sym, subst}
use Rattle.fabric_core.specs.declared.mover.Mover.{Mover}
use Rattle.fabric_words.specs.Seats.{FabricId}
use Rattle.roll_engine.specs.Rollings.{RollingAt, at_step, rest_of}
use Rattle.roll_engine.specs.Courses.{IsReady}
use Rattle.roll_engine.specs.Walks.{Walks}
use Rattle.roll_engine.proofs.Running.{written_on}
use Rattle.roll_engine.proofs.Walking.{answer_is, walks_reached}
use Rattle.roll_engine.proofs.run.advance.Goals as goal

pub writes_on-answer-requires-clause-ready : goal.writes_on-answer-requires-clause-ready
writes_on-answer-requires-clause-ready g c = let r = c.args.rolling.now in let m : Mover = c.args.mover.now.mover in
    subst (λ (n : ℕ). IsReady c.args.fabric.now.size (rest_of (at_step n r)) m) (sym c.step-made.ensures) (subst (λ (f : FabricId). IsReady f.size (rest_of r) m) c.requires.own c.requires.ready)

pub returns : goal.returns
returns g c =
    let first : RollingAt = c.args.rolling.now in let new : RollingAt = c.reach.new.self in
    let m : Mover = c.args.mover.now.mover in let b : Mover = c.writes_on-answer.new.mover.mover in
    let all = walks_reached g.G.Gate.stops g.G.Gate.asked c.args.fabric.now.size first new c.step-made.result c.writes_on-answer.new.made m b c.args.gate.now c.writes_on-answer.new.gate c.writes_on-answer.result
    c.step-made.ensures c.reach.ensures c.writes_on-answer.ensures.walks in
    let k : Walks g.G.Gate.stops g.G.Gate.asked c.args.mover.now.fabric.size first new m b c.args.gate.now c.writes_on-answer.new.gate c.writes_on-answer.result
    = subst (λ (f : FabricId). Walks g.G.Gate.stops g.G.Gate.asked f.size first new m b c.args.gate.now c.writes_on-answer.new.gate c.writes_on-answer.result) (sym c.requires.own) all in record {
      fabric = c.writes_on-answer.ensures.own ∙ sym c.requires.own;
      goes_on = k.goes_on;
      ready = k.ready;
      answer = answer_is c.args.mover.now.fabric.size (rest_of first) (rest_of new) m b c.writes_on-answer.result (λ e. ap rest_of c.reach.ensures ∙ c.writes_on-answer.ensures.all e) k.halted;
      written = written_on c.args.mover.now.fabric.size (rest_of first) (rest_of new) m b k.goes_on.advances;
      stopped = k.stopped;
      asked = k.asked;
    }
