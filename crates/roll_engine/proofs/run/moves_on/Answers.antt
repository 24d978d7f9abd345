use Rattle.std.proofs.Common.{◌<◌, List, length, get_or, Ok, arith, sym, subst}
use Rattle.roll_plan.specs.declared.op.Move.{Move}
use Rattle.roll_plan.specs.Works.{ops_writes}
use Rattle.roll_plan.specs.Nexts.{BeginsMove}
use Rattle.fabric_core.specs.declared.size.Size.{Size}
use Rattle.fabric_core.specs.declared.mover.Mover.{Mover}
use Rattle.roll_engine.specs.Rollings.{RollingAt, at_step}
use Rattle.roll_engine.specs.Answers.{Answer}
use Rattle.roll_engine.specs.Walks.{Walks}
use Rattle.roll_engine.proofs.Going.{begins_first}
use Rattle.roll_engine.proofs.Walking.{handed_on, walks_none, walks_on}
use Rattle.roll_engine.proofs.run.moves_on.Goals as goal

pub returns-then-made-ne0-clause-walks : goal.returns-then-made-ne0-clause-walks
returns-then-made-ne0-clause-walks g c = walks_none g.G.Gate.stops g.G.Gate.asked c.args.fabric.now.size g.G.Gate.unasked (at_step c.args.made.now c.args.rolling.now) c.args.mover.now.mover c.args.gate.now c.requires.ready

pub loop-step-init : goal.loop-step-init
loop-step-init g c = record {
  own = c.requires.own;
  made = let none = c.if-made-ne0.false in omega arith;
  walks = walks_none g.G.Gate.stops g.G.Gate.asked c.args.fabric.now.size g.G.Gate.unasked (at_step c.args.made.now c.args.rolling.now) c.args.mover.now.mover c.args.gate.now c.requires.ready;
}

pub move_on-requires-clause-few : goal.move_on-requires-clause-few
move_on-requires-clause-few g c = let at = c.loop-step.invariant.made in let low = c.loop-step-test.true in let few = c.first_moves-step-items.ensures.few in omega arith

pub move_on-requires-clause-next : goal.move_on-requires-clause-next
move_on-requires-clause-next g c =
    let l = c.loop-step in let ops = c.args.rolling.now.work.ops.items in let is = c.first_moves-step-items.ensures.value in
    let low = subst (λ (vs : List Move). l.step-index < length vs) is c.loop-step-test.true in
    subst (λ (vs : List Move). BeginsMove (ops_writes ops) l.made (get_or vs l.step-index _)) (sym is) (begins_first ops _ l.step-index l.made l.invariant.made low)

pub returns-in_err-move_on : goal.returns-in_err-move_on
returns-in_err-move_on g c =
    let l = c.loop-step in let r = c.args.rolling.now in let first : RollingAt = at_step c.args.made.now r in let new : RollingAt = at_step c.move_on.new.made r in
    let m : Mover = c.args.mover.now.mover in let b : Mover = c.move_on.new.mover.mover in record {
      own = c.move_on.ensures.own;
      walks = subst (λ (x : Answer). Walks g.G.Gate.stops g.G.Gate.asked c.args.fabric.now.size first new m b c.args.gate.now c.move_on.new.gate x) (handed_on c.move_on.result c.from_residual.result c.in_err-move_on.field-0.0 c.in_err-move_on.was c.from_residual.ensures.1)
          (walks_on g.G.Gate.stops g.G.Gate.asked c.args.fabric.now.size g.G.Gate.asked_on first (at_step l.made r) new
          m l.mover.mover b c.args.gate.now l.gate c.move_on.new.gate c.move_on.result l.invariant.walks c.move_on.ensures.walks);
    }

pub loop-step-preserved : goal.loop-step-preserved
loop-step-preserved g c =
    let l = c.loop-step in let r = c.args.rolling.now in let z : Size = c.args.fabric.now.size in
    let old : RollingAt = at_step l.made r in let new : RollingAt = at_step c.move_on.new.made r in
    let a : Mover = l.mover.mover in let b : Mover = c.move_on.new.mover.mover in record {
      own = c.move_on.ensures.own;
      made = let at = l.invariant.made in let more = c.move_on.ensures.all c.in_ok-move_on.was in omega arith;
      walks = walks_on g.G.Gate.stops g.G.Gate.asked z g.G.Gate.asked_on (at_step c.args.made.now r) old new c.args.mover.now.mover a b c.args.gate.now l.gate c.move_on.new.gate (Ok tt) l.invariant.walks
          (subst (λ (x : Answer). Walks g.G.Gate.stops g.G.Gate.asked z old new a b l.gate c.move_on.new.gate x) c.in_ok-move_on.was c.move_on.ensures.walks);
    }
