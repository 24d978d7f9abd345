use Rattle.std.proofs.Common.{Some, None, Ok, refl, subst}
use Rattle.roll_plan.specs.Works.{writes_of}
use Rattle.fabric_core.specs.declared.size.Size.{Size}
use Rattle.fabric_core.specs.declared.mover.Mover.{Mover}
use Rattle.roll_engine.specs.Rollings.{RollingAt, at_step}
use Rattle.roll_engine.specs.Answers.{Answer}
use Rattle.roll_engine.specs.Walks.{Walks}
use Rattle.roll_engine.proofs.Going.{left_none}
use Rattle.roll_engine.proofs.Walking.{handed_on, next_found, not_done, walks_on}
use Rattle.roll_engine.proofs.run.writes_on.Goals as goal

pub returns-in_err-moves_on : goal.returns-in_err-moves_on
returns-in_err-moves_on g c =
    let r = c.args.rolling.now in record {
      own = c.moves_on.ensures.own;
      walks = subst (λ (x : Answer). Walks g.G.Gate.stops g.G.Gate.asked c.args.fabric.now.size (at_step c.args.made.now r) (at_step c.moves_on.new.made r) c.args.mover.now.mover c.moves_on.new.mover.mover c.args.gate.now c.moves_on.new.gate x) (handed_on c.moves_on.result c.from_residual.result c.in_err-moves_on.field-0.0 c.in_err-moves_on.was c.from_residual.ensures.1) c.moves_on.ensures.walks;
      all = λ e. absurd (not_done c.from_residual.result c.from_residual.ensures.0 e);
    }

pub loop-next-init : goal.loop-next-init
loop-next-init g c =
    let z : Size = c.args.fabric.now.size in let r = c.args.rolling.now in
    let first : RollingAt = at_step c.args.made.now r in let mid : RollingAt = at_step c.moves_on.new.made r in
    let m : Mover = c.args.mover.now.mover in let a : Mover = c.moves_on.new.mover.mover in record {
      own = c.moves_on.ensures.own;
      walks = subst (λ (x : Answer). Walks g.G.Gate.stops g.G.Gate.asked z first mid m a c.args.gate.now c.moves_on.new.gate x) c.in_ok-moves_on.was c.moves_on.ensures.walks;
    }

pub next_on-requires-clause-next : goal.next_on-requires-clause-next
next_on-requires-clause-next g c = let r : RollingAt = at_step c.loop-next.made c.args.rolling.now in
    next_found r c.work.result.now c.loop-next.made c.next_at_step.result (Some c.in-Some.next) c.work.ensures refl c.next_at_step.ensures.next c.in-Some.is

pub returns-in_err-next_on : goal.returns-in_err-next_on
returns-in_err-next_on g c =
    let l = c.loop-next in let r = c.args.rolling.now in let first : RollingAt = at_step c.args.made.now r in let new : RollingAt = at_step c.next_on.new.made r in
    let m : Mover = c.args.mover.now.mover in let b : Mover = c.next_on.new.mover.mover in record {
      own = c.next_on.ensures.own;
      walks = subst (λ (x : Answer). Walks g.G.Gate.stops g.G.Gate.asked c.args.fabric.now.size first new m b c.args.gate.now c.next_on.new.gate x) (handed_on c.next_on.result c.from_residual-in_err-next_on.result c.in_err-next_on.field-0.0 c.in_err-next_on.was c.from_residual-in_err-next_on.ensures.1)
          (walks_on g.G.Gate.stops g.G.Gate.asked c.args.fabric.now.size g.G.Gate.asked_on first (at_step l.made r) new
          m l.mover.mover b c.args.gate.now l.gate c.next_on.new.gate c.next_on.result l.invariant.walks c.next_on.ensures.walks);
      all = λ e. absurd (not_done c.from_residual-in_err-next_on.result c.from_residual-in_err-next_on.ensures.0 e);
    }

pub loop-next-preserved : goal.loop-next-preserved
loop-next-preserved g c =
    let l = c.loop-next in let r = c.args.rolling.now in let z : Size = c.args.fabric.now.size in
    let old : RollingAt = at_step l.made r in let new : RollingAt = at_step c.next_on.new.made r in
    let a : Mover = l.mover.mover in let b : Mover = c.next_on.new.mover.mover in record {
      own = c.next_on.ensures.own;
      walks = walks_on g.G.Gate.stops g.G.Gate.asked z g.G.Gate.asked_on (at_step c.args.made.now r) old new c.args.mover.now.mover a b c.args.gate.now l.gate c.next_on.new.gate (Ok tt) l.invariant.walks
          (subst (λ (x : Answer). Walks g.G.Gate.stops g.G.Gate.asked z old new a b l.gate c.next_on.new.gate x) c.in_ok-next_on.was c.next_on.ensures.walks);
    }

pub returns : goal.returns
returns g c =
    let l = c.loop-next in let r : RollingAt = at_step l.made c.args.rolling.now in
    let none = next_found r c.work.result.now l.made c.next_at_step.result None c.work.ensures refl c.next_at_step.ensures.next c.in_default.is in record {
      own = l.invariant.own;
      walks = l.invariant.walks;
      all = λ _. left_none (writes_of r.work) r.step none;
    }
