use Rattle.std.proofs.Common.{subst}
use Rattle.fabric_core.specs.declared.mover.Mover.{Mover}
use Rattle.roll_engine.specs.Rollings.{RollingAt, at_step}
use Rattle.roll_engine.specs.Answers.{Answer}
use Rattle.roll_engine.specs.Walks.{Walks}
use Rattle.roll_engine.proofs.Walking.{handed_on, walks_then}
use Rattle.roll_engine.proofs.several.three_on.Goals as goal

pub returns-in_err-write_two-clause-walks : goal.returns-in_err-write_two-clause-walks
returns-in_err-write_two-clause-walks g c =
    let first : RollingAt = at_step c.args.made.now c.args.rolling.now in let mid : RollingAt = at_step c.write_two.new.made c.args.rolling.now in
    let m : Mover = c.args.mover.now.mover in let a : Mover = c.write_two.new.mover.mover in
    subst (λ (x : Answer). Walks g.G.Gate.stops g.G.Gate.asked c.args.fabric.now.size first mid m a c.args.gate.now c.write_two.new.gate x)
    (handed_on c.write_two.result c.from_residual.result c.in_err-write_two.field-0.0 c.in_err-write_two.was c.from_residual.ensures.1) c.write_two.ensures.walks

pub returns-clause-walks : goal.returns-clause-walks
returns-clause-walks g c =
    let first : RollingAt = at_step c.args.made.now c.args.rolling.now in let mid : RollingAt = at_step c.write_two.new.made c.args.rolling.now in
    let m : Mover = c.args.mover.now.mover in let a : Mover = c.write_two.new.mover.mover in
    walks_then g.G.Gate.stops g.G.Gate.asked c.args.fabric.now.size g.G.Gate.asked_on first mid (at_step c.write_on.new.made c.args.rolling.now) m a c.write_on.new.mover.mover
    c.args.gate.now c.write_two.new.gate c.write_on.new.gate c.write_two.result c.write_on.result c.in_ok-write_two.was c.write_two.ensures.walks c.write_on.ensures.walks
