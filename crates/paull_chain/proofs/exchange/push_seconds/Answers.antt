use Rattle.std.proofs.Common.{arith, ap, ◌∙◌}
use Rattle.dxc_num.specs.declared.port.Leg.{Leg}
use Rattle.paull_chain.proofs.Going.{taken_on, left_on, room_for}
use Rattle.paull_chain.proofs.exchange.push_seconds.Goals.{then-is_moved, else-is_moved}
use Rattle.paull_chain.proofs.exchange.push_seconds.Goals as goal

first_leg : Leg
first_leg = record { input = record { 0 = 0 }; output = record { 0 = 0 } }

pub push-requires : goal.push-requires
push-requires c = (omega arith, room_for c.loop-leg.is_moved c.args.first c.loop-leg.moves.items c.args.moves.now.items c.args.legs.now c.loop-leg.leg-index first_leg c.args.from.0 c.args.to.0 c.loop-leg-test.true c.if-is_moved.true c.loop-leg.invariant c.requires)

pub loop-leg-preserved : goal.loop-leg-preserved
loop-leg-preserved c = elim c.if-is_moved.branch [
  | then-is_moved w ↦ taken_on c.loop-leg.is_moved c.loop-leg.moves.items c.if-is_moved.moves.items _ c.args.legs.now c.loop-leg.leg-index _ c.args.from.0 c.args.to.0 c.loop-leg-test.true w.if-is_moved.true (ap (λ (v : _). v.items) w.moves-is ∙ w.push.ensures.items) c.loop-leg.invariant
  | else-is_moved w ↦ left_on c.loop-leg.is_moved c.loop-leg.moves.items c.if-is_moved.moves.items _ c.args.legs.now c.loop-leg.leg-index first_leg c.args.from.0 c.args.to.0 c.loop-leg-test.true w.if-is_moved.false (ap (λ (v : _). v.items) w.moves-is) c.loop-leg.invariant
]
