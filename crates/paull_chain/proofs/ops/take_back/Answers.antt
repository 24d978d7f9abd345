use Rattle.std.proofs.Common.{arith, ◌≡◌, ◌∙◌, ◌+◌, ◌-◌, ◌<◌, ℕ, List, take, ap}
use Rattle.roll_plan.specs.declared.op.Move.{Move}
use Rattle.paull_chain.proofs.Undoing.{back_step}
use Rattle.paull_chain.proofs.ops.take_back.Goals as goal
use Rattle.paull_chain.specs.Works.{after}
use Rattle.paull_matrix.specs.Colourings.{Colouring}

abbrev none : Move
none = record { leg = record { input = record { 0 = 0 }; output = record { 0 = 0 } }; from = record { 0 = 0 }; to = record { 0 = 0 } }

last : (ms : List Move) (left : ℕ) (c d : Colouring) → 0 < left → d ≡ after (take left ms) c → d ≡ after (take (left - 1 + 1) ms) c
last ms left c d h is = is ∙ ap (λ (n : ℕ). after (take n ms) c) (let e : left ≡ left - 1 + 1 = omega arith in e)

pub turn-requires-clause-held : goal.turn-requires-clause-held
turn-requires-clause-held c =
    let made = c.requires in let i = c.loop-left.invariant in let t = c.loop-left-test.true in let few = i.few in
    let r = back_step c.args.moves.now (c.loop-left.left - 1) none made.0 c.loop-left.matrix (omega arith) made.1.0 made.1.1 (last c.args.moves.now c.loop-left.left made.0 c.loop-left.matrix (omega arith) (i.back made.0 made.1)) in
    r.held

pub turn-requires-clause-free : goal.turn-requires-clause-free
turn-requires-clause-free c =
    let made = c.requires in let i = c.loop-left.invariant in let t = c.loop-left-test.true in let few = i.few in
    let r = back_step c.args.moves.now (c.loop-left.left - 1) none made.0 c.loop-left.matrix (omega arith) made.1.0 made.1.1 (last c.args.moves.now c.loop-left.left made.0 c.loop-left.matrix (omega arith) (i.back made.0 made.1)) in
    (r.low, r.free)

pub loop-left-preserved : goal.loop-left-preserved
loop-left-preserved c =
    let i = c.loop-left.invariant in let t = c.loop-left-test.true in let few = i.few in record {
      few = omega arith;
      back = λ d made. let r = back_step c.args.moves.now (c.loop-left.left - 1) none d c.loop-left.matrix (omega arith) made.0 made.1 (last c.args.moves.now c.loop-left.left d c.loop-left.matrix (omega arith) (i.back d made)) in c.turn.ensures ∙ r.is;
    }
