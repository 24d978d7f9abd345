use Rattle.paull_matrix.specs.Colourings.{Colouring}
use Rattle.roll_plan.specs.declared.op.Chain.TheVariants.{Direct}
use Rattle.paull_chain.proofs.Planning.{joins_direct}
use Rattle.paull_chain.proofs.Planned.{joins_valid, plan_valid}
use Rattle.paull_chain.proofs.plan.plan_join.Goals as goal

pub returns-in-Some-clause-planned : goal.returns-in-Some-clause-planned
returns-in-Some-clause-planned c =
    let d : Colouring = c.args.matrix.now in
    let low = c.in-Some.ensures.lowest in let r = c.requires in
    (record { middle = c.in-Some.middle; chain = Direct }, low, joins_direct d c.args.leg c.in-Some.middle c.direct.result c.in-Some.ensures.proper r.0 r.1 r.2 low.0 low.1 c.direct.ensures.direct)

pub returns-in-Some-clause-valid : goal.returns-in-Some-clause-valid
returns-in-Some-clause-valid c =
    let d : Colouring = c.args.matrix.now in
    let low = c.in-Some.ensures.lowest in let r = c.requires in
    joins_valid d c.args.leg (record { middle = c.in-Some.middle; chain = Direct }) c.direct.result r.0 r.2 (joins_direct d c.args.leg c.in-Some.middle c.direct.result c.in-Some.ensures.proper r.0 r.1 r.2 low.0 low.1 c.direct.ensures.direct)

pub returns-clause-valid : goal.returns-clause-valid
returns-clause-valid c = plan_valid c.args.matrix.now c.args.leg c.plan_chain.new.op c.requires.0 c.requires.2 c.plan_chain.ensures
