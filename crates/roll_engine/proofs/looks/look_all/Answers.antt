use Rattle.std.proofs.Common.{rules, arith, ◌++◌, ◌∙◌}
use Rattle.fabric_core.specs.declared.size.Size.{Size}
use Rattle.fabric_core.specs.declared.mover.Mover.{Mover}
use Rattle.fabric_core.specs.Passing.{Passed}
use Rattle.fabric_core.specs.State.{looks_of}
use Rattle.roll_engine.proofs.Looking.{looks_join, looks_length, passed_more, all_passed, seen_later}
use Rattle.roll_engine.proofs.looks.look_all.Goals as goal

pub returns-in-Some-clause-looks : goal.returns-in-Some-clause-looks
returns-in-Some-clause-looks c = let a = c.loop-worker.invariant.looks in let b = c.look_one.ensures.looks in
    (a.0 ++ b.0, looks_join c.args.fabric.now.size a.0 b.0 c.args.mover.now.mover c.loop-worker.mover.mover c.look_one.new.mover.mover a.1 b.1)

pub returns-in-Some-clause-seen : goal.returns-in-Some-clause-seen
returns-in-Some-clause-seen c = let a = c.loop-worker.invariant.looks in
    seen_later c.args.fabric.now.size a.0 c.args.mover.now.mover c.loop-worker.mover.mover c.look_one.new.mover.mover c.in-Some.found a.1 c.in-Some.ensures.seen

pub loop-worker-preserved : goal.loop-worker-preserved
loop-worker-preserved c =
    let z : Size = c.args.fabric.now.size in
    let i = c.loop-worker.invariant in
    let b = c.look_one.ensures.looks in
    let m : Mover = c.loop-worker.mover.mover in
    let m' : Mover = c.look_one.new.mover.mover in
    let now : Passed (looks_of m' c.loop-worker.worker) = search rules in record {
      own = c.look_one.ensures.own;
      looks = (i.looks.0 ++ b.0, looks_join z i.looks.0 b.0 c.args.mover.now.mover m m' i.looks.1 b.1);
      full = looks_length z b.0 m m' b.1 ∙ i.full;
      passed = passed_more c.loop-worker.worker m m' i.passed c.look_one.ensures.others now;
    }

pub returns-clause-passed : goal.returns-clause-passed
returns-clause-passed c = all_passed c.args.fabric.now.size c.loop-worker.worker c.loop-worker.mover.mover (omega arith) c.loop-worker.invariant.passed
