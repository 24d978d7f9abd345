use Rattle.std.proofs.Common.{[], sym, ap, ◌∙◌, subst}
use Rattle.fabric_core.specs.declared.size.Size.{Size}
use Rattle.fabric_core.specs.Moving.{AllPassed}
use Rattle.fabric_words.specs.Seats.{FabricId}
use Rattle.roll_engine.specs.Allowed.{CanMake}
use Rattle.roll_engine.specs.Courses.{Course}
use Rattle.roll_engine.proofs.Stepping.{can_looks, course_looks, ready_can}
use Rattle.roll_engine.proofs.make.step_on.Goals as goal

pub make-requires-clause-can : goal.make-requires-clause-can
make-requires-clause-can g c = let z : Size = c.args.mover.now.fabric.size in let l = c.clear_way.ensures.looks in
    subst (λ (f : FabricId). CanMake f.size.shape c.args.write c.clear_way.new.mover.mover) (sym c.clear_way.ensures.fabric)
    (can_looks z c.args.write l.0 c.args.mover.now.mover c.clear_way.new.mover.mover l.1
    (ready_can z c.args.write [] c.args.mover.now.mover c.clear_way.ensures.sized c.clear_way.ensures.ruled c.requires.ready))

pub make-requires-clause-passed : goal.make-requires-clause-passed
make-requires-clause-passed g c clears (l, k, old) =
    let z : Size = c.args.mover.now.fabric.size in let looks = c.clear_way.ensures.looks in
    let same = course_looks z looks.0 c.args.mover.now.mover c.clear_way.new.mover.mover looks.1 in
    subst (λ (f : FabricId). AllPassed f.size c.clear_way.new.mover.mover) (sym c.clear_way.ensures.fabric) (c.in_default.ensures.passed clears (l, k, sym (ap (λ (x : Course). x.phase) same) ∙ old))
