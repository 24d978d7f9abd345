use Rattle.std.proofs.Common.{◌∙◌, sym}
use Rattle.std.proofs.lemmas.Bool.{false≢true}
use Rattle.fabric_core.specs.Passing.{Passed}
use Rattle.fabric_core.specs.State.{looks_of}
use Rattle.roll_engine.proofs.Looking.{one_look, seen_look}
use Rattle.roll_engine.proofs.looks.look_one.Goals as goal

pub returns-then-passed-2-clause-looks : goal.returns-then-passed-2-clause-looks
returns-then-passed-2-clause-looks c = one_look c.args.fabric.now.size c.args.mover.now.mover c.look-found.new.self.mover c.args.worker c.look-found.result c.requires.low c.look-found.ensures.event

pub returns-clause-looks : goal.returns-clause-looks
returns-clause-looks c = one_look c.args.fabric.now.size c.args.mover.now.mover c.look-found.new.self.mover c.args.worker c.look-found.result c.requires.low c.look-found.ensures.event

pub returns-clause-seen : goal.returns-clause-seen
returns-clause-seen c = let none : Passed (looks_of c.look-found.new.self.mover c.args.worker) → ⊥ = λ passed. absurd (false≢true (sym c.if-passed-2.false ∙ c.passed-2.ensures.1 passed)) in
    seen_look c.args.fabric.now.size c.args.mover.now.mover c.look-found.new.self.mover c.args.worker c.look-found.result c.requires.low c.requires.full c.look-found.ensures.event none
