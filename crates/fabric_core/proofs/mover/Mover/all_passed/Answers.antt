use Rattle.std.proofs.Common.{◌≡◌, ◌<◌, ℕ, [], sym, arith, subst, ap, ◌∙◌, true, false, true≢false}
use Rattle.std.proofs.lemmas.Bool.{not-false, not-true, false≢true}
use native.Mathlib.Decide.{ℕ_discrete}
use mathlib.Core.Logic.{dite}
use Rattle.fabric_core.specs.declared.seen.Seen.{Seen}
use Rattle.fabric_core.specs.Passing.{Passed, has_passed}
use Rattle.fabric_core.specs.State.{looks_of}
use Rattle.fabric_core.proofs.Passing.{passed_test, test_passed}
use Rattle.fabric_core.proofs.mover.Mover.all_passed.Goals as goal

pub returns-then-not-of : goal.returns-then-not-of
returns-then-not-of c =
    let w : ℕ = c.loop-worker.worker in
    let low : w < c.args.size.workers = omega arith in
    let is : c.of.result.passed ≡ has_passed (looks_of c.args.self.now w) = ap (λ (s : Seen). s.passed) c.of.ensures ∙ ap has_passed (sym (c.at.ensures [])) in
    let none : c.of.result.passed ≡ false = not-true c.of.result.passed c.if-not-of.true in (
      (λ e. absurd (false≢true e)),
      (λ all. absurd (true≢false (sym (test_passed (looks_of c.args.self.now w) (all w low)) ∙ (sym is ∙ none)))),
    )

pub loop-worker-preserved : goal.loop-worker-preserved
loop-worker-preserved c = λ w low. dite (ℕ_discrete w c.loop-worker.worker)
    (λ e. let is : has_passed (looks_of c.args.self.now c.loop-worker.worker) ≡ true = ap has_passed (c.at.ensures []) ∙ (sym (ap (λ (s : Seen). s.passed) c.of.ensures) ∙ not-false c.of.result.passed c.if-not-of.false) in
    subst (λ (u : ℕ). Passed (looks_of c.args.self.now u)) (sym e) (passed_test (looks_of c.args.self.now c.loop-worker.worker) is))
    (λ other. c.loop-worker.invariant w (omega arith))
