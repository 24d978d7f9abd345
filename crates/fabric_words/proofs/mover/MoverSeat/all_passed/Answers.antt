use Rattle.std.proofs.Common.{◌≡◌, ◌<◌, ℕ, sym, arith, subst, ap, ◌∙◌, false, true≢false}
use Rattle.std.proofs.lemmas.Bool.{false≢true}
use native.Mathlib.Decide.{ℕ_discrete}
use mathlib.Core.Logic.{dite}
use Rattle.fabric_core.specs.Passing.{Passed}
use Rattle.fabric_core.specs.State.{looks_of}
use Rattle.fabric_words.proofs.mover.MoverSeat.all_passed.Goals as goal

pub returns-then-not-passed : goal.returns-then-not-passed
returns-then-not-passed c =
    let m = c.args.self.now.mover in let w = c.loop-worker.worker in
    let test = c.loop-worker-test.true in let own = ap (λ f. f.size.workers) c.requires in let workers = c.workers-worker-end.ensures.value in
    let low : w < c.args.self.now.fabric.size.workers = omega arith in
    let none : c.passed.result ≡ false = c.if-not-passed.true in (
      (λ e. absurd (false≢true e)),
      (λ all. absurd (true≢false (sym (c.passed.ensures.1 (all w low)) ∙ none))),
    )

pub loop-worker-preserved : goal.loop-worker-preserved
loop-worker-preserved c = λ w low. dite (ℕ_discrete w c.loop-worker.worker)
    (λ e. let m = c.args.self.now.mover in subst (λ (u : ℕ). Passed (looks_of m u)) (sym e) (c.passed.ensures.0 c.if-not-passed.false))
    (λ other. c.loop-worker.invariant w (omega arith))
