use Rattle.std.proofs.Common.{rules, ◌≡◌, ◌∙◌, sym}
use Rattle.fabric_core.specs.Passing.{has_passed}
use Rattle.fabric_core.specs.State.{looks_of}
use Rattle.fabric_core.proofs.Passing.{passed_test, test_passed}
use Rattle.fabric_words.proofs.mover.MoverSeat.passed.Goals as goal

pub returns : goal.returns
returns c = let fs = looks_of c.args.self.now.mover c.args.worker in let is : c.passed.result ≡ has_passed fs = search rules in
    ((λ e. passed_test fs (sym is ∙ e)), (λ p. is ∙ test_passed fs p))
