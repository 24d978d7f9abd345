use Rattle.std.proofs.Common.{List, ℕ, [], ◌∷◌, ◌++◌, ap}
use Rattle.xc_journal.proofs.Bytes.{joins}
use Rattle.xc_journal.proofs.write.front_of.Goals as goal

pub returns : goal.returns
returns c = rw (c.of_change-c.ensures, c.of_choice-a.ensures, c.of_choice-b.ensures, c.behind.ensures) (ap (λ (f : List ℕ). f ++ c.args.count ∷ []) (joins c.args.change.now c.args.choices.now))
