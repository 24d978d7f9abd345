use Rattle.std.proofs.Common.{◌≡◌, ℕ, List, [], length, get_or, set, sym, ap, ◌∙◌, arith, rules, Bool, false, if◌then◌else◌}
use Rattle.fabric_core.specs.declared.seen.Seen.{Seen}
use Rattle.fabric_core.specs.Passing.{seen_of, seen_after}
use Rattle.fabric_words.proofs.Known.{passed_at}
use Rattle.fabric_words.proofs.looks.Looks.passed.Goals as goal

pub returns : goal.returns
returns c = let l = c.self.inside in let w = c.args.worker in let low = c.requires in
    let o : length l.odd ≡ 8 = search rules in let f : length l.first ≡ 8 = search rules in let p : length l.passed ≡ 8 = search rules in
    passed_at l.odd l.first l.passed w false (o ∙ sym p) (f ∙ sym p) (omega arith) ∙ ap (λ (ss : List Seen). (get_or ss w (seen_of [])).passed) c.self.view_is
