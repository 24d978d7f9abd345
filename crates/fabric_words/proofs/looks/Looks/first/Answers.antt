use Rattle.std.proofs.Common.{◌≡◌, ℕ, List, [], length, get_or, set, sym, ap, ◌∙◌, arith, rules, Bool, false, if◌then◌else◌}
use Rattle.fabric_core.specs.declared.seen.Seen.{Seen}
use Rattle.fabric_core.specs.Passing.{seen_of, seen_after}
use Rattle.fabric_words.proofs.Known.{first_at}
use Rattle.fabric_words.proofs.looks.Looks.first.Goals as goal

pub returns-then-self-at : goal.returns-then-self-at
returns-then-self-at c = let l = c.self.inside in let w = c.args.worker in let low = c.requires in
    let o : length l.odd ≡ 8 = search rules in let f : length l.first ≡ 8 = search rules in let p : length l.passed ≡ 8 = search rules in
    let which = ap (λ (b : Bool). if b then get_or l.first w 0 else 0) c.if-self-at.true in
    sym which ∙ (first_at l.odd l.first l.passed w false 0 (o ∙ sym p) (f ∙ sym p) (omega arith) ∙ ap (λ (ss : List Seen). (get_or ss w (seen_of [])).first) c.self.view_is)

pub returns-else-self-at : goal.returns-else-self-at
returns-else-self-at c = let l = c.self.inside in let w = c.args.worker in let low = c.requires in
    let o : length l.odd ≡ 8 = search rules in let f : length l.first ≡ 8 = search rules in let p : length l.passed ≡ 8 = search rules in
    let which = ap (λ (b : Bool). if b then get_or l.first w 0 else 0) c.if-self-at.false in
    sym which ∙ (first_at l.odd l.first l.passed w false 0 (o ∙ sym p) (f ∙ sym p) (omega arith) ∙ ap (λ (ss : List Seen). (get_or ss w (seen_of [])).first) c.self.view_is)
