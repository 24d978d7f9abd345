use Rattle.std.proofs.Common.{◌≡◌, ℕ, List, [], length, get_or, set, sym, ap, ◌∙◌, arith, rules, true}
use Rattle.fabric_core.specs.declared.seen.Seen.{Seen}
use Rattle.fabric_core.specs.Passing.{seen_of, seen_after}
use Rattle.fabric_words.proofs.Known.{known_length, passes, begins_odd, even_after, first_after, other_after}
use Rattle.fabric_words.proofs.looks.Looks.note.Goals as goal

pub returns-then-frame-eq0-clause-full : goal.returns-then-frame-eq0-clause-full
returns-then-frame-eq0-clause-full c = let l = c.self.inside in
    let o : length l.odd ≡ 8 = search rules in let f : length l.first ≡ 8 = search rules in let p : length l.passed ≡ 8 = search rules in
    ap (λ (ss : List Seen). length ss) (sym c.self.view_is) ∙ (known_length l.odd l.first l.passed (o ∙ sym p) (f ∙ sym p) ∙ p)

pub returns-then-first-eq0-clause-full : goal.returns-then-first-eq0-clause-full
returns-then-first-eq0-clause-full c = let l = c.self.inside in
    let o : length l.odd ≡ 8 = search rules in let f : length l.first ≡ 8 = search rules in let p : length l.passed ≡ 8 = search rules in
    ap (λ (ss : List Seen). length ss) (sym c.self.view_is) ∙ (known_length l.odd l.first l.passed (o ∙ sym p) (f ∙ sym p) ∙ p)

pub returns-then-frame-first-clause-full : goal.returns-then-frame-first-clause-full
returns-then-frame-first-clause-full c = let l = c.self.inside in
    let o : length l.odd ≡ 8 = search rules in let f : length l.first ≡ 8 = search rules in let p : length l.passed ≡ 8 = search rules in
    ap (λ (ss : List Seen). length ss) (sym c.self.view_is) ∙ (known_length l.odd l.first l.passed (o ∙ sym p) (f ∙ sym p) ∙ p)

pub returns-else-frame-first-clause-full : goal.returns-else-frame-first-clause-full
returns-else-frame-first-clause-full c = let l = c.self.inside in
    let o : length l.odd ≡ 8 = search rules in let f : length l.first ≡ 8 = search rules in let p : length l.passed ≡ 8 = search rules in
    ap (λ (ss : List Seen). length ss) (sym c.self.view_is) ∙ (known_length l.odd l.first l.passed (o ∙ sym p) (f ∙ sym p) ∙ p)

pub returns-then-frame-eq0-clause-noted : goal.returns-then-frame-eq0-clause-noted
returns-then-frame-eq0-clause-noted c = let l = c.self.inside in let w = c.args.worker in let low = c.requires in
    let o : length l.odd ≡ 8 = search rules in let f : length l.first ≡ 8 = search rules in let p : length l.passed ≡ 8 = search rules in
    passes l.odd l.first l.passed w (o ∙ sym p) (f ∙ sym p) (omega arith)
    ∙ (ap (λ (ss : List Seen). set ss w (record { first = (get_or ss w (seen_of [])).first; passed = true })) c.self.view_is
    ∙ ap (λ (s : Seen). set c.args.self.now w s) (sym (even_after (get_or c.args.self.now w (seen_of [])) c.args.frame c.if-frame-eq0.true)))

pub returns-then-first-eq0-clause-noted : goal.returns-then-first-eq0-clause-noted
returns-then-first-eq0-clause-noted c = let l = c.self.inside in let w = c.args.worker in let low = c.requires in
    let o : length l.odd ≡ 8 = search rules in let f : length l.first ≡ 8 = search rules in let p : length l.passed ≡ 8 = search rules in
    begins_odd l.odd l.first l.passed w c.args.frame (o ∙ sym p) (f ∙ sym p) (omega arith)
    ∙ (ap (λ (ss : List Seen). set ss w (record { first = c.args.frame; passed = (get_or ss w (seen_of [])).passed })) c.self.view_is
    ∙ ap (λ (s : Seen). set c.args.self.now w s) (sym (first_after (get_or c.args.self.now w (seen_of [])) c.args.frame c.if-frame-eq0.false (sym c.first-first.ensures ∙ c.if-first-eq0.true))))

pub returns-then-frame-first-clause-noted : goal.returns-then-frame-first-clause-noted
returns-then-frame-first-clause-noted c = let l = c.self.inside in let w = c.args.worker in let low = c.requires in
    let o : length l.odd ≡ 8 = search rules in let f : length l.first ≡ 8 = search rules in let p : length l.passed ≡ 8 = search rules in
    passes l.odd l.first l.passed w (o ∙ sym p) (f ∙ sym p) (omega arith)
    ∙ (ap (λ (ss : List Seen). set ss w (record { first = (get_or ss w (seen_of [])).first; passed = true })) c.self.view_is
    ∙ ap (λ (s : Seen). set c.args.self.now w s) (sym (other_after (get_or c.args.self.now w (seen_of [])) c.args.frame c.if-frame-eq0.false (λ e. c.if-first-eq0.false (c.first-first.ensures ∙ e)) (λ e. c.if-frame-first.true (e ∙ sym c.first-first.ensures)))))
