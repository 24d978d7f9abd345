use Rattle.std.proofs.Common.{ℕ, ◌+◌, List, ◌++◌, take, length, ◌∙◌, ap, ap₂}
use Rattle.dxc_aid.proofs.Ends.{ends_joined}
use Rattle.dxc_aid.proofs.text.Text.put_ends.Goals as goal

pub returns-clause-text : goal.returns-clause-text
returns-clause-text g c =
    let old = c.args.self.now in
    let some = c.in-Some-Some in
    let cut = c.cut.ensures ∙ ap₂ (λ (n : ℕ) (l : List ℕ). take n l) (ap (λ (n : ℕ). n + length some.front.now) c.len.ensures.value) c.put.ensures.text in
    c.put-2.ensures.text ∙ ap (λ (l : List ℕ). l ++ some.last.now) cut
    ∙ ends_joined old c.args.text.now some.first.now some.front.now some.last.now g.row.M some.ensures.cases.0 some.ensures'.cases.0 some.ensures'.cases.1 c.requires.most
