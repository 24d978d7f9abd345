use Rattle.std.proofs.Common.{List, ℕ, ◌++◌, sym, ap, ◌∙◌, decimal, rules}
use Rattle.dxc_load.proofs.Spelling.{four_digits}
use Rattle.dxc_load.proofs.command.put_tag.Goals as goal

pub returns-then-contains-clause-tag : goal.returns-then-contains-clause-tag
returns-then-contains-clause-tag c =
    let digits = four_digits c.args.i (search rules) (search rules) in
    c.put-then-contains.ensures.text ∙ ap (λ (l : List ℕ). c.put.new.self ++ l) (sym digits) ∙ ap (λ (l : List ℕ). l ++ decimal c.args.i) c.put.ensures.text
