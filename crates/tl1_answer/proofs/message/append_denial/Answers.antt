use Rattle.std.proofs.Common.{List, ℕ, ◌++◌, ◌∙◌, ap}
use Rattle.tl1_answer.proofs.Rows.{denial_lines}
use Rattle.tl1_answer.proofs.message.append_denial.Goals as goal

pub returns-clause-lines : goal.returns-clause-lines
returns-clause-lines c =
    let old = c.args.out.now in
    c.append.ensures.text ∙ ap (λ (l : List ℕ). old ++ l) c.lines_of.ensures.lines ∙ denial_lines old c.args.cause
