use Rattle.std.proofs.Common.{List, ℕ, ◌++◌, codes, ◌∙◌, ap}
use Rattle.tl1_answer.specs.Texts.{with_conn}
use Rattle.tl1_answer.proofs.Rows.{row_line}
use Rattle.tl1_answer.proofs.text.put_row.Goals as goal

pub returns-clause-line : goal.returns-clause-line
returns-clause-line c =
    c.put-2.ensures.text
    ∙ ap (λ (l : List ℕ). l ++ codes "\"\r\n") (c.put_conn.ensures.text ∙ ap (λ (l : List ℕ). with_conn l c.args.shape c.args.conn.now) c.put.ensures.text)
    ∙ row_line c.args.out.now c.args.shape c.args.conn.now
