use Rattle.std.proofs.Common.{List, ℕ, ◌++◌, ◌∙◌, ap}
use Rattle.tl1_answer.specs.Texts.{with_conn}
use Rattle.tl1_answer.proofs.Rows.{conn_alone}
use Rattle.tl1_answer.proofs.text.append_conn.Goals as goal

pub returns-clause-text : goal.returns-clause-text
returns-clause-text c =
    let text = c.bytes.ensures ∙ c.put_conn.ensures.text ∙ ap (λ (l : List ℕ). with_conn l c.args.shape c.args.conn.now) c.new-text.ensures in
    c.append.ensures.items ∙ ap (λ (l : List ℕ). c.args.out.now.items ++ l) text ∙ conn_alone c.args.out.now.items c.args.shape c.args.conn.now
