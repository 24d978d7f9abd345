use Rattle.std.proofs.Common.{ℕ, List, ◌++◌, codes, ◌∙◌, ap, ap₂}
use Rattle.tl1_answer.proofs.Headers.{header_is}
use Rattle.tl1_answer.proofs.message.append_header.Goals as goal

pub returns-clause-items : goal.returns-clause-items
returns-clause-items c =
    let front = c.put.ensures.text ∙ ap (λ (l : List ℕ). l ++ codes "\r\n\n   ") c.requires in
    let named = c.append.ensures.text ∙ ap₂ (λ (a b : List ℕ). a ++ b) front c.bytes.ensures.bytes in
    c.put-2.ensures.text ∙ ap₂ (λ (a b : List ℕ). a ++ b) named c.bytes-2.ensures ∙ header_is c.args.sid.now c.args.stamp.now
