use Rattle.dxc_load.proofs.Coding.{ends_without, front_without, tag_without, code_without, found_code}
use Rattle.dxc_load.proofs.codes.next_code.Goals as goal

pub returns-in_err-response : goal.returns-in_err-response
returns-in_err-response c = rw c.from_residual.ensures (ends_without c.args.text.now c.in_err-response.ensures)

pub returns-in_err-tag : goal.returns-in_err-tag
returns-in_err-tag c = rw c.from_residual-in_err-tag.ensures (front_without c.args.text.now c.in_ok-response.response.now c.in_ok-response.ensures c.in_err-tag.ensures.lookup.0)

pub returns-in_err-code : goal.returns-in_err-code
returns-in_err-code c =
    rw c.from_residual-in_err-code.ensures
    (tag_without c.args.text.now c.in_ok-response.response.now c.in_ok-response.ensures c.in_ok-tag.tag.now c.in_ok-tag.ensures.lookup.0.2 c.in_err-code.ensures)

pub returns-in_err-letter : goal.returns-in_err-letter
returns-in_err-letter c =
    rw c.from_residual-in_err-letter.ensures
    (code_without c.args.text.now c.in_ok-response.response.now c.in_ok-response.ensures c.in_ok-tag.tag.now c.in_ok-tag.ensures.lookup.0.2 c.in_ok-code.code.now c.in_ok-code.ensures c.in_err-letter.ensures.cases)

pub returns : goal.returns
returns c =
    found_code c.args.text.now c.in_ok-response.response.now c.in_ok-response.ensures c.in_ok-tag.tag.now c.in_ok-tag.ensures.lookup.0.2 c.in_ok-code.code.now c.in_ok-code.ensures
    c.in_ok-letter.letter.now c.in_ok-letter.rest.now c.in_ok-letter.ensures.cases.0
