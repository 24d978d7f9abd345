use Rattle.turnstile.proofs.Going.{both_on}
use Rattle.turnstile.proofs.both.enter_both.Goals as goal

pub returns : goal.returns
returns g c = record {
  took = λ used. both_on g.S.Sequential.entry_code.code g.T.Sequential.entry_code.code used _ _ _ _ _ _ c.requires.number.2
      c.hear.ensures.heard c.enter_one.ensures.goes c.enter_one.ensures.as_many c.enter_one.ensures.seen
      c.hear-2.ensures.heard c.enter_one-2.ensures.goes c.enter_one-2.ensures.as_many c.enter_one-2.ensures.seen;
}
