use Rattle.std.proofs.Common.{◌≡◌, ◌++◌, take, drop, false}
use Rattle.tl1_text.specs.Tags.{before_colon}
use Rattle.tl1_text.proofs.ctag.before_colon.Given as goal

abbrev pub invariant-loop-at : goal.invariant-loop-at
invariant-loop-at l = before_colon false l.text ≡ take l.at l.text ++ before_colon l.quoted (drop l.at l.text)
