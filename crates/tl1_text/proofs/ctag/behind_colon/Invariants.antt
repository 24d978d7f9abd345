use Rattle.std.proofs.Common.{◌≡◌, drop, false}
use Rattle.tl1_text.specs.Tags.{behind_colon}
use Rattle.tl1_text.proofs.ctag.behind_colon.Given as goal

abbrev pub invariant-loop-at : goal.invariant-loop-at
invariant-loop-at l = behind_colon false l.text ≡ behind_colon l.quoted (drop l.at l.text)
