use Rattle.std.proofs.Common.{sym, ◌∙◌, arith}
use Rattle.tl1_text.proofs.Codes.{code_letter, code_dash, code_found, no_word, no_code_byte, fourth_word, one_block}
use Rattle.tl1_text.proofs.cutting.code_end.Goals as goal
use Rattle.tl1_text.proofs.cutting.code_end.Goals.{then-not-is_letter_or_digit+else-word-at+else-b-eq58+else-b-ne45+else-left-eq1, else-not-is_letter_or_digit}

pub returns-then-word-at : goal.returns-then-word-at
returns-then-word-at c = no_word _ _ _ _ c.loop-at.invariant c.loop-at-test.true c.if-word-at.true (sym c.is_letter_or_digit.ensures ∙ c.if-not-is_letter_or_digit.true)

pub returns-then-b-eq58 : goal.returns-then-b-eq58
returns-then-b-eq58 c = code_found _ _ _ _ c.loop-at.invariant c.loop-at-test.true c.if-word-at.false c.if-b-eq58.true

pub returns-then-b-ne45 : goal.returns-then-b-ne45
returns-then-b-ne45 c = no_code_byte _ _ _ _ c.loop-at.invariant c.loop-at-test.true c.if-b-eq58.false c.if-b-ne45.true (sym c.is_letter_or_digit.ensures ∙ c.if-not-is_letter_or_digit.true)

pub returns-then-left-eq1 : goal.returns-then-left-eq1
returns-then-left-eq1 c = fourth_word _ _ _ _ c.loop-at.invariant c.loop-at-test.true c.if-word-at.false (omega (arith, c.if-b-ne45.false)) c.if-left-eq1.true

pub loop-at-preserved : goal.loop-at-preserved
loop-at-preserved c = elim c.if-not-is_letter_or_digit.branch [
  | then-not-is_letter_or_digit+else-word-at+else-b-eq58+else-b-ne45+else-left-eq1 w ↦ rw (w.word-is, w.left-is) (code_dash _ _ _ _ c.loop-at.invariant c.loop-at-test.true w.if-word-at.false w.if-b-ne45.false w.if-left-eq1.false)
  | else-not-is_letter_or_digit w ↦ rw (w.word-is, w.left-is) (code_letter _ _ _ _ c.loop-at.invariant c.loop-at-test.true (sym c.is_letter_or_digit.ensures ∙ w.if-not-is_letter_or_digit.false))
]

pub returns : goal.returns
returns c = one_block _ _ _ _ c.loop-at.invariant (omega (arith, c.loop-at-test.false, c.loop-at.auto.at-end))
