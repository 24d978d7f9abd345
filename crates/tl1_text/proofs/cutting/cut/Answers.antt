use Rattle.std.proofs.Common.{sym, ◌∙◌, arith}
use Rattle.tl1_text.proofs.CutOns.{cut_code, on_plain, on_eleventh, on_colon, on_ninth, on_comma, on_end, on_few}
use Rattle.tl1_text.proofs.cutting.cut.Goals as goal

pub loop-at-init : goal.loop-at-init
loop-at-init c = cut_code _ _ c.requires.is_code _ (rw (c.between.ensures, c.requires.none) at c.push.ensures.items)

pub loop-at-preserved-then-is_plain : goal.loop-at-preserved-then-is_plain
loop-at-preserved-then-is_plain c = on_plain _ _ _ _ _ _ c.loop-at.invariant c.loop-at-test.true (sym c.is_plain.ensures ∙ c.if-is_plain.true)

pub returns-then-len-eq9-clause-refused : goal.returns-then-len-eq9-clause-refused
returns-then-len-eq9-clause-refused c = λ _. on_eleventh _ _ _ _ _ _ c.loop-at.invariant c.loop-at-test.true c.if-b-eq58.true (sym c.len.ensures.value ∙ c.if-len-eq9.true)

pub loop-at-preserved-then-b-eq58 : goal.loop-at-preserved-then-b-eq58
loop-at-preserved-then-b-eq58 c = on_colon _ _ _ _ _ _ c.loop-at.invariant c.loop-at-test.true c.if-b-eq58.true (λ full. absurd (c.if-len-eq9.false (c.len.ensures.value ∙ full))) _ (rw c.between-then-b-eq58.ensures at c.push-then-b-eq58.ensures.items)

pub returns-then-params-eq-PARAMS-clause-refused : goal.returns-then-params-eq-PARAMS-clause-refused
returns-then-params-eq-PARAMS-clause-refused c = λ _. on_ninth _ _ _ _ _ _ c.loop-at.invariant c.loop-at-test.true c.if-b-eq44.true c.if-params-eq-PARAMS.true

pub loop-at-preserved-then-b-eq44 : goal.loop-at-preserved-then-b-eq44
loop-at-preserved-then-b-eq44 c = on_comma _ _ _ _ _ _ c.loop-at.invariant c.loop-at-test.true c.if-b-eq44.true (λ full. absurd (c.if-params-eq-PARAMS.false full))

pub loop-at-preserved : goal.loop-at-preserved
loop-at-preserved c = c.in-Some.ensures.cut _ _ c.loop-at.invariant

pub returns-in-None-clause-refused : goal.returns-in-None-clause-refused
returns-in-None-clause-refused c = λ _. c.in-None.ensures.cut _ _ c.loop-at.invariant

pub returns-clause-blocks : goal.returns-clause-blocks
returns-clause-blocks c = on_end _ _ _ _ _ _ c.loop-at.invariant (omega (arith, c.loop-at-test.false, c.loop-at.invariant.cut.within)) _ (rw c.between-2.ensures at c.push-2.ensures.items) c.requires.is_code _ c.len-2.ensures.value

pub returns-clause-refused : goal.returns-clause-refused
returns-clause-refused c = on_few _ _ _ _ _ _ c.loop-at.invariant (omega (arith, c.loop-at-test.false, c.loop-at.invariant.cut.within)) _ (rw c.between-2.ensures at c.push-2.ensures.items) c.requires.is_code _ c.len-2.ensures.value
