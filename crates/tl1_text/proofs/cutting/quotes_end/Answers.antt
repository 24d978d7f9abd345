use Rattle.std.proofs.Common.{sym, ◌∙◌, arith}
use Rattle.tl1_text.proofs.CutOns.{on_late, on_stray, on_quote, quote_open, quote_more, quote_stray, quote_end}
use Rattle.tl1_text.proofs.cutting.quotes_end.Goals as goal

pub returns-then-not-is_mark-clause-cut : goal.returns-then-not-is_mark-clause-cut
returns-then-not-is_mark-clause-cut c = λ code so_far on. on_late _ _ _ _ _ _ on c.requires.within c.requires.not_plain c.requires.not_mark (sym c.is_mark.ensures ∙ c.if-not-is_mark.true)

pub returns-then-unit-at-ne34-clause-cut : goal.returns-then-unit-at-ne34-clause-cut
returns-then-unit-at-ne34-clause-cut c = λ code so_far on. on_stray _ _ _ _ _ _ on c.requires.within c.requires.not_plain c.requires.not_mark (λ quote. absurd (c.if-unit-at-ne34.true quote))

pub loop-end-init : goal.loop-end-init
loop-end-init c = λ code so_far on. on_quote _ _ _ _ _ _ on c.requires.within (sym c.is_mark.ensures ∙ c.if-not-is_mark.false) c.if-unit-at-ne34.false

pub returns-then-b-eq34-clause-cut : goal.returns-then-b-eq34-clause-cut
returns-then-b-eq34-clause-cut c = λ code so_far on. quote_end _ _ _ _ _ (c.loop-end.invariant code so_far on) c.loop-end-test.true c.if-b-eq34.true code on.further on.found_is on.room _ c.closed_at.ensures

pub returns-then-not-is_inner-clause-cut : goal.returns-then-not-is_inner-clause-cut
returns-then-not-is_inner-clause-cut c = λ code so_far on. quote_stray _ _ _ _ _ (c.loop-end.invariant code so_far on) c.loop-end-test.true c.if-b-eq34.false (sym c.is_inner.ensures ∙ c.if-not-is_inner.true)

pub loop-end-preserved : goal.loop-end-preserved
loop-end-preserved c = λ code so_far on. quote_more _ _ _ _ _ (c.loop-end.invariant code so_far on) c.loop-end-test.true c.if-b-eq34.false (sym c.is_inner.ensures ∙ c.if-not-is_inner.false)

pub returns-clause-cut : goal.returns-clause-cut
returns-clause-cut c = λ code so_far on. quote_open _ _ _ _ _ (c.loop-end.invariant code so_far on) (omega (arith, c.loop-end-test.false, c.loop-end.auto.end-end))
