use Rattle.std.proofs.Common.{refl, arith}
use Rattle.tl1_text.specs.Stops.{is_break}
use Rattle.tl1_text.proofs.Codes.{code_none, code_dash, code_found, no_word, no_code_byte, fourth_word}
use Rattle.tl1_text.proofs.StopFacts.{behind_one}
use Rattle.tl1_text.proofs.StopRuns.{at_break}
use Rattle.tl1_text.proofs.leaps.code_by_breaks.Goals as goal

pub loop-rest-init : goal.loop-rest-init
loop-rest-init c = record { code = code_none _; within = omega arith; breaks = c.requires.breaks }

pub bounds-unit-at : goal.bounds-unit-at
bounds-unit-at c =
    let b = at_break _ _ _ _ _ c.requires.least c.loop-rest.invariant.within c.loop-rest.invariant.code c.loop-rest.invariant.breaks c.loop-rest-test.true refl in
    omega (arith, b.within, c.requires.least)

pub returns-then-run-eq0 : goal.returns-then-run-eq0
returns-then-run-eq0 c =
    let b = at_break _ _ _ _ _ c.requires.least c.loop-rest.invariant.within c.loop-rest.invariant.code c.loop-rest.invariant.breaks c.loop-rest-test.true refl in
    no_word _ _ _ _ b.code (omega (arith, b.within, c.requires.least)) (omega (arith, c.if-run-eq0.true)) b.other

pub returns-then-b-eq58 : goal.returns-then-b-eq58
returns-then-b-eq58 c =
    let b = at_break _ _ _ _ _ c.requires.least c.loop-rest.invariant.within c.loop-rest.invariant.code c.loop-rest.invariant.breaks c.loop-rest-test.true refl in
    code_found _ _ _ _ b.code (omega (arith, b.within, c.requires.least)) (λ same. absurd (c.if-run-eq0.false (omega (arith, same)))) c.if-b-eq58.true

pub returns-then-b-ne45 : goal.returns-then-b-ne45
returns-then-b-ne45 c =
    let b = at_break _ _ _ _ _ c.requires.least c.loop-rest.invariant.within c.loop-rest.invariant.code c.loop-rest.invariant.breaks c.loop-rest-test.true refl in
    no_code_byte _ _ _ _ b.code (omega (arith, b.within, c.requires.least)) c.if-b-eq58.false c.if-b-ne45.true b.other

pub returns-then-left-eq1 : goal.returns-then-left-eq1
returns-then-left-eq1 c =
    let b = at_break _ _ _ _ _ c.requires.least c.loop-rest.invariant.within c.loop-rest.invariant.code c.loop-rest.invariant.breaks c.loop-rest-test.true refl in
    fourth_word _ _ _ _ b.code (omega (arith, b.within, c.requires.least)) (λ same. absurd (c.if-run-eq0.false (omega (arith, same)))) (omega (arith, c.if-b-ne45.false)) c.if-left-eq1.true

pub loop-rest-preserved : goal.loop-rest-preserved
loop-rest-preserved c =
    let b = at_break _ _ _ _ _ c.requires.least c.loop-rest.invariant.within c.loop-rest.invariant.code c.loop-rest.invariant.breaks c.loop-rest-test.true refl in
    record {
      code = code_dash _ _ _ _ b.code (omega (arith, b.within, c.requires.least)) (λ same. absurd (c.if-run-eq0.false (omega (arith, same)))) c.if-b-ne45.false c.if-left-eq1.false;
      within = omega (arith, b.within);
      breaks = behind_one is_break _ _ _ _ _ c.loop-rest.invariant.breaks;
    }
