use Rattle.std.proofs.Common.{◌≡◌, ℕ, ◌+◌, slice_range, refl, sym, ◌∙◌, ap, length, arith}
use Rattle.tl1_text.specs.Stops.{is_stop, mask_of}
use Rattle.tl1_text.proofs.CutOns.{cut_code, on_eleventh, on_colon, on_ninth, on_comma, on_end, on_few}
use Rattle.tl1_text.proofs.StopFacts.{behind_one, whole}
use Rattle.tl1_text.proofs.StopRuns.{at_stop, at_end, stop_passed, stops_from}
use Rattle.tl1_text.proofs.leaps.cut_runs.Goals as goal

pub loop-rest-init : goal.loop-rest-init
loop-rest-init c = record {
  on = cut_code _ _ c.requires.is_code _ (rw (c.between.ensures, c.requires.none) at c.push.ensures.items);
  stops = behind_one is_stop c.args.unit.now 0 c.args.code (length c.args.unit.now) c.args.stops (c.requires.stops ∙ ap (mask_of is_stop) (sym (whole c.args.unit.now)))
      ∙ (let same : 0 + c.args.code ≡ c.args.code = omega arith in ap (λ (k : ℕ). mask_of is_stop (slice_range c.args.unit.now (k + 1) (length c.args.unit.now))) same);
}

pub bounds-unit-at : goal.bounds-unit-at
bounds-unit-at c = let s = at_stop _ _ _ _ _ _ _ c.loop-rest.invariant.on c.loop-rest.invariant.stops _ c.requires.short c.loop-rest-test.true refl in s.within

pub returns-then-len-eq9-clause-refused : goal.returns-then-len-eq9-clause-refused
returns-then-len-eq9-clause-refused c =
    let s = at_stop _ _ _ _ _ _ _ c.loop-rest.invariant.on c.loop-rest.invariant.stops _ c.requires.short c.loop-rest-test.true refl in
    λ _. on_eleventh _ _ _ _ _ _ s.on s.within c.if-b-eq58.true (sym c.len.ensures.value ∙ c.if-len-eq9.true)

pub loop-rest-preserved-then-b-eq58 : goal.loop-rest-preserved-then-b-eq58
loop-rest-preserved-then-b-eq58 c =
    let s = at_stop _ _ _ _ _ _ _ c.loop-rest.invariant.on c.loop-rest.invariant.stops _ c.requires.short c.loop-rest-test.true refl in
    record {
      on = on_colon _ _ _ _ _ _ s.on s.within c.if-b-eq58.true (λ full. absurd (c.if-len-eq9.false (c.len.ensures.value ∙ full))) _ (rw c.between-then-b-eq58.ensures at c.push-then-b-eq58.ensures.items);
      stops = stop_passed _ _ _ _ _ _ _ s;
    }

pub returns-then-params-eq-PARAMS-clause-refused : goal.returns-then-params-eq-PARAMS-clause-refused
returns-then-params-eq-PARAMS-clause-refused c =
    let s = at_stop _ _ _ _ _ _ _ c.loop-rest.invariant.on c.loop-rest.invariant.stops _ c.requires.short c.loop-rest-test.true refl in
    λ _. on_ninth _ _ _ _ _ _ s.on s.within c.if-b-eq44.true c.if-params-eq-PARAMS.true

pub loop-rest-preserved-then-b-eq44 : goal.loop-rest-preserved-then-b-eq44
loop-rest-preserved-then-b-eq44 c =
    let s = at_stop _ _ _ _ _ _ _ c.loop-rest.invariant.on c.loop-rest.invariant.stops _ c.requires.short c.loop-rest-test.true refl in
    record {
      on = on_comma _ _ _ _ _ _ s.on s.within c.if-b-eq44.true (λ full. absurd (c.if-params-eq-PARAMS.false full));
      stops = stop_passed _ _ _ _ _ _ _ s;
    }

pub quotes_end-requires-clause-within : goal.quotes_end-requires-clause-within
quotes_end-requires-clause-within c = let s = at_stop _ _ _ _ _ _ _ c.loop-rest.invariant.on c.loop-rest.invariant.stops _ c.requires.short c.loop-rest-test.true refl in s.within

pub quotes_end-requires-clause-not_plain : goal.quotes_end-requires-clause-not_plain
quotes_end-requires-clause-not_plain c = let s = at_stop _ _ _ _ _ _ _ c.loop-rest.invariant.on c.loop-rest.invariant.stops _ c.requires.short c.loop-rest-test.true refl in s.not_plain

pub overflow_shr-rest-in-Some : goal.overflow_shr-rest-in-Some
overflow_shr-rest-in-Some c =
    let s = at_stop _ _ _ _ _ _ _ c.loop-rest.invariant.on c.loop-rest.invariant.stops _ c.requires.short c.loop-rest-test.true refl in
    let on = c.in-Some.ensures.cut _ _ s.on in
    omega (arith, on.cut.within, c.requires.short, s.on.is_before, c.in-Some.ensures.forwards)

pub loop-rest-preserved : goal.loop-rest-preserved
loop-rest-preserved c =
    let s = at_stop _ _ _ _ _ _ _ c.loop-rest.invariant.on c.loop-rest.invariant.stops _ c.requires.short c.loop-rest-test.true refl in
    record { on = c.in-Some.ensures.cut _ _ s.on; stops = stops_from _ _ _ _ c.in-Some.ensures.forwards s.stops }

pub returns-in-None-clause-refused : goal.returns-in-None-clause-refused
returns-in-None-clause-refused c =
    let s = at_stop _ _ _ _ _ _ _ c.loop-rest.invariant.on c.loop-rest.invariant.stops _ c.requires.short c.loop-rest-test.true refl in
    λ _. c.in-None.ensures.cut _ _ s.on

pub returns-clause-blocks : goal.returns-clause-blocks
returns-clause-blocks c =
    let on = at_end _ _ _ _ _ _ _ c.loop-rest.invariant.on c.loop-rest.invariant.stops c.loop-rest-test.false in
    on_end _ _ _ _ _ _ on refl _ (rw c.between-2.ensures at c.push-2.ensures.items) c.requires.is_code _ c.len-2.ensures.value

pub returns-clause-refused : goal.returns-clause-refused
returns-clause-refused c =
    let on = at_end _ _ _ _ _ _ _ c.loop-rest.invariant.on c.loop-rest.invariant.stops c.loop-rest-test.false in
    on_few _ _ _ _ _ _ on refl _ (rw c.between-2.ensures at c.push-2.ensures.items) c.requires.is_code _ c.len-2.ensures.value
