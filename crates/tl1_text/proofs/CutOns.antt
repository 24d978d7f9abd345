-- One byte more of a unit that is being cut after its code.
use Rattle.std.proofs.Common.{◌≡◌, ◌≢◌, ℕ, ◌+◌, ◌-◌, ◌<◌, ◌≤◌, Bool, true, false, List, [], ◌∷◌, ◌++◌, length, get_or, nat_le, ◌&&◌, ◌||◌, ◌==◌, Option, Some, None, MatchOption, refl, ◌∙◌, ap, length-append, arith}
use Rattle.std.proofs.lemmas.Bool.Decides.{nat_tests}
use Rattle.tl1_text.specs.Places.{Place, Start, Plain, Quoted, Closed}
use Rattle.tl1_text.specs.declared.span.Span.{Span}
use Rattle.tl1_text.specs.Grammar.{is_plain, is_inner}
use Rattle.tl1_text.specs.Walk.{is_outside, takes_plain, after, blocks_of}
use Rattle.tl1_text.specs.Spans.{AreBlocksOf}
use Rattle.tl1_text.specs.Cuts.{Cutting, IsCutTo, IsCut, is_mark, IsCode, IsCutOn}
use Rattle.tl1_text.proofs.Walks.{plain_not}
use Rattle.tl1_text.proofs.CutSteps.{cut_none, eleventh, ninth, stray, next_block, next_param, next_byte, in_quotes, all_cut}
use Rattle.tl1_text.proofs.CutBlocks.{too_few, all_blocks_of}
use Rattle.tl1_text.proofs.Plains.{is_passed, cut_run}

not_both : (b : Bool) → b ≡ true → b ≡ false → ⊥
not_both true is not = cc
not_both false is not = cc

no_mark : (b : ℕ) → is_plain b ≡ true → is_mark b ≡ false
no_mark b is = let other = plain_not b is in rw (other.1, other.2) (refl)

two_tests : (c d : Bool) → (c || d) ≡ false → (c ≡ false) × (d ≡ false)
two_tests true d is = cc
two_tests false d is = (refl, is)

not_marks : (b : ℕ) → is_mark b ≡ false → ((b == 58) ≡ false) × ((b == 44) ≡ false)
not_marks b is = two_tests (b == 58) (b == 44) is

-- outside quotes no byte may follow that is neither plain nor a mark, but quotes at the start
no_next : (p : Place) (b : ℕ) → is_outside p ≡ true → is_plain b ≡ false → (b ≡ 34 → p ≢ Start) → after p b ≡ None
no_next Start b out plain quote =
    let other : (b == 34) ≡ false = (let not : b ≢ 34 = λ is. quote is refl in grind (arith, nat_tests, not)) in
    rw (plain, other) (refl)
no_next Plain b out plain quote = rw plain (refl)
no_next Quoted b out plain quote = cc
no_next Closed b out plain quote = refl

-- the first block is cut
pub cut_code : (unit : List ℕ) (code : ℕ) → IsCode unit code → (found : List Span) → found ≡ record { start = 0; end = code } ∷ [] → IsCutOn unit code (code + 1) found (code + 1) 1
cut_code unit code is found found_is =
    let first : Cutting = record { found = []; start = 0; params = 1; place = Plain } in
    let cut : IsCutTo unit code first = cut_run unit 0 code (record { found = []; start = 0; params = 1; place = Start }) (cut_none unit) refl (omega (arith, is.within)) is.plain is.some in
    record {
      place = Start;
      cut = next_block unit code first cut is.within (rw is.colon (refl)) found found_is;
      outside = refl;
      before = code;
      is_before = refl;
      starts = λ _. refl;
      begun = λ not. absurd (not_both (is_mark (get_or unit code 0)) (rw is.colon (refl)) not);
      closed = λ closed. cc;
      further = [];
      found_is = found_is;
      room = rw found_is (omega arith);
    }

module _ (unit : List ℕ) (code at : ℕ) (found : List Span) (start params : ℕ) (on : IsCutOn unit code at found start params) where
  abbrev now : Cutting
  now = record { found = found; start = start; params = params; place = on.place }

  before_at : on.before ≡ at - 1
  before_at = omega (arith, on.is_before)

  module _ (lt : at < length unit) where
    takes : (t : Bool) → takes_plain on.place ≡ t → is_plain (get_or unit at 0) ≡ true → takes_plain on.place ≡ true
    takes true is plain = is
    takes false is plain = absurd (not_both (is_mark (get_or unit at 0)) (on.closed is lt) (no_mark (get_or unit at 0) plain))

    pub on_plain : is_plain (get_or unit at 0) ≡ true → IsCutOn unit code (at + 1) found start params
    on_plain plain =
        let passed = is_passed on.place (get_or unit at 0) (takes (takes_plain on.place) refl plain) plain in
        record {
          place = Plain;
          cut = next_byte unit at now on.cut lt Plain passed.colon passed.comma passed.next;
          outside = refl;
          before = at;
          is_before = refl;
          starts = λ mark. absurd (not_both (is_mark (get_or unit at 0)) mark (no_mark (get_or unit at 0) plain));
          begun = λ _ same. cc;
          closed = λ closed. cc;
          further = on.further;
          found_is = on.found_is;
          room = on.room;
        }

    is_colon : get_or unit at 0 ≡ 58 → (is_outside on.place && (get_or unit at 0 == 58)) ≡ true
    is_colon is = rw (on.outside, is) (refl)

    no_colon : get_or unit at 0 ≢ 58 → (is_outside on.place && (get_or unit at 0 == 58)) ≡ false
    no_colon not = let other : (get_or unit at 0 == 58) ≡ false = grind (arith, nat_tests, not) in rw (on.outside, other) (refl)

    is_comma : get_or unit at 0 ≡ 44 → (is_outside on.place && (get_or unit at 0 == 44)) ≡ true
    is_comma is = rw (on.outside, is) (refl)

    pub on_eleventh : get_or unit at 0 ≡ 58 → length found ≡ 9 → blocks_of unit ≡ None
    on_eleventh is full = eleventh unit at now on.cut lt (is_colon is) (omega (arith, full))

    pub on_colon : get_or unit at 0 ≡ 58 → length found ≢ 9 → (more : List Span) → more ≡ found ++ record { start = start; end = at } ∷ [] → IsCutOn unit code (at + 1) more (at + 1) 1
    on_colon is free more more_is = record {
      place = Start;
      cut = next_block unit at now on.cut lt (is_colon is) more more_is;
      outside = refl;
      before = at;
      is_before = refl;
      starts = λ _. refl;
      begun = λ not. absurd (not_both (is_mark (get_or unit at 0)) (rw is (refl)) not);
      closed = λ closed. cc;
      further = on.further ++ record { start = start; end = at } ∷ [];
      found_is = more_is ∙ ap (λ (l : List Span). l ++ record { start = start; end = at } ∷ []) on.found_is;
      room = omega (arith, on.room, free, ap length more_is, length-append found (record { start = start; end = at } ∷ []));
    }

    pub on_ninth : get_or unit at 0 ≡ 44 → params ≡ 8 → blocks_of unit ≡ None
    on_ninth is full = ninth unit at now on.cut lt (no_colon (λ other. absurd (omega (arith, is, other)))) (is_comma is) full

    pub on_comma : get_or unit at 0 ≡ 44 → params ≢ 8 → IsCutOn unit code (at + 1) found start (params + 1)
    on_comma is free = record {
      place = Start;
      cut = next_param unit at now on.cut lt (no_colon (λ other. absurd (omega (arith, is, other)))) (is_comma is) (omega (arith, free, on.cut.most));
      outside = refl;
      before = at;
      is_before = refl;
      starts = λ _. refl;
      begun = λ not. absurd (not_both (is_mark (get_or unit at 0)) (rw is (refl)) not);
      closed = λ closed. cc;
      further = on.further;
      found_is = on.found_is;
      room = on.room;
    }

    -- a byte that begins no quotes
    pub on_stray : is_plain (get_or unit at 0) ≡ false → is_mark (get_or unit at 0) ≡ false → (get_or unit at 0 ≡ 34 → on.place ≢ Start) → blocks_of unit ≡ None
    on_stray plain mark quote =
        let other = not_marks (get_or unit at 0) mark in
        stray unit at now on.cut lt (rw (on.outside, other.0) (refl)) (rw (on.outside, other.1) (refl)) (no_next on.place (get_or unit at 0) on.outside plain quote)

    -- by the byte before it, where that is no mark
    pub on_late : is_plain (get_or unit at 0) ≡ false → is_mark (get_or unit at 0) ≡ false → is_mark (get_or unit (at - 1) 0) ≡ false → blocks_of unit ≡ None
    on_late plain mark before = on_stray plain mark (λ quote. on.begun (ap (λ (k : ℕ). is_mark (get_or unit k 0)) before_at ∙ before))

    -- quotes begin
    pub on_quote : is_mark (get_or unit (at - 1) 0) ≡ true → get_or unit at 0 ≡ 34 → IsCutTo unit (at + 1) (record { found = found; start = start; params = params; place = Quoted })
    on_quote before quote =
        let starts = on.starts (ap (λ (k : ℕ). is_mark (get_or unit k 0)) before_at ∙ before) in
        next_byte unit at now on.cut lt Quoted (rw (on.outside, quote) (refl)) (rw (on.outside, quote) (refl)) (rw (starts, quote) (refl))

  -- what is cut after the last byte
  module _ (last : length unit ≡ at) (more : List Span) (more_at : more ≡ found ++ record { start = start; end = length unit } ∷ []) (is_code : IsCode unit code) where
    more_is : more ≡ found ++ record { start = start; end = at } ∷ []
    more_is = more_at ∙ ap (λ (n : ℕ). found ++ record { start = start; end = n } ∷ []) last

    as_cut : IsCut unit more
    as_cut = all_cut unit at now on.cut last on.outside more more_is

    front : more ≡ record { start = 0; end = code } ∷ (on.further ++ record { start = start; end = at } ∷ [])
    front = more_is ∙ ap (λ (l : List Span). l ++ record { start = start; end = at } ∷ []) on.found_is

    pub on_end : (n : ℕ) → n ≡ length more → nat_le 4 n ≡ true → AreBlocksOf unit more
    on_end n as_many is =
        let enough : 4 ≤ length more = (let test : nat_le 4 n ≡ true = is in grind (arith, nat_tests, test, as_many)) in
        all_blocks_of unit more as_cut (record { start = 0; end = 0 }) enough (omega (arith, on.room, ap length more_is, length-append found (record { start = start; end = at } ∷ []))) (rw front (is_code.words))

    pub on_few : (n : ℕ) → n ≡ length more → nat_le 4 n ≡ false → blocks_of unit ≡ None
    on_few n as_many is = too_few unit more as_cut (let test : nat_le 4 n ≡ false = is in grind (arith, nat_tests, test, as_many))

-- a unit that is cut as far as a byte inside quotes
module _ (unit : List ℕ) (at : ℕ) (found : List Span) (start params : ℕ) (cut : IsCutTo unit at (record { found = found; start = start; params = params; place = Quoted })) where
  abbrev quoted : Cutting
  quoted = record { found = found; start = start; params = params; place = Quoted }

  pub quote_open : length unit ≡ at → blocks_of unit ≡ None
  quote_open last = in_quotes unit at quoted cut last refl

  module _ (lt : at < length unit) where
    pub quote_more : get_or unit at 0 ≢ 34 → is_inner (get_or unit at 0) ≡ true → IsCutTo unit (at + 1) quoted
    quote_more other inner =
        let not_quote : (get_or unit at 0 == 34) ≡ false = grind (arith, nat_tests, other) in
        next_byte unit at quoted cut lt Quoted refl refl (rw (inner, not_quote) (refl))

    pub quote_stray : get_or unit at 0 ≢ 34 → is_inner (get_or unit at 0) ≡ false → blocks_of unit ≡ None
    quote_stray other inner =
        let not_quote : (get_or unit at 0 == 34) ≡ false = grind (arith, nat_tests, other) in
        stray unit at quoted cut lt refl refl (rw (inner, not_quote) (refl))

    closed_cut : get_or unit at 0 ≡ 34 → IsCutTo unit (at + 1) (record { found = found; start = start; params = params; place = Closed })
    closed_cut quote = next_byte unit at quoted cut lt Closed refl refl (rw quote (refl))

    pub quote_closed : get_or unit at 0 ≡ 34 → (code : ℕ) (further : List Span) → found ≡ record { start = 0; end = code } ∷ further → length found ≤ 9
        → (at + 1 < length unit → is_mark (get_or unit (at + 1) 0) ≡ true) → IsCutOn unit code (at + 1) found start params
    quote_closed quote code further found_is room mark = record {
      place = Closed;
      cut = closed_cut quote;
      outside = refl;
      before = at;
      is_before = refl;
      starts = λ is. absurd (not_both (is_mark (get_or unit at 0)) is (rw quote (refl)));
      begun = λ _ same. cc;
      closed = λ _ more. mark more;
      further = further;
      found_is = found_is;
      room = room;
    }

    pub quote_behind : get_or unit at 0 ≡ 34 → at + 1 < length unit → is_mark (get_or unit (at + 1) 0) ≡ false → blocks_of unit ≡ None
    quote_behind quote more mark =
        let other = not_marks (get_or unit (at + 1) 0) mark in
        stray unit (at + 1) (record { found = found; start = start; params = params; place = Closed }) (closed_cut quote) more (rw (other.0) (refl)) (rw (other.1) (refl)) refl

    pub quote_end : get_or unit at 0 ≡ 34 → (code : ℕ) (further : List Span) → found ≡ record { start = 0; end = code } ∷ further → length found ≤ 9
        → (end : Option ℕ) → MatchOption end ((at + 1 < length unit) × (is_mark (get_or unit (at + 1) 0) ≡ false)) (λ e. (e ≡ at + 1) × (at + 1 < length unit → is_mark (get_or unit (at + 1) 0) ≡ true))
        → MatchOption end (blocks_of unit ≡ None) (λ e. IsCutOn unit code e found start params)
    quote_end quote code further found_is room None is = quote_behind quote is.0 is.1
    quote_end quote code further found_is room (Some e) is = rw is.0 (quote_closed quote code further found_is room is.1)
