-- The code that begins a unit, byte by byte.
use Rattle.std.proofs.Common.{◌≡◌, ◌≢◌, ℕ, zero, suc, ◌+◌, ◌-◌, ◌<◌, ◌≤◌, Bool, true, false, List, [], ◌∷◌, ◌++◌, length, get_or, slice_range, nat_lt, ◌&&◌, ◌==◌, if◌then◌else◌, None, refl, sym, ◌∙◌, ap, append_assoc, append-nil, arith}
use Rattle.std.specs.Char.{is_ascii_alphanumeric}
use Rattle.std.proofs.lemmas.Bool.Decides.{nat_tests}
use Rattle.tl1_text.specs.Places.{Place, Start, Plain}
use Rattle.tl1_text.specs.declared.span.Span.{Span}
use Rattle.tl1_text.specs.Grammar.{is_plain}
use Rattle.tl1_text.specs.Walk.{is_outside, ArePlain, are_words, blocks_of}
use Rattle.tl1_text.specs.Cuts.{IsCutTo, IsCodeTo, IsCode}
use Rattle.tl1_text.proofs.Slices.{slice_more}
use Rattle.tl1_text.proofs.WordFacts.{no_dash}
use Rattle.tl1_text.proofs.CutSteps.{cut_none, all_cut, no_code}
use Rattle.tl1_text.proofs.CutBlocks.{too_few}
use Rattle.tl1_text.proofs.Plains.{cut_run, plain_more}

letter_plain : (b : ℕ) → is_ascii_alphanumeric b ≡ true → is_plain b ≡ true
letter_plain b is = grind (arith, nat_tests, is)

by_test : (b m : ℕ) → (b == m) ≡ true → b ≡ m
by_test b m is = let test : (b == m) ≡ true = is in grind (arith, nat_tests, test)

-- nothing but plain bytes
record PlainCut (unit : List ℕ) (at : ℕ) : Type 0 where
  pub place : Place
  pub outside : is_outside place ≡ true
  pub cut : IsCutTo unit at (record { found = []; start = 0; params = 1; place = place })

plain_cut : (unit : List ℕ) (at : ℕ) → ArePlain unit 0 at → at ≤ length unit → PlainCut unit at
plain_cut unit zero plain le = record { place = Start; outside = refl; cut = cut_none unit }
plain_cut unit (suc n) plain le = record { place = Plain; outside = refl; cut = cut_run unit 0 (suc n) (record { found = []; start = 0; params = 1; place = Start }) (cut_none unit) refl le plain (omega arith) }

pub code_none : (unit : List ℕ) → IsCodeTo unit 0 0 3
code_none unit = record { plain = λ k low high. absurd (omega (arith, high)); words = λ t. refl; some = omega arith; behind = omega arith }

module _ (unit : List ℕ) (at word left : ℕ) (is : IsCodeTo unit at word left) where
  module _ (lt : at < length unit) where
    on_byte : (t : List ℕ) → are_words 3 false (slice_range unit 0 (at + 1) ++ t) ≡ are_words left (nat_lt word at) (get_or unit at 0 ∷ t)
    on_byte t = ap (λ (l : List ℕ). are_words 3 false (l ++ t)) (slice_more unit 0 at (omega arith) lt) ∙ ap (λ (l : List ℕ). are_words 3 false l) (append_assoc (slice_range unit 0 at) (get_or unit at 0 ∷ []) t) ∙ is.words (get_or unit at 0 ∷ t)

    pub code_letter : is_ascii_alphanumeric (get_or unit at 0) ≡ true → IsCodeTo unit (at + 1) word left
    code_letter letter =
        let begun : nat_lt word (at + 1) ≡ true = grind (arith, nat_tests, is.behind) in
        record {
          plain = plain_more unit 0 at is.plain (letter_plain (get_or unit at 0) letter);
          words = λ t. on_byte t ∙ (rw (no_dash (get_or unit at 0) letter, letter, begun) (refl));
          some = is.some;
          behind = omega (arith, is.behind);
        }

    pub code_dash : word ≢ at → get_or unit at 0 ≡ 45 → left ≢ 1 → IsCodeTo unit (at + 1) (at + 1) (left - 1)
    code_dash other dash more =
        let begun : nat_lt word at ≡ true = grind (arith, nat_tests, is.behind, other) in
        let further : nat_lt 1 left ≡ true = grind (arith, nat_tests, is.some, more) in
        let none : nat_lt (at + 1) (at + 1) ≡ false = grind (arith, nat_tests) in
        record {
          plain = plain_more unit 0 at is.plain (rw dash (refl));
          words = λ t. on_byte t ∙ (rw (dash, begun, further, none) (refl));
          some = omega (arith, is.some, more);
          behind = omega arith;
        }

    pub code_found : word ≢ at → get_or unit at 0 ≡ 58 → IsCode unit at
    code_found other colon =
        let begun : nat_lt word at ≡ true = grind (arith, nat_tests, is.behind, other) in
        record {
          plain = is.plain;
          some = omega (arith, is.behind, other);
          within = lt;
          colon = colon;
          words = ap (λ (l : List ℕ). are_words 3 false l) (sym (append-nil (slice_range unit 0 at))) ∙ is.words [] ∙ begun;
        }

    stuck : ((t : List ℕ) → are_words left (nat_lt word at) (get_or unit at 0 ∷ t) ≡ false) → ((get_or unit at 0 == 58) ≡ true → nat_lt word at ≡ false) → blocks_of unit ≡ None
    stuck bad none =
        let cut = plain_cut unit at is.plain (omega (arith, lt)) in
        no_code unit at (record { found = []; start = 0; params = 1; place = cut.place }) cut.cut lt refl
        (λ t. is.words (get_or unit at 0 ∷ t) ∙ bad t)
        (λ colon. ap (λ (l : List ℕ). are_words 3 false l) (sym (append-nil (slice_range unit 0 at))) ∙ is.words [] ∙ none colon)

    -- no byte of a word in front of another byte
    pub no_word : word ≡ at → is_ascii_alphanumeric (get_or unit at 0) ≡ false → blocks_of unit ≡ None
    no_word same other =
        let none : nat_lt word at ≡ false = grind (arith, nat_tests, same) in
        stuck (λ t. bad_word (get_or unit at 0 == 45) (nat_lt word at) t none other) (λ colon. none)
      where
        bad_word : (dash begun : Bool) (t : List ℕ) → begun ≡ false → is_ascii_alphanumeric (get_or unit at 0) ≡ false
            → (if dash then begun && nat_lt 1 left && are_words (left - 1) false t else is_ascii_alphanumeric (get_or unit at 0) && are_words left true t) ≡ false
        bad_word true begun t none other = rw none (refl)
        bad_word false begun t none other = rw other (refl)

    -- a byte that is in no code
    pub no_code_byte : get_or unit at 0 ≢ 58 → get_or unit at 0 ≢ 45 → is_ascii_alphanumeric (get_or unit at 0) ≡ false → blocks_of unit ≡ None
    no_code_byte colon dash other =
        let no_dash_here : (get_or unit at 0 == 45) ≡ false = grind (arith, nat_tests, dash) in
        stuck (λ t. rw (no_dash_here, other) (refl)) (λ is. absurd (colon (by_test (get_or unit at 0) 58 is)))

    -- a fourth word
    pub fourth_word : word ≢ at → get_or unit at 0 ≡ 45 → left ≡ 1 → blocks_of unit ≡ None
    fourth_word other dash last =
        let begun : nat_lt word at ≡ true = grind (arith, nat_tests, is.behind, other) in
        stuck (λ t. rw (dash, begun, last) (refl)) (λ colon. absurd (omega (arith, dash, by_test (get_or unit at 0) 58 colon)))

  -- nothing but a code
  pub one_block : length unit ≡ at → blocks_of unit ≡ None
  one_block last =
      let cut = plain_cut unit at is.plain (omega (arith, last)) in
      let span : Span = record { start = 0; end = at } in
      too_few unit (span ∷ []) (all_cut unit at (record { found = []; start = 0; params = 1; place = cut.place }) cut.cut last cut.outside (span ∷ []) refl) (omega arith)
