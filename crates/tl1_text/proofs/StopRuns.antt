-- A unit that is cut run by run.
use Rattle.std.proofs.Common.{◌≡◌, ◌≢◌, ℕ, zero, suc, ◌+◌, ◌-◌, ◌/◌, ◌^◌, ◌<◌, ◌≤◌, Bool, true, false, not, List, length, get_or, slice_range, refl, subst, ap, ◌∙◌, arith}
use Rattle.std.specs.Char.{is_ascii_alphanumeric}
use lib.Count.{count_trailing_zeros}
use Rattle.tl1_text.specs.declared.span.Span.{Span}
use Rattle.tl1_text.specs.Grammar.{is_plain}
use Rattle.tl1_text.specs.Stops.{is_stop, is_break, mask_of}
use Rattle.tl1_text.specs.Cuts.{IsCutOn, IsCodeTo}
use Rattle.tl1_text.proofs.CutOns.{on_plain}
use Rattle.tl1_text.proofs.Codes.{code_letter}
use Rattle.tl1_text.proofs.StopFacts.{behind, no_more, first_is}

not_false : (b : Bool) → not b ≡ false → b ≡ true
not_false true is = refl
not_false false is = cc

not_true : (b : Bool) → not b ≡ true → b ≡ false
not_true true is = cc
not_true false is = refl

-- a run of plain bytes
on_run : (unit : List ℕ) (code at : ℕ) (found : List Span) (start params n : ℕ) → at + n ≤ length unit → ((k : ℕ) → at ≤ k → k < at + n → is_stop (get_or unit k 0) ≡ false)
    → IsCutOn unit code at found start params → IsCutOn unit code (at + n) found start params
on_run unit code at found start params zero le others on = let same : at ≡ at + 0 = omega arith in subst (λ k. IsCutOn unit code k found start params) same on
on_run unit code at found start params (suc n) le others on =
    let before = on_run unit code at found start params n (omega (arith, le)) (λ k from to. others k from (omega (arith, to))) on in
    let same : (at + n) + 1 ≡ at + suc n = omega arith in
    let plain = not_false (is_plain (get_or unit (at + n) 0)) (others (at + n) (omega arith) (omega arith)) in
    subst (λ k. IsCutOn unit code k found start params) same (on_plain unit code (at + n) found start params before (omega (arith, le)) plain)

-- the same after a run of plain bytes, where one stands that isn't
pub record IsAtStop (unit : List ℕ) (code at : ℕ) (found : List Span) (start params rest : ℕ) : Type 0 where
  pub within : at < length unit
  pub on : IsCutOn unit code at found start params
  pub not_plain : is_plain (get_or unit at 0) ≡ false
  pub stops : rest ≡ mask_of is_stop (slice_range unit at (length unit))

module _ (unit : List ℕ) (code at : ℕ) (found : List Span) (start params rest : ℕ) (on : IsCutOn unit code at found start params)
    (stops : rest ≡ mask_of is_stop (slice_range unit at (length unit))) where
  pub at_stop : (run : ℕ) → length unit ≤ 64 → rest ≢ 0 → run ≡ count_trailing_zeros 64 rest → IsAtStop unit code (at + run) found start params (rest / 2 ^ run)
  at_stop run short some is =
      let first = first_is is_stop unit at (length unit) rest stops (omega arith) run on.cut.within (omega (arith, short)) some is in
      record {
        within = first.0;
        on = on_run unit code at found start params run (omega (arith, first.0)) first.1.others on;
        not_plain = not_true (is_plain (get_or unit (at + run) 0)) first.1.stop;
        stops = behind is_stop unit at run (length unit) rest stops;
      }

  pub at_end : rest ≡ 0 → IsCutOn unit code (length unit) found start params
  at_end none =
      let le = on.cut.within in
      let all : at + (length unit - at) ≡ length unit = omega (arith, le) in
      let others = no_more is_stop unit at (length unit) rest stops (omega arith) le none in
      subst (λ k. IsCutOn unit code k found start params) all (on_run unit code at found start params (length unit - at) (omega (arith, le)) (λ k from to. others k from (omega (arith, to, le))) on)

-- the mask of what stands after
pub stop_passed : (unit : List ℕ) (code at : ℕ) (found : List Span) (start params rest : ℕ) → IsAtStop unit code at found start params rest → rest / 2 ^ 1 ≡ mask_of is_stop (slice_range unit (at + 1) (length unit))
stop_passed unit code at found start params rest s = behind is_stop unit at 1 (length unit) rest s.stops

pub stops_from : (unit : List ℕ) (at end rest : ℕ) → at < end → rest ≡ mask_of is_stop (slice_range unit at (length unit)) → rest / 2 ^ (end - at) ≡ mask_of is_stop (slice_range unit end (length unit))
stops_from unit at end rest lt is =
    let place : at + (end - at) ≡ end = omega (arith, lt) in
    behind is_stop unit at (end - at) (length unit) rest is ∙ ap (λ k. mask_of is_stop (slice_range unit k (length unit))) place

-- a run of letters and digits
code_run : (unit : List ℕ) (at word left n : ℕ) → at + n ≤ length unit → ((k : ℕ) → at ≤ k → k < at + n → is_break (get_or unit k 0) ≡ false)
    → IsCodeTo unit at word left → IsCodeTo unit (at + n) word left
code_run unit at word left zero le others is = let same : at ≡ at + 0 = omega arith in subst (λ k. IsCodeTo unit k word left) same is
code_run unit at word left (suc n) le others is =
    let before = code_run unit at word left n (omega (arith, le)) (λ k from to. others k from (omega (arith, to))) is in
    let same : (at + n) + 1 ≡ at + suc n = omega arith in
    let letter = not_false (is_ascii_alphanumeric (get_or unit (at + n) 0)) (others (at + n) (omega arith) (omega arith)) in
    subst (λ k. IsCodeTo unit k word left) same (code_letter unit (at + n) word left before (omega (arith, le)) letter)

-- after a word
pub record IsAtBreak (unit : List ℕ) (at word left : ℕ) : Type 0 where
  pub within : at < 16
  pub code : IsCodeTo unit at word left
  pub other : is_ascii_alphanumeric (get_or unit at 0) ≡ false

pub at_break : (unit : List ℕ) (at left rest run : ℕ) → 16 ≤ length unit → at ≤ 16 → IsCodeTo unit at at left → rest ≡ mask_of is_break (slice_range unit at 16) → rest ≢ 0 → run ≡ count_trailing_zeros 64 rest
    → IsAtBreak unit (at + run) at left
at_break unit at left rest run least le code breaks some is =
    let first = first_is is_break unit at 16 rest breaks least run le (omega (arith, le)) some is in
    record {
      within = first.0;
      code = code_run unit at at left run (omega (arith, first.0, least)) first.1.others code;
      other = not_true (is_ascii_alphanumeric (get_or unit (at + run) 0)) first.1.stop;
    }
