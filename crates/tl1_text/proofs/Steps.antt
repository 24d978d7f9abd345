-- One byte more in the unit in hand.
use Rattle.std.proofs.Common.{◌≡◌, ℕ, ◌≤◌, ◌<◌, Bool, true, false, List, [], ◌∷◌, ◌++◌, length, nat_lt, not, if◌then◌else◌, ◌==◌, refl, sym, ◌∙◌, ap, ap₂, subst, arith, append_assoc, length-append, inl, inr, ◌⊎◌}
use Rattle.std.proofs.lemmas.List.{append-nil}
use mathlib.Core.Bool.{beq}
use Rattle.std.proofs.lemmas.Bool.Decides.{nat_tests}
use Rattle.std.proofs.lemmas.Grind.{common_steps}
use Rattle.tl1_text.specs.Units.{whole, too_long, is_gap, is_quoted, AreGaps, Begins, ends_behind, IsOpen, unit_of, IsUnit, IsRest}
use Rattle.tl1_text.specs.Reading.{Holds}

nothing_behind : (before after : List ℕ) (c : ℕ) → [] ≡ before ++ c ∷ after → ⊥
nothing_behind [] after c is = cc
nothing_behind (b ∷ before) after c is = cc

-- where the last byte of a list stands
pub last_byte : (before text after : List ℕ) (b c : ℕ) → text ++ b ∷ [] ≡ before ++ c ∷ after
    → ((text ≡ before) × (b ≡ c)) ⊎ ((more : List ℕ) × (text ≡ before ++ c ∷ more))
last_byte [] [] after b c is = inl (refl, cc)
last_byte [] (t ∷ text) after b c is = inr (text, cc)
last_byte (x ∷ before) [] after b c is = absurd (nothing_behind before after c cc)
last_byte (x ∷ before) (t ∷ text) after b c is =
    elim (last_byte before text after b c cc) [
      | inl e ↦ inl (cc, e.1)
      | inr e ↦ inr (e.0, cc)
    ]

gaps_more : (gs : List ℕ) (b : ℕ) → AreGaps gs → is_gap b ≡ true → AreGaps (gs ++ b ∷ [])
gaps_more [] b are is = (is, tt)
gaps_more (g ∷ gs) b are is = (are.0, gaps_more gs b are.1 is)

begins_more : (text : List ℕ) (b : ℕ) → Begins text → (text ≡ [] → is_gap b ≡ false) → Begins (text ++ b ∷ [])
begins_more [] b begins is = is refl
begins_more (t ∷ text) b begins is = begins

open_more : (text : List ℕ) (b : ℕ) → IsOpen text → (b ≡ 59 → ends_behind text ≡ false) → IsOpen (text ++ b ∷ [])
open_more text b unended is = λ before after split.
    elim (last_byte before text after b 59 split) [
      | inl e ↦ subst (λ (l : List ℕ). ends_behind l ≡ false) e.0 (is e.1)
      | inr e ↦ unended before e.0 e.1
    ]

pub holds_none : Holds [] []
holds_none = record { gaps = []; more = []; split = refl; are_gaps = tt; begins = tt; unended = λ before after is. absurd (nothing_behind before after 59 is); within = omega arith; short = λ _. refl }

-- bytes that end no unit are a rest
pub rest_of : {bs kept : List ℕ} → Holds bs kept → IsRest bs
rest_of {kept = kept} h = record { gaps = h.gaps; text = kept ++ h.more; split = h.split; are_gaps = h.are_gaps; begins = h.begins; unended = h.unended }

module _ (bs kept : List ℕ) (h : Holds bs kept) where
  -- the ; that ends the unit
  ended : ends_behind (kept ++ h.more) ≡ true → IsUnit (bs ++ 59 ∷ []) (unit_of (kept ++ h.more))
  ended ends = record {
    gaps = h.gaps;
    text = kept ++ h.more;
    split = ap (λ (l : List ℕ). l ++ 59 ∷ []) h.split;
    are_gaps = h.are_gaps;
    begins = h.begins;
    unended = h.unended;
    ends = ends;
    is = refl;
  }

  pub ends_whole : length kept < 2048 → ends_behind kept ≡ true → IsUnit (bs ++ 59 ∷ []) (whole kept)
  ends_whole lt ends =
      let none = h.short lt in
      let is : (kept ++ h.more) ≡ kept = ap (λ (l : List ℕ). kept ++ l) none ∙ append-nil kept in
      let short : nat_lt (length kept) 2048 ≡ true = grind (arith, nat_tests) in
      let unit = subst (λ (l : List ℕ). IsUnit (bs ++ 59 ∷ []) (unit_of l)) is (ended (subst (λ (l : List ℕ). ends_behind l ≡ true) (sym is) ends)) in
      rw short at unit

  pub ends_long : 2048 ≤ length kept → ends_behind (kept ++ h.more) ≡ true → IsUnit (bs ++ 59 ∷ []) too_long
  ends_long le ends =
      let long : nat_lt (length (kept ++ h.more)) 2048 ≡ false = grind (arith, nat_tests, common_steps) in
      rw long at (ended ends)

  -- a byte that falls away
  pub holds_gap : (b : ℕ) → kept ≡ [] → is_gap b ≡ true → Holds (bs ++ b ∷ []) []
  unfolding holds_none
  holds_gap b is gap =
      let none : h.more ≡ [] = h.short (omega (arith, ap length is)) in
      let split : bs ≡ h.gaps = h.split ∙ ap₂ (λ (k m : List ℕ). h.gaps ++ (k ++ m)) is none ∙ append-nil h.gaps in
      record {
        gaps = h.gaps ++ b ∷ [];
        more = [];
        split = ap (λ (l : List ℕ). l ++ b ∷ []) split ∙ sym (append-nil (h.gaps ++ b ∷ []));
        are_gaps = gaps_more h.gaps b h.are_gaps gap;
        begins = tt;
        unended = holds_none.unended;
        within = omega arith;
        short = λ _. refl;
      }

  -- a byte that is kept
  pub holds_kept : (b : ℕ) → length kept < 2048 → (kept ≡ [] → is_gap b ≡ false) → (b ≡ 59 → ends_behind kept ≡ false) → Holds (bs ++ b ∷ []) (kept ++ b ∷ [])
  holds_kept b lt gap unended =
      let none : h.more ≡ [] = h.short lt in
      let is : (kept ++ h.more) ≡ kept = ap (λ (l : List ℕ). kept ++ l) none ∙ append-nil kept in
      let same : (kept ++ b ∷ []) ++ [] ≡ kept ++ b ∷ [] = append-nil (kept ++ b ∷ []) in
      record {
        gaps = h.gaps;
        more = [];
        split = ap (λ (l : List ℕ). l ++ b ∷ []) (h.split ∙ ap (λ (l : List ℕ). h.gaps ++ l) is) ∙ append_assoc h.gaps kept (b ∷ []) ∙ ap (λ (l : List ℕ). h.gaps ++ l) (sym same);
        are_gaps = h.are_gaps;
        begins = subst Begins (sym same) (begins_more kept b (subst Begins is h.begins) gap);
        unended = subst IsOpen (sym same) (open_more kept b (subst IsOpen is h.unended) unended);
        within = omega (arith, length-append kept (b ∷ []));
        short = λ _. refl;
      }

  -- a byte past the limit
  pub holds_past : (b : ℕ) → 2048 ≤ length kept → (b ≡ 59 → ends_behind (kept ++ h.more) ≡ false) → Holds (bs ++ b ∷ []) kept
  holds_past b le unended =
      let joined : kept ++ (h.more ++ b ∷ []) ≡ (kept ++ h.more) ++ b ∷ [] = sym (append_assoc kept h.more (b ∷ [])) in
      record {
        gaps = h.gaps;
        more = h.more ++ b ∷ [];
        split = ap (λ (l : List ℕ). l ++ b ∷ []) h.split ∙ append_assoc h.gaps (kept ++ h.more) (b ∷ []) ∙ ap (λ (l : List ℕ). h.gaps ++ l) (append_assoc kept h.more (b ∷ []));
        are_gaps = h.are_gaps;
        begins = subst Begins (sym joined) (begins_more (kept ++ h.more) b h.begins (λ none. absurd (omega (arith, ap length none, length-append kept h.more))));
        unended = subst IsOpen (sym joined) (open_more (kept ++ h.more) b h.unended unended);
        within = h.within;
        short = λ lt. absurd (omega (arith, lt, le));
      }

swap : (s t q r : Bool) → r ≡ (if t then not q else q) → (if s then not r else r) ≡ (if t then not (if s then not q else q) else (if s then not q else q))
swap true true q r is = ap not is
swap true false q r is = ap not is
swap false true q r is = is
swap false false q r is = is

-- quotes with one byte more
pub quoted_more : (text : List ℕ) (b : ℕ) → is_quoted (text ++ b ∷ []) ≡ (if b == 34 then not (is_quoted text) else is_quoted text)
quoted_more [] b = refl
quoted_more (t ∷ text) b = swap (t == 34) (b == 34) (is_quoted text) _ (quoted_more text b)

flip : (q t : Bool) → not (beq q t) ≡ (if t then not q else q)
flip true true = refl
flip true false = refl
flip false true = refl
flip false false = refl

-- after fewer bytes than the limit a ; inside quotes ends nothing
pub stays_quoted : (text : List ℕ) → length text < 2048 → is_quoted text ≡ true → ends_behind text ≡ false
stays_quoted text lt is =
    let short : nat_lt (length text) 2048 ≡ true = grind (arith, nat_tests) in
    rw (short, is) (refl)

pub quoted_next : (text : List ℕ) (b : ℕ) (q : Bool) → q ≡ is_quoted text → not (beq q (b == 34)) ≡ is_quoted (text ++ b ∷ [])
quoted_next text b q is = rw is (flip (is_quoted text) (b == 34) ∙ sym (quoted_more text b))
