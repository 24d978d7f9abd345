-- How a place's pass is kept over its turns.
use Rattle.std.proofs.Common.{◌≡◌, ◌<◌, ℕ, true, false, List, [], ◌∷◌, ◌++◌, map, length, append-nil, append_assoc, sym, ◌∙◌, ap, subst}
use Rattle.std.proofs.lemmas.List.{map-append}
use base.Stored.{Gv}
use Rattle.turnstile.specs.Dating.{GoOn, newest, stamp}
use Rattle.turnstile.specs.Passing.{Out, Token, TurnstileView}
use Rattle.turnstile.specs.Places.{AreNumberedBy, HasPassBy, KeepsPassBy}
use Rattle.turnstile.specs.Turning.{Found, SeesOn}
use Rattle.turnstile.proofs.Going.{as_many_on, goes_more, goes_none, went_back, went_on}

-- what a turn finds begins with what had been seen
pub found_more : {X E O : Type 0} {code : E → Gv} {opening : X → O} {number : E → ℕ} {stands : X → List E → Type 0} {own passes : ℕ} {o : O} {seen then_seen : List Gv} {x : X}
    → Found code opening number stands own passes o seen x then_seen → (more : List Gv) × (then_seen ≡ seen ++ more)
found_more {X} {E} {O} {code} {opening} {number} {stands} {own} {passes} {o} {seen} {then_seen} {x} f = (map code f.later, f.after ∙ (map-append code f.begun f.later ∙ ap (λ (s : List Gv). s ++ map code f.later) (sym f.before)))

module _ {E : Type 0} (codes : List E → List Gv) (place : E → ℕ) {X : Type 0} (t : TurnstileView X) (p m q : Token) (turn : Out X) where
  -- by what it was before, while its turn was out, and when it came back
  keeps : HasPassBy codes place t p → turn.own ≡ p.number → (m.number ≡ p.number) × (m.free ≡ false) × (m.heard ≡ p.heard) → (q.free ≡ true) × (q.id ≡ t.id) × (q.number ≡ m.number) → q.heard ≡ m.heard
      → GoOn turn.own m.heard p.stamps q.stamps → (more : List Gv) × (q.seen ≡ p.seen ++ more) → length q.stamps ≡ length q.seen → AreNumberedBy codes place t.passes q.seen → KeepsPassBy codes place t p q
  keeps pass own out back heard on sees as_many numbered =
      let number : q.number ≡ p.number = back.2 ∙ out.0 in record {
        has = (back.0, back.1, subst (λ (n : ℕ). n < t.passes) (sym number) pass.2, numbered, as_many);
        goes = record { same = (number, heard ∙ out.2); dates = subst (λ (x : ℕ × ℕ). GoOn x.0 x.1 p.stamps q.stamps) (λ i. (own i, out.2 i)) on };
        sees = sees;
      }

  -- with an entry
  pub left_pass : (e : Gv) → HasPassBy codes place t p → turn.own ≡ p.number → (more : List Gv) × (turn.seen ≡ p.seen ++ more) → SeesOn turn.own p.stamps turn.stamps turn.seen → (m.number ≡ p.number) × (m.free ≡ false) × (m.heard ≡ p.heard)
      → (q.free ≡ true) × (q.id ≡ t.id) × (q.number ≡ m.number) → q.heard ≡ m.heard
      → ((d : ℕ) × (q.stamps ≡ turn.stamps ++ stamp d turn.own ∷ []) × (newest turn.stamps < d) × (m.heard < d)) → q.seen ≡ turn.seen ++ e ∷ [] → AreNumberedBy codes place t.passes q.seen → KeepsPassBy codes place t p q
  left_pass e pass own before found out back heard d seen numbered = keeps pass own out back heard (went_on turn.own m.heard p.stamps turn.stamps q.stamps d.0 found.front d.1 d.3)
      (before.0 ++ e ∷ [], seen ∙ (ap (λ (s : List Gv). s ++ e ∷ []) before.1 ∙ append_assoc p.seen before.0 (e ∷ [])))
      (as_many_on turn.stamps q.stamps turn.seen q.seen (stamp d.0 turn.own) e found.as_many d.1 seen) numbered

  -- with none
  pub back_pass : HasPassBy codes place t p → turn.own ≡ p.number → (more : List Gv) × (turn.seen ≡ p.seen ++ more) → SeesOn turn.own p.stamps turn.stamps turn.seen → (m.number ≡ p.number) × (m.free ≡ false) × (m.heard ≡ p.heard)
      → (q.free ≡ true) × (q.id ≡ t.id) × (q.number ≡ m.number) → q.heard ≡ m.heard → q.stamps ≡ turn.stamps → q.seen ≡ turn.seen → AreNumberedBy codes place t.passes q.seen → KeepsPassBy codes place t p q
  back_pass pass own before found out back heard stamps seen numbered = keeps pass own out back heard (went_back turn.own m.heard p.stamps turn.stamps q.stamps found.front stamps) (before.0, seen ∙ before.1)
      (ap length stamps ∙ (found.as_many ∙ sym (ap length seen))) numbered

module _ {E : Type 0} (codes : List E → List Gv) (place : E → ℕ) {X : Type 0} (t : TurnstileView X) where
  -- without a turn
  pub kept_pass : (p : Token) → HasPassBy codes place t p → KeepsPassBy codes place t p p
  kept_pass p has = record { has = has; goes = goes_none p; sees = ([], sym (append-nil p.seen)) }

  -- over turns after others
  pub keeps_more : (p q r : Token) → KeepsPassBy codes place t p q → KeepsPassBy codes place t q r → KeepsPassBy codes place t p r
  keeps_more p q r first next = record {
    has = next.has;
    goes = goes_more p q r first.goes next.goes;
    sees = (first.sees.0 ++ next.sees.0, next.sees.1 ∙ (ap (λ (s : List Gv). s ++ next.sees.0) first.sees.1 ∙ append_assoc p.seen first.sees.0 next.sees.0));
  }
