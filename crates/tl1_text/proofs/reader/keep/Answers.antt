use Rattle.std.proofs.Common.{rules, ◌≡◌, ◌<◌, ℕ, List, [], ◌∷◌, ◌++◌, length, true, arith, sym, subst, ◌∙◌}
use Rattle.std.proofs.lemmas.Bool.Decides.{nat_tests}
use Rattle.tl1_text.specs.Units.{is_gap}
use Rattle.tl1_text.specs.Reading.{Holds}
use Rattle.tl1_text.proofs.Steps.{holds_gap, holds_kept, holds_past, stays_quoted, quoted_next}
use Rattle.tl1_text.proofs.reader.keep.Goals as goal
use Rattle.tl1_text.proofs.reader.keep.Goals.{else-is_empty-via-then-is_empty+else-is_gap, else-is_empty-via-else-is_empty, else-b-eq59-2-via-then-b-eq59-2+else-not-quoted, else-b-eq59-2-via-else-b-eq59-2}

pub returns-else-b-eq59-clause-made : goal.returns-else-b-eq59-clause-made
returns-else-b-eq59-clause-made c = λ bs holds. holds_past _ _ holds c.args.b (omega arith) (λ is. absurd (c.if-b-eq59.false is))

pub returns-then-is_gap-clause-made : goal.returns-then-is_gap-clause-made
returns-then-is_gap-clause-made c = λ bs holds.
    let none : c.args.kept.now ≡ [] = search rules in
    let gap : is_gap c.args.b ≡ true = search rules in
    let held = holds_gap _ _ holds c.args.b none gap in
    subst (λ (l : List ℕ). Holds (bs ++ c.args.b ∷ []) l) (sym none) held

pub returns-clause-made : goal.returns-clause-made
returns-clause-made c = λ bs holds.
    let lt : length c.args.kept.now < 2048 = omega (arith, holds.within) in
    let held = holds_kept _ _ holds c.args.b lt
    (λ none. elim c.else-is_empty.branch [ else-is_empty-via-then-is_empty+else-is_gap w ↦ sym w.is_gap.ensures ∙ w.if-is_gap.false | else-is_empty-via-else-is_empty w ↦ grind (arith, nat_tests, none, w.if-is_empty.false, c.is_empty.ensures) ])
    (λ is. elim c.else-b-eq59-2.branch [ else-b-eq59-2-via-then-b-eq59-2+else-not-quoted w ↦ stays_quoted c.args.kept.now lt (sym c.requires ∙ (search rules)) | else-b-eq59-2-via-else-b-eq59-2 w ↦ absurd (w.if-b-eq59-2.false is) ]) in
    subst (λ (l : List ℕ). Holds (bs ++ c.args.b ∷ []) l) (sym c.push.ensures.items) held

pub returns-clause-quoted : goal.returns-clause-quoted
returns-clause-quoted c = λ _. rw c.push.ensures.items (quoted_next c.args.kept.now c.args.b c.args.quoted.now c.requires)
