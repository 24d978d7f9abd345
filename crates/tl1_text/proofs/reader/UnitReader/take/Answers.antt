use Rattle.std.proofs.Common.{◌≡◌, ℕ, List, [], ◌∷◌, ◌++◌, true, false, Bool, sym, refl, subst, ap, ◌∙◌}
use Rattle.tl1_text.specs.declared.reader.UnitKind.{UnitKind}
use Rattle.tl1_text.specs.declared.reader.UnitKind.TheVariants.{Whole, TooLong, More}
use Rattle.tl1_text.specs.Reading.{Holds, IsKind, Reader, hand, Made}
use Rattle.tl1_text.proofs.reader.UnitReader.take.Goals as goal
use Rattle.tl1_text.proofs.reader.UnitReader.take.Goals.{in-More, in_default}

made : (bs kept : List ℕ) (kind : UnitKind) (ended : Bool) → IsKind bs kind kept → (kind ≡ More → ended ≡ false) → ((kind ≡ More → ⊥) → ended ≡ true) → Made bs kind (record { kept = kept; ended = ended })
made bs kept Whole ended is more not = (is, rw (not (λ e. cc)) (refl))
made bs kept TooLong ended is more not = (is, rw (not (λ e. cc)) (refl))
made bs kept More ended is more not = rw (more refl) (is)

pub returns-clause-made : goal.returns-clause-made
returns-clause-made c =
    let kept : c.self.inside.kept ≡ hand c.args.self.now = ap (λ (r : Reader). r.kept) (c.self.view_is ∙ c.begin.ensures) in
    let more : c.keep-unit.result ≡ More → c.match-matches.matches ≡ true = λ is. elim c.match-matches.branch [ in-More w ↦ w.matches-is | in_default w ↦ absurd (w.in_default.not-More is) ] in
    let not : (c.keep-unit.result ≡ More → ⊥) → c.match-matches.matches ≡ false = λ is. elim c.match-matches.branch [ in-More w ↦ absurd (is w.in-More.is) | in_default w ↦ w.matches-is ] in
    λ bs holds. made (bs ++ c.args.b ∷ []) _ c.keep-unit.result _ (c.keep-unit.ensures.made bs (subst (λ (l : List ℕ). Holds bs l) (sym kept) holds)) (λ is. rw (more is) (refl)) (λ is. rw (not is) (refl))
