-- The units of a list of bytes are determined, however it was cut.
use Rattle.std.proofs.Common.{◌≡◌, ℕ, List, [], ◌∷◌, ◌++◌, refl, sym, ◌∙◌, ap, ap₂, subst, append_assoc, inl, inr, ◌⊎◌}
use Rattle.std.proofs.lemmas.List.{append-nil}
use Rattle.std.proofs.lemmas.Bool.{false≢true}
use Rattle.tl1_text.specs.Units.{Input, is_gap, AreGaps, Begins, unit_of, IsUnit, IsRest, Units, none, more, IsStream}

tail_is : {a b : ℕ} {xs ys : List ℕ} → a ∷ xs ≡ b ∷ ys → (a ≡ b) × (xs ≡ ys)
tail_is e = (cc, cc)

-- the bytes that fall away are determined
gaps_once : (g h s t : List ℕ) → AreGaps g → AreGaps h → Begins s → Begins t → g ++ s ≡ h ++ t → (g ≡ h) × (s ≡ t)
gaps_once [] [] s t ag ah bs bt e = (refl, e)
gaps_once [] (y ∷ h) [] t ag ah bs bt e = cc
gaps_once [] (y ∷ h) (x ∷ s) t ag ah bs bt e = absurd (false≢true (sym bs ∙ ap is_gap (tail_is e).0 ∙ ah.0))
gaps_once (x ∷ g) [] s [] ag ah bs bt e = cc
gaps_once (x ∷ g) [] s (y ∷ t) ag ah bs bt e = absurd (false≢true (sym bt ∙ ap is_gap (sym (tail_is e).0) ∙ ag.0))
gaps_once (x ∷ g) (y ∷ h) s t ag ah bs bt e =
    let parts = tail_is e in
    let rest = gaps_once g h s t ag.1 ah.1 bs bt parts.1 in
    (ap₂ (λ (a : ℕ) (l : List ℕ). a ∷ l) parts.0 rest.0, rest.1)

-- two texts before a ; are equal, or one goes on after the other's ;
apart : (a b x y : List ℕ) → a ++ 59 ∷ x ≡ b ++ 59 ∷ y → ((a ≡ b) × (x ≡ y)) ⊎ (((m : List ℕ) × (b ≡ a ++ 59 ∷ m)) ⊎ ((m : List ℕ) × (a ≡ b ++ 59 ∷ m)))
apart [] [] x y e = inl (refl, (tail_is e).1)
apart [] (c ∷ b) x y e = inr (inl (b, ap (λ (n : ℕ). n ∷ b) (sym (tail_is e).0)))
apart (c ∷ a) [] x y e = inr (inr (a, ap (λ (n : ℕ). n ∷ a) (tail_is e).0))
apart (c ∷ a) (d ∷ b) x y e =
    let parts = tail_is e in
    elim (apart a b x y parts.1) [
      | inl h ↦ inl (ap₂ (λ (n : ℕ) (l : List ℕ). n ∷ l) parts.0 h.0, h.1)
      | inr h ↦ elim h [
        | inl m ↦ inr (inl (m.0, ap₂ (λ (n : ℕ) (l : List ℕ). n ∷ l) (sym parts.0) m.1))
        | inr m ↦ inr (inr (m.0, ap₂ (λ (n : ℕ) (l : List ℕ). n ∷ l) parts.0 m.1))
      ]
    ]

begins_before : (text x : List ℕ) → Begins text → Begins (text ++ 59 ∷ x)
begins_before [] x b = refl
begins_before (t ∷ text) x b = b

joined : (gaps text x : List ℕ) → (gaps ++ text ++ 59 ∷ []) ++ x ≡ gaps ++ (text ++ 59 ∷ x)
joined gaps text x = append_assoc (gaps ++ text) (59 ∷ []) x ∙ append_assoc gaps text (59 ∷ x)

-- the first unit is determined
pub unit_once : (c d x y : List ℕ) (u v : Input) → IsUnit c u → IsUnit d v → c ++ x ≡ d ++ y → (u ≡ v) × (x ≡ y)
unit_once c d x y u v first second e =
    let whole = sym (ap (λ (l : List ℕ). l ++ x) first.split ∙ joined first.gaps first.text x) ∙ e ∙ ap (λ (l : List ℕ). l ++ y) second.split ∙ joined second.gaps second.text y in
    let texts = gaps_once first.gaps second.gaps (first.text ++ 59 ∷ x) (second.text ++ 59 ∷ y) first.are_gaps second.are_gaps (begins_before first.text x first.begins) (begins_before second.text y second.begins) whole in
    elim (apart first.text second.text x y texts.1) [
      | inl h ↦ (first.is ∙ ap unit_of h.0 ∙ sym second.is, h.1)
      | inr h ↦ elim h [
        | inl m ↦ absurd (false≢true (sym (second.unended first.text m.0 m.1) ∙ first.ends))
        | inr m ↦ absurd (false≢true (sym (first.unended second.text m.0 m.1) ∙ second.ends))
      ]
    ]

-- a rest begins with no unit
pub rest_alone : (r d y : List ℕ) (v : Input) → IsRest r → IsUnit d v → r ≡ d ++ y → ⊥
rest_alone r d y v rest second e =
    let whole = sym rest.split ∙ e ∙ ap (λ (l : List ℕ). l ++ y) second.split ∙ joined second.gaps second.text y in
    let texts = gaps_once rest.gaps second.gaps rest.text (second.text ++ 59 ∷ y) rest.are_gaps second.are_gaps rest.begins (begins_before second.text y second.begins) whole in
    false≢true (sym (rest.unended second.text y texts.1) ∙ second.ends)

-- the same units, from the first on
data Firsts : List ℕ → List Input → Type 0 where
  no_unit : Firsts [] []
  one_more : (c b : List ℕ) (u : Input) (us : List Input) → IsUnit c u → Firsts b us → Firsts (c ++ b) (u ∷ us)

firsts_push : (b : List ℕ) (us : List Input) → Firsts b us → (c : List ℕ) (u : Input) → IsUnit c u → Firsts (b ++ c) (us ++ u ∷ [])
firsts_push _ _ no_unit c u is = subst (λ (l : List ℕ). Firsts l (u ∷ [])) (append-nil c) (one_more c [] u [] is no_unit)
firsts_push _ _ (one_more a b v us first rest) c u is = subst (λ (l : List ℕ). Firsts l (v ∷ us ++ u ∷ [])) (sym (append_assoc a b c)) (one_more a (b ++ c) v (us ++ u ∷ []) first (firsts_push b us rest c u is))

firsts_of : (b : List ℕ) (us : List Input) → Units b us → Firsts b us
firsts_of _ _ none = no_unit
firsts_of _ _ (more bs chunk us u before is) = firsts_push bs us (firsts_of bs us before) chunk u is

firsts_once : (b : List ℕ) (us : List Input) → Firsts b us → (d : List ℕ) (vs : List Input) → Firsts d vs → (r s : List ℕ) → IsRest r → IsRest s → b ++ r ≡ d ++ s → (us ≡ vs) × (r ≡ s)
firsts_once _ _ no_unit _ _ no_unit r s rest other e = (refl, e)
firsts_once _ _ no_unit _ _ (one_more c d v vs is later) r s rest other e = absurd (rest_alone r c (d ++ s) v rest is (e ∙ append_assoc c d s))
firsts_once _ _ (one_more c b u us is later) _ _ no_unit r s rest other e = absurd (rest_alone s c (b ++ r) u other is (sym e ∙ append_assoc c b r))
firsts_once _ _ (one_more c b u us is later) _ _ (one_more c2 d v vs is2 later2) r s rest other e =
    let both = unit_once c c2 (b ++ r) (d ++ s) u v is is2 (sym (append_assoc c b r) ∙ e ∙ append_assoc c2 d s) in
    let after = firsts_once b us later d vs later2 r s rest other both.1 in
    (ap₂ (λ (w : Input) (l : List Input). w ∷ l) both.0 after.0, after.1)

-- bytes have one list of units and one rest
pub streams_once : (bs : List ℕ) (us vs : List Input) (r s : List ℕ) → IsStream bs us r → IsStream bs vs s → (us ≡ vs) × (r ≡ s)
streams_once bs us vs r s a b = firsts_once a.front us (firsts_of a.front us a.units) b.front vs (firsts_of b.front vs b.units) r s a.no_unit b.no_unit (sym a.split ∙ b.split)

-- units of one list of bytes and then of another
units_append : (a b : List ℕ) (us vs : List Input) → Units a us → Units b vs → Units (a ++ b) (us ++ vs)
units_append a _ us _ first none = subst (λ (l : List ℕ). Units l (us ++ [])) (sym (append-nil a)) (subst (λ (l : List Input). Units a l) (sym (append-nil us)) first)
units_append a _ us _ first (more bs chunk vs v before is) =
    subst (λ (l : List ℕ). Units l (us ++ (vs ++ v ∷ []))) (append_assoc a bs chunk) (subst (λ (l : List Input). Units ((a ++ bs) ++ chunk) l) (append_assoc us vs (v ∷ [])) (more (a ++ bs) chunk (us ++ vs) v (units_append a bs us vs first before) is))

-- the units of what follows continue those of what went before with its rest
pub streams_append : (a b : List ℕ) (us vs : List Input) (r s : List ℕ) → IsStream a us r → IsStream (r ++ b) vs s → IsStream (a ++ b) (us ++ vs) s
streams_append a b us vs r s first second = record {
  front = first.front ++ second.front;
  split = ap (λ (l : List ℕ). l ++ b) first.split ∙ append_assoc first.front r b ∙ ap (λ (l : List ℕ). first.front ++ l) second.split ∙ sym (append_assoc first.front second.front s);
  units = units_append first.front second.front us vs first.units second.units;
  no_unit = second.no_unit;
}
