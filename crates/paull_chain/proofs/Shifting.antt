-- Legs of one middle that are moved to another, where it is free for each of them.
use Rattle.std.proofs.Common.{◌≡◌, ◌≢◌, ◌⊎◌, ℕ, ◌<◌, ◌≤◌, List, [], ◌∷◌, length, sym, refl, ap, ◌∙◌, inl, inr, subst, ⊎_elim}
use Rattle.dxc_num.specs.declared.port.Leg.{Leg}
use Rattle.paull_matrix.proofs.Legs.{same_leg, held_here, held_else, held_before, out_low, with_leg_proper}
use Rattle.dxc_num.specs.Dimensions.{IsInside}
use Rattle.paull_chain.specs.Exchanges.{shifts}
use Rattle.paull_chain.specs.Paull.{Among, AreDifferent}
use Rattle.paull_chain.specs.Works.{AreValidMoves, after}
use Rattle.paull_matrix.specs.Colourings.{Colouring, Holds, IsFreeFor, IsProperColouring, module_on, with_leg}

pub record Shifted (c d : Colouring) (ls : List Leg) (t : ℕ) : Type 0 where
  pub proper : IsProperColouring d
  pub shape : d.shape ≡ c.shape
  pub there : (x : Leg) → Among x ls → Holds d x t
  pub kept : (x : Leg) (q : ℕ) → Holds c x q → (Among x ls → ⊥) → Holds d x q
  pub origin : (x : Leg) (q : ℕ) → Holds d x q → (Among x ls × (q ≡ t)) ⊎ ((Among x ls → ⊥) × Holds c x q)

pub shift : (c : Colouring) (ls : List Leg) (k t : ℕ) → IsProperColouring c → AreDifferent ls → t ≤ c.shape.slots → ((l : Leg) → Among l ls → Holds c l k) → ((l : Leg) → Among l ls → IsFreeFor c l t)
    → AreValidMoves (shifts ls k t) c × Shifted c (after (shifts ls k t) c) ls t
shift c [] k t p d le held free = (tt, record { proper = p; shape = refl; there = λ x h. absurd h; kept = λ x q h no. h; origin = λ x q h. inr ((λ z. z), h) })
shift c (l ∷ ls) k t p d le held free =
    let here : Holds c l k = held l (inl refl) in
    let inside : IsInside c.shape l = (p.inside l k here).0 in
    let low : l.output.0 < length c.routes = out_low c l p inside in
    let b : Colouring = with_leg l t c in
    let proper : IsProperColouring b = with_leg_proper c l t p inside le (free l (inl refl)) (λ x q h e. ap (λ (o : Leg). o.output.0) (p.inputs x l q k h here e)) in
    let ih = shift b ls k t proper d.1 le
    (λ x h. held_else c l x t k (d.0 x h) (held x (inr h)))
    (λ x h s y g e. ⊎_elim
    (λ (u : (y ≡ l) × (t ≡ t)). d.0 x h (ap (λ (o : Leg). o.output.0) (p.apart s k x l (held x (inr h)) here (sym e ∙ ap (module_on c.shape s) u.0))))
    (λ (u : (y.output.0 ≢ l.output.0) × Holds c y t). free x (inr h) s y u.1 e)
    (held_before c l y t t low g)) in
    let r = ih.1 in (
      (here, le, free l (inl refl), ih.0),
      record {
        proper = r.proper;
        shape = r.shape;
        there = λ x h. ⊎_elim
            (λ (e : l ≡ x). subst (λ (o : Leg). Holds (after (shifts ls k t) b) o t) e (r.kept l t (held_here c l t low) (λ h. d.0 l h refl)))
            (λ (h : Among x ls). r.there x h) h;
        kept = λ x q h no. r.kept x q (held_else c l x t q (λ e. no (inl (sym (same_leg c x l q k h here e).0))) h) (λ h. no (inr h));
        origin = λ x q h. ⊎_elim
            (λ (u : Among x ls × (q ≡ t)). inl (inr u.0, u.1))
            (λ (u : (Among x ls → ⊥) × Holds b x q). ⊎_elim
            (λ (v : (x ≡ l) × (q ≡ t)). inl (inl (sym v.0), v.1))
            (λ (v : (x.output.0 ≢ l.output.0) × Holds c x q). inr (⊎_elim (λ (e : l ≡ x). v.0 (ap (λ (o : Leg). o.output.0) (sym e))) u.0, v.1))
            (held_before c l x t q low u.1))
            (r.origin x q h);
      },
    )
