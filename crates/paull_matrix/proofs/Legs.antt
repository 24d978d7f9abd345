-- Legs that are held, put and taken out.
use Rattle.std.proofs.Common.{◌≡◌, ◌≢◌, ◌⊎◌, ℕ, zero, suc, ◌*◌, ◌<◌, ◌≤◌, length, sym, ap, ◌∙◌, inl, inr, subst, ⊎_elim, arith, Some, None, get_or-set_same, get_or-set_other, length-set}
use mathlib.Core.Logic.{dite}
use native.Mathlib.Decide.{ℕ_discrete}
use Rattle.std.proofs.Math.Nat.{div-lt_iff_lt-mul, mul-zero}
use Rattle.dxc_num.specs.declared.port.Leg.{Leg}
use Rattle.dxc_num.specs.Dimensions.{Dimensions, IsInside, leg, route}
use Rattle.dxc_num.specs.declared.port.Route.{Route}
use Rattle.paull_matrix.specs.declared.side.Side.{Side}
use Rattle.paull_matrix.specs.declared.side.Side.TheVariants.{Row, Column}
use Rattle.paull_matrix.specs.Colourings.{Colouring, route_at, Holds, module_on, IsFree, IsFreeFor, IsProperColouring, with_leg, without_leg}

-- where there is a port, a module has slots
some_slots : (m n x : ℕ) → x < m * n → 0 < n
some_slots m zero x h = let z : x < 0 = subst (λ (w : ℕ). x < w) (mul-zero m) h in absurd (omega arith)
some_slots m (suc n) x h = omega arith

pub slots_of_inside : (d : Dimensions) (l : Leg) → IsInside d l → 0 < d.slots
slots_of_inside d l i = some_slots d.modules d.slots l.input.0 i.input

pub module_low : (d : Dimensions) (s : Side) (l : Leg) → IsInside d l → module_on d s l < d.modules
module_low d Row l i = (div-lt_iff_lt-mul (slots_of_inside d l i)).1 i.input
module_low d Column l i = (div-lt_iff_lt-mul (slots_of_inside d l i)).1 i.output

pub some_route : {a b : Route} → Some a ≡ Some b → a ≡ b
some_route e = cc

-- two legs to one output are one
pub same_leg : (c : Colouring) (l x : Leg) (k q : ℕ) → Holds c l k → Holds c x q → l.output.0 ≡ x.output.0 → (l ≡ x) × (k ≡ q)
same_leg c l x k q h g e = let w : route l.input.0 k ≡ route x.input.0 q = some_route (sym h ∙ (ap (route_at c) e ∙ g)) in ((λ i. leg ((w i).input.0) (e i)), ap (λ (v : Route). v.middle.0) w)

-- what is held after one leg was put on a middle
pub held_here : (c : Colouring) (l : Leg) (k : ℕ) → l.output.0 < length c.routes → Holds (with_leg l k c) l k
held_here c l k h = get_or-set_same c.routes l.output.0 (Some (route l.input.0 k)) None h

pub held_else : (c : Colouring) (l x : Leg) (k q : ℕ) → x.output.0 ≢ l.output.0 → Holds c x q → Holds (with_leg l k c) x q
held_else c l x k q other h = get_or-set_other c.routes l.output.0 x.output.0 (Some (route l.input.0 k)) None other ∙ h

pub held_before : (c : Colouring) (l x : Leg) (k q : ℕ) → l.output.0 < length c.routes → Holds (with_leg l k c) x q → ((x ≡ l) × (q ≡ k)) ⊎ ((x.output.0 ≢ l.output.0) × Holds c x q)
held_before c l x k q low h = dite (ℕ_discrete x.output.0 l.output.0)
    (λ e. inl (same_leg (with_leg l k c) x l q k h (held_here c l k low) e))
    (λ e. inr (e, sym (get_or-set_other c.routes l.output.0 x.output.0 (Some (route l.input.0 k)) None e) ∙ h))

pub out_low : (c : Colouring) (l : Leg) → IsProperColouring c → IsInside c.shape l → l.output.0 < length c.routes
out_low c l p i = let n = p.size in let b = i.output in omega arith

-- a leg may be put where its middle is free
pub with_leg_proper : (c : Colouring) (l : Leg) (k : ℕ) → IsProperColouring c → IsInside c.shape l → k ≤ c.shape.slots → IsFreeFor c l k
    → ((x : Leg) (q : ℕ) → Holds c x q → x.input.0 ≡ l.input.0 → x.output.0 ≡ l.output.0) → IsProperColouring (with_leg l k c)
with_leg_proper c l k p i le free alone = record {
  size = length-set c.routes l.output.0 _ ∙ p.size;
  inside = λ x q h. ⊎_elim
      (λ (e : (x ≡ l) × (q ≡ k)). (subst (IsInside c.shape) (sym e.0) i, (let d = e.1 in omega arith)))
      (λ (e : (x.output.0 ≢ l.output.0) × Holds c x q). p.inside x q e.1)
      (held_before c l x k q low h);
  apart = λ s q x y h g e. ⊎_elim
      (λ (u : (x ≡ l) × (q ≡ k)). ⊎_elim
      (λ (v : (y ≡ l) × (q ≡ k)). u.0 ∙ sym v.0)
      (λ (v : (y.output.0 ≢ l.output.0) × Holds c y q). absurd (free s y (subst (Holds c y) u.1 v.1) (sym e ∙ ap (module_on c.shape s) u.0)))
      (held_before c l y k q low g))
      (λ (u : (x.output.0 ≢ l.output.0) × Holds c x q). ⊎_elim
      (λ (v : (y ≡ l) × (q ≡ k)). absurd (free s x (subst (Holds c x) v.1 u.1) (e ∙ ap (module_on c.shape s) v.0)))
      (λ (v : (y.output.0 ≢ l.output.0) × Holds c y q). p.apart s q x y u.1 v.1 e)
      (held_before c l y k q low g))
      (held_before c l x k q low h);
  inputs = λ x y q r h g e. ⊎_elim
      (λ (u : (x ≡ l) × (q ≡ k)). ⊎_elim
      (λ (v : (y ≡ l) × (r ≡ k)). u.0 ∙ sym v.0)
      (λ (v : (y.output.0 ≢ l.output.0) × Holds c y r). absurd (v.0 (alone y r v.1 (sym e ∙ ap (λ (o : Leg). o.input.0) u.0))))
      (held_before c l y k r low g))
      (λ (u : (x.output.0 ≢ l.output.0) × Holds c x q). ⊎_elim
      (λ (v : (y ≡ l) × (r ≡ k)). absurd (u.0 (alone x q u.1 (e ∙ ap (λ (o : Leg). o.input.0) v.0))))
      (λ (v : (y.output.0 ≢ l.output.0) × Holds c y r). p.inputs x y q r u.1 v.1 e)
      (held_before c l y k r low g))
      (held_before c l x k q low h);
}
  where
    low : l.output.0 < length c.routes
    low = out_low c l p i

pub none_some : {w : Route} → None ≡ Some w → ⊥
none_some e = cc

-- what is held after one leg was taken out
pub held_less : (c : Colouring) (l x : Leg) (q : ℕ) → x.output.0 ≢ l.output.0 → Holds c x q → Holds (without_leg l c) x q
held_less c l x q other h = get_or-set_other c.routes l.output.0 x.output.0 None None other ∙ h

pub held_rest : (c : Colouring) (l x : Leg) (q : ℕ) → l.output.0 < length c.routes → Holds (without_leg l c) x q → (x.output.0 ≢ l.output.0) × Holds c x q
held_rest c l x q low h = let no : x.output.0 ≢ l.output.0 = (λ e. none_some (sym (get_or-set_same c.routes l.output.0 None None low) ∙ (ap (route_at (without_leg l c)) (sym e) ∙ h))) in
    (no, sym (get_or-set_other c.routes l.output.0 x.output.0 None None no) ∙ h)

pub without_leg_proper : (c : Colouring) (l : Leg) → IsProperColouring c → l.output.0 < length c.routes → IsProperColouring (without_leg l c)
without_leg_proper c l p low = record {
  size = length-set c.routes l.output.0 _ ∙ p.size;
  inside = λ x q h. p.inside x q (held_rest c l x q low h).1;
  apart = λ s q x y h g e. p.apart s q x y (held_rest c l x q low h).1 (held_rest c l y q low g).1 e;
  inputs = λ x y q r h g e. p.inputs x y q r (held_rest c l x q low h).1 (held_rest c l y r low g).1 e;
}

pub both_sides : (c : Colouring) (l : Leg) (k : ℕ) → IsFree c Row (module_on c.shape Row l) k → IsFree c Column (module_on c.shape Column l) k → IsFreeFor c l k
both_sides c l k f g Row = f
both_sides c l k f g Column = g
