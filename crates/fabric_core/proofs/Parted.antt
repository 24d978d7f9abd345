-- The parts of the rule, from the rule.
use Rattle.std.proofs.Common.{◌≡◌, ℕ, ◌+◌, ◌%◌, sym, refl, ap, ◌∙◌, inl, inr, subst, arith, Some}
use Rattle.dxc_num.specs.Dimensions.{module_of, slot_of, leg_between}
use Rattle.dxc_num.specs.declared.port.Port.{Port}
use Rattle.dxc_num.specs.declared.port.Leg.{Leg}
use Rattle.dxc_num.specs.declared.port.Middle.{Middle}
use Rattle.fabric_core.specs.declared.size.Size.{Size}
use Rattle.fabric_core.specs.declared.phase.Phase.{Phase}
use Rattle.fabric_core.specs.declared.phase.Phase.TheVariants.{Rest, InSet, MidSet, Old, Freed}
use Rattle.fabric_core.specs.declared.mover.Mover.{Mover}
use Rattle.fabric_core.specs.declared.worker.Hold.{Hold}
use Rattle.fabric_core.specs.declared.worker.Hold.TheVariants.{Empty, Output, Path}
use Rattle.fabric_core.specs.declared.worker.Worker.{Worker}
use Rattle.fabric_core.specs.Registers.{in_word, mid_word}
use Rattle.fabric_core.specs.State.{Core, IsSize, leg_at}
use Rattle.fabric_core.specs.Moving.{over}
use Rattle.fabric_core.specs.Laid.{IsOutOf, IsHalfLaid, IsPhaseLaid, IsLaidOut}
use Rattle.fabric_core.specs.Owned.{HasIn, HasMid}
use Rattle.fabric_core.specs.Rule.{IsHeld, IsNotedLast, IsHoldRuled}
use Rattle.fabric_core.specs.Parts.{Always, LegsAreLaid, PhaseNamesTheRest, UsesIn, UsesMid, ArePathsApart, IsOf, HoldsAreLegs, HoldsAreNoted, CarriedAsLogged}
use Rattle.fabric_core.proofs.Cells.{same_port_at}
use Rattle.fabric_core.proofs.Kept.{reached_ruled}
use Rattle.fabric_core.proofs.Moving.{clear_apart}

pub always_legs : Always LegsAreLaid
always_legs z es c s reached y w at = let r = (reached_ruled z es c s reached).1.mover.laid in let laid = r.leg_is y w at in
    (laid, subst (IsOutOf c.mover y) at (r.out_is y laid.inside.output))

pub always_phase : Always PhaseNamesTheRest
always_phase z es c s reached = let r = (reached_ruled z es c s reached).1.mover in (r.laid.phase_is, r.owned)

-- the path that the phase names, with the MID word that it has
half_of : (z : Size) (m : Mover) (p : Phase) (l : Leg) (k : Middle) → HasIn p l k → IsPhaseLaid z.shape m p → (q : ℕ) × IsHalfLaid z.shape m l k q
half_of z m Rest l k has laid = absurd has
half_of z m (InSet a b) l k has laid = (0, subst (λ (t : Leg × Middle). IsHalfLaid z.shape m t.0 t.1 0) (λ i. (has.0 i, has.1 i)) laid)
half_of z m (MidSet a b) l k has laid = (module_of z.shape l.input + 1, subst (λ (t : Leg × Middle). IsHalfLaid z.shape m t.0 t.1 (module_of z.shape t.0.input + 1)) (λ i. (has.0 i, has.1 i)) laid)
half_of z m (Old a b) l k has laid = (module_of z.shape l.input + 1, subst (λ (t : Leg × Middle). IsHalfLaid z.shape m t.0 t.1 (module_of z.shape t.0.input + 1)) (λ i. (has.0 i, has.1 i)) laid)
half_of z m (Freed a b) l k has laid = (0, subst (λ (t : Leg × Middle). IsHalfLaid z.shape m t.0 t.1 0) (λ i. (has.0 i, has.1 i)) laid)

mid_of : (z : Size) (m : Mover) (p : Phase) (l : Leg) (k : Middle) → HasMid p l k → IsPhaseLaid z.shape m p → IsHalfLaid z.shape m l k (module_of z.shape l.input + 1)
mid_of z m Rest l k has laid = absurd has
mid_of z m (InSet a b) l k has laid = absurd has
mid_of z m (MidSet a b) l k has laid = subst (λ (t : Leg × Middle). IsHalfLaid z.shape m t.0 t.1 (module_of z.shape t.0.input + 1)) (λ i. (has.0 i, has.1 i)) laid
mid_of z m (Old a b) l k has laid = subst (λ (t : Leg × Middle). IsHalfLaid z.shape m t.0 t.1 (module_of z.shape t.0.input + 1)) (λ i. (has.0 i, has.1 i)) laid
mid_of z m (Freed a b) l k has laid = absurd has

-- a phase names one path
one_in : (p : Phase) (l a : Leg) (k b : Middle) → HasIn p l k → HasIn p a b → l ≡ a
one_in Rest l a k b h g = absurd h
one_in (InSet x y) l a k b h g = sym h.0 ∙ g.0
one_in (MidSet x y) l a k b h g = sym h.0 ∙ g.0
one_in (Old x y) l a k b h g = sym h.0 ∙ g.0
one_in (Freed x y) l a k b h g = sym h.0 ∙ g.0

one_mid : (p : Phase) (l a : Leg) (k b : Middle) → HasMid p l k → HasMid p a b → l ≡ a
one_mid Rest l a k b h g = absurd h
one_mid (InSet x y) l a k b h g = absurd h
one_mid (MidSet x y) l a k b h g = sym h.0 ∙ g.0
one_mid (Old x y) l a k b h g = sym h.0 ∙ g.0
one_mid (Freed x y) l a k b h g = absurd h

module _ (z : Size) (m : Mover) (s : IsSize z) (r : IsLaidOut z m) where
  -- two established legs with one IN cell
  legs_in : (l a : Leg) (k : Middle) → leg_at m l.output ≡ Some (over l k) → leg_at m a.output ≡ Some (over a k) → module_of z.shape l.input ≡ module_of z.shape a.input → l ≡ a
  legs_in l a k at bt same =
      let x = (r.leg_is l.output (over l k) at).in_is in
      let y = (r.leg_is a.output (over a k) bt).in_is in
      let h : in_word z.shape m.registers (module_of z.shape l.input) k ≡ in_word z.shape m.registers (module_of z.shape a.input) k = ap (λ (i : ℕ). in_word z.shape m.registers i k) same in
      let slots : slot_of z.shape l.input ≡ slot_of z.shape a.input = omega arith in
      let e = same_port_at z.shape l.input a.input same slots in
      let f = r.apart l.output a.output (over l k) (over a k) at bt e in
      λ i. leg_between (e i) (f i)

  legs_mid : (l a : Leg) (k : Middle) → leg_at m l.output ≡ Some (over l k) → leg_at m a.output ≡ Some (over a k) → module_of z.shape l.output ≡ module_of z.shape a.output → l ≡ a
  legs_mid l a k at bt same =
      let x = (r.leg_is l.output (over l k) at).mid_is in
      let y = (r.leg_is a.output (over a k) bt).mid_is in
      let h : mid_word z.shape m.registers k (module_of z.shape l.output) ≡ mid_word z.shape m.registers k (module_of z.shape a.output) = ap (λ (j : ℕ). mid_word z.shape m.registers k j) same in
      legs_in l a k at bt (omega arith)

  -- an established leg and the path of the phase have no cell in common
  half_in : (l a : Leg) (k : Middle) → leg_at m l.output ≡ Some (over l k) → HasIn m.phase a k → module_of z.shape l.input ≡ module_of z.shape a.input → ⊥
  half_in l a k at has same = let half = half_of z m m.phase a k has r.phase_is in clear_apart z m s r a k half.0 half.1 l.output (over l k) at same refl

  half_mid : (l a : Leg) (k : Middle) → leg_at m l.output ≡ Some (over l k) → HasMid m.phase a k → module_of z.shape l.output ≡ module_of z.shape a.output → ⊥
  half_mid l a k at has same =
      let half = mid_of z m m.phase a k has r.phase_is in
      let x = (r.leg_is l.output (over l k) at).mid_is in
      let y = half.mid_is in
      let h : mid_word z.shape m.registers k (module_of z.shape l.output) ≡ mid_word z.shape m.registers k (module_of z.shape a.output) = ap (λ (j : ℕ). mid_word z.shape m.registers k j) same in
      clear_apart z m s r a k (module_of z.shape a.input + 1) half l.output (over l k) at (omega arith) refl

  ins_apart : (l a : Leg) (k : Middle) → UsesIn m l k → UsesIn m a k → module_of z.shape l.input ≡ module_of z.shape a.input → l ≡ a
  ins_apart l a k (inl at) (inl bt) same = legs_in l a k at bt same
  ins_apart l a k (inl at) (inr has) same = absurd (half_in l a k at has same)
  ins_apart l a k (inr has) (inl bt) same = absurd (half_in a l k bt has (sym same))
  ins_apart l a k (inr h) (inr g) same = one_in m.phase l a k k h g

  mids_apart : (l a : Leg) (k : Middle) → UsesMid m l k → UsesMid m a k → module_of z.shape l.output ≡ module_of z.shape a.output → l ≡ a
  mids_apart l a k (inl at) (inl bt) same = legs_mid l a k at bt same
  mids_apart l a k (inl at) (inr has) same = absurd (half_mid l a k at has same)
  mids_apart l a k (inr has) (inl bt) same = absurd (half_mid a l k bt has (sym same))
  mids_apart l a k (inr h) (inr g) same = one_mid m.phase l a k k h g

pub always_apart : Always ArePathsApart
always_apart z es c s reached = let k = reached_ruled z es c s reached in let sized = subst IsSize (sym k.0) s in
    record { ins = ins_apart c.size c.mover sized k.1.mover.laid; mids = mids_apart c.size c.mover sized k.1.mover.laid }

-- what the rule of a hold says of it
leg_held : (c : Core) (v : Worker) (h : Hold) (y : Port) (n : ℕ) (k : Middle) → IsHoldRuled c.size.shape c.mover v h → IsOf h y n k → (x : Port) × IsHeld c.mover v y n k x
leg_held c v Empty y n k rule is = absurd is
leg_held c v (Output a b q) y n k rule is = (rule.2.0, subst (λ (t : Port × ℕ × Middle). IsHeld c.mover v t.0 t.1 t.2 rule.2.0) (λ i. (is.0 i, is.1 i, is.2 i)) rule.2.1)
leg_held c v (Path a b q j) y n k rule is = (rule.2.0, subst (λ (t : Port × ℕ × Middle). IsHeld c.mover v t.0 t.1 t.2 rule.2.0) (λ i. (is.0 i, is.1 i, is.2 i)) rule.2.1)

pub always_holds : Always HoldsAreLegs
always_holds z es c s reached w v at y n k is = leg_held c v v.hold y n k ((reached_ruled z es c s reached).1.each w v at).1.hold_is is

empty_held : (c : Core) (v : Worker) (h : Hold) → IsHoldRuled c.size.shape c.mover v h → v.frame % 2 ≡ 0 → h ≡ Empty
empty_held c v Empty rule even = refl
empty_held c v (Output a b q) rule even = let runs = rule.0 in absurd (omega arith)
empty_held c v (Path a b q j) rule even = let runs = rule.0 in absurd (omega arith)

last_held : (c : Core) (v : Worker) (h : Hold) (y : Port) (n : ℕ) (k : Middle) → IsHoldRuled c.size.shape c.mover v h → IsOf h y n k → IsNotedLast v y n k
last_held c v Empty y n k rule is = absurd is
last_held c v (Output a b q) y n k rule is = subst (λ (t : Port × ℕ × Middle). IsNotedLast v t.0 t.1 t.2) (λ i. (is.0 i, is.1 i, is.2 i)) rule.3
last_held c v (Path a b q j) y n k rule is = subst (λ (t : Port × ℕ × Middle). IsNotedLast v t.0 t.1 t.2) (λ i. (is.0 i, is.1 i, is.2 i)) rule.3

pub always_noted : Always HoldsAreNoted
always_noted z es c s reached w v at = let rule = ((reached_ruled z es c s reached).1.each w v at).1.hold_is in record {
  empty = empty_held c v v.hold rule;
  last = λ y n k is. last_held c v v.hold y n k rule is;
  row = λ y n k i is. let path : IsHoldRuled c.size.shape c.mover v (Path y n k i) = subst (IsHoldRuled c.size.shape c.mover v) is rule in (leg_between path.2.0 y, path.2.1.0, path.2.2);
}

pub always_carried : Always CarriedAsLogged
always_carried z es c s reached w v at = let rule = ((reached_ruled z es c s reached).1.each w v at).1 in (rule.logged, rule.of_last_word, rule.found)
