-- The words of the registers are determined by the legs and the phase.
use Rattle.std.proofs.Common.{◌≡◌, ◌≢◌, ℕ, ◌+◌, ◌%◌, ◌<◌, get_or, sym, refl, ap, ◌∙◌, subst, ⊎_elim, arith, Option, Some, None}
use mathlib.Core.Logic.{dite}
use native.Mathlib.Decide.{ℕ_discrete}
use Rattle.dxc_num.specs.declared.port.Leg.{Leg}
use Rattle.dxc_num.specs.declared.port.Middle.{Middle}
use Rattle.dxc_num.specs.declared.port.Port.{Port}
use Rattle.dxc_num.specs.declared.port.Route.{Route}
use Rattle.dxc_num.specs.Dimensions.{module_of, slot_of}
use Rattle.fabric_core.specs.declared.size.Size.{Size}
use Rattle.fabric_core.specs.declared.mover.Mover.{Mover}
use Rattle.fabric_core.specs.declared.phase.Phase.{Phase}
use Rattle.fabric_core.specs.declared.phase.Phase.TheVariants.{Rest, InSet, MidSet, Old, Freed}
use Rattle.fabric_core.specs.Registers.{in_word, mid_word, out_word}
use Rattle.fabric_core.specs.State.{IsSize, leg_at}
use Rattle.fabric_core.specs.Moving.{IsMiddle}
use Rattle.fabric_core.specs.Laid.{IsOutOf, IsPhaseLaid}
use Rattle.fabric_core.specs.Owned.{IsMoverRuled, LegIn, PathIn, LegMid, PathMid, HasIn, HasMid}
use Rattle.roll_engine.specs.Courses.{Course, course_of}
use Rattle.roll_engine.specs.Staying.{IsDetermined}

abbrev InIs : Size → Mover → Leg × Middle → Type 0
InIs z m t = in_word z.shape m.registers (module_of z.shape t.0.input) t.1 ≡ slot_of z.shape t.0.input + 1

abbrev MidIs : Size → Mover → Leg × Middle → Type 0
MidIs z m t = mid_word z.shape m.registers t.1 (module_of z.shape t.0.output) ≡ module_of z.shape t.0.input + 1

in_path : (z : Size) (m : Mover) (p : Phase) (l : Leg) (q : Middle) → IsPhaseLaid z.shape m p → HasIn p l q → InIs z m (l, q)
in_path z m Rest l q ok h = absurd h
in_path z m (InSet a b) l q ok h = subst (InIs z m) (λ i. (h.0 i, h.1 i)) ok.in_is
in_path z m (MidSet a b) l q ok h = subst (InIs z m) (λ i. (h.0 i, h.1 i)) ok.in_is
in_path z m (Old a b) l q ok h = subst (InIs z m) (λ i. (h.0 i, h.1 i)) ok.in_is
in_path z m (Freed a b) l q ok h = subst (InIs z m) (λ i. (h.0 i, h.1 i)) ok.in_is

mid_path : (z : Size) (m : Mover) (p : Phase) (l : Leg) (q : Middle) → IsPhaseLaid z.shape m p → HasMid p l q → MidIs z m (l, q)
mid_path z m Rest l q ok h = absurd h
mid_path z m (InSet a b) l q ok h = absurd h
mid_path z m (MidSet a b) l q ok h = subst (MidIs z m) (λ i. (h.0 i, h.1 i)) ok.mid_is
mid_path z m (Old a b) l q ok h = subst (MidIs z m) (λ i. (h.0 i, h.1 i)) ok.mid_is
mid_path z m (Freed a b) l q ok h = absurd h

module _ (z : Size) (m m' : Mover) (s : IsSize z) (r : IsMoverRuled z m) (t : IsMoverRuled z m') (e : course_of m ≡ course_of m') where
  phase_same : m.phase ≡ m'.phase
  phase_same = ap (λ (c : Course). c.phase) e

  legs_same : (y : Port) → leg_at m y ≡ leg_at m' y
  legs_same y = ap (λ (c : Course). get_or c.legs y.0 None) e

  -- a word that is set in the one is the same in the other
  in_same : (i : ℕ) (k : Middle) → i < z.shape.modules → IsMiddle z.shape k → in_word z.shape m.registers i k ≢ 0 → in_word z.shape m.registers i k ≡ in_word z.shape m'.registers i k
  in_same i k low lq some_word = ⊎_elim
      (λ (g : LegIn z.shape m i k).
      let a : in_word z.shape m.registers i k ≡ slot_of z.shape g.1.input + 1 = subst (λ (p : ℕ × Middle). in_word z.shape m.registers p.0 p.1 ≡ slot_of z.shape g.1.input + 1) (λ n. (g.3 n, g.4 n)) (r.laid.leg_is g.0 g.1 g.2).in_is in
      let b : in_word z.shape m'.registers i k ≡ slot_of z.shape g.1.input + 1 = subst (λ (p : ℕ × Middle). in_word z.shape m'.registers p.0 p.1 ≡ slot_of z.shape g.1.input + 1) (λ n. (g.3 n, g.4 n)) (t.laid.leg_is g.0 g.1 (sym (legs_same g.0) ∙ g.2)).in_is in
      a ∙ sym b)
      (λ (g : PathIn z.shape m.phase i k).
      let a : in_word z.shape m.registers i k ≡ slot_of z.shape g.0.input + 1 = subst (λ (p : ℕ × Middle). in_word z.shape m.registers p.0 p.1 ≡ slot_of z.shape g.0.input + 1) (λ n. (g.3 n, g.4 n)) (in_path z m m.phase g.0 g.1 r.laid.phase_is g.2) in
      let b : in_word z.shape m'.registers i k ≡ slot_of z.shape g.0.input + 1 = subst (λ (p : ℕ × Middle). in_word z.shape m'.registers p.0 p.1 ≡ slot_of z.shape g.0.input + 1) (λ n. (g.3 n, g.4 n)) (in_path z m' m'.phase g.0 g.1 t.laid.phase_is (subst (λ (p : Phase). HasIn p g.0 g.1) phase_same g.2)) in
      a ∙ sym b)
      (r.owned.ins i k low lq some_word)

  mid_same : (k : Middle) (j : ℕ) → IsMiddle z.shape k → j < z.shape.modules → mid_word z.shape m.registers k j ≢ 0 → mid_word z.shape m.registers k j ≡ mid_word z.shape m'.registers k j
  mid_same k j lq low some_word = ⊎_elim
      (λ (g : LegMid z.shape m k j).
      let a : mid_word z.shape m.registers k j ≡ module_of z.shape g.1.input + 1 = subst (λ (p : Middle × ℕ). mid_word z.shape m.registers p.0 p.1 ≡ module_of z.shape g.1.input + 1) (λ n. (g.3 n, g.4 n)) (r.laid.leg_is g.0 g.1 g.2).mid_is in
      let b : mid_word z.shape m'.registers k j ≡ module_of z.shape g.1.input + 1 = subst (λ (p : Middle × ℕ). mid_word z.shape m'.registers p.0 p.1 ≡ module_of z.shape g.1.input + 1) (λ n. (g.3 n, g.4 n)) (t.laid.leg_is g.0 g.1 (sym (legs_same g.0) ∙ g.2)).mid_is in
      a ∙ sym b)
      (λ (g : PathMid z.shape m.phase k j).
      let a : mid_word z.shape m.registers k j ≡ module_of z.shape g.0.input + 1 = subst (λ (p : Middle × ℕ). mid_word z.shape m.registers p.0 p.1 ≡ module_of z.shape g.0.input + 1) (λ n. (g.3 n, g.4 n)) (mid_path z m m.phase g.0 g.1 r.laid.phase_is g.2) in
      let b : mid_word z.shape m'.registers k j ≡ module_of z.shape g.0.input + 1 = subst (λ (p : Middle × ℕ). mid_word z.shape m'.registers p.0 p.1 ≡ module_of z.shape g.0.input + 1) (λ n. (g.3 n, g.4 n)) (mid_path z m' m'.phase g.0 g.1 t.laid.phase_is (subst (λ (p : Phase). HasMid p g.0 g.1) phase_same g.2)) in
      a ∙ sym b)
      (r.owned.mids k j lq low some_word)

  out_same : (y : Port) → (o : Option Route) → leg_at m y ≡ o → IsOutOf m y o → IsOutOf m' y o → out_word m.registers y % 256 ≡ out_word m'.registers y % 256
  out_same y None at a b = ap (λ (n : ℕ). n % 256) (a ∙ sym b)
  out_same y (Some w) at a b = let p = a.1 in let q = b.1 in omega arith

pub determined : IsDetermined
determined z m m' s r t e = record {
  ins = λ i k low lq. dite (ℕ_discrete (in_word z.shape m.registers i k) 0)
      (λ none. dite (ℕ_discrete (in_word z.shape m'.registers i k) 0) (λ also. none ∙ sym also) (λ there. sym (in_same z m' m s t r (sym e) i k low lq there)))
      (λ there. in_same z m m' s r t e i k low lq there);
  mids = λ k j lq low. dite (ℕ_discrete (mid_word z.shape m.registers k j) 0)
      (λ none. dite (ℕ_discrete (mid_word z.shape m'.registers k j) 0) (λ also. none ∙ sym also) (λ there. sym (mid_same z m' m s t r (sym e) k j lq low there)))
      (λ there. mid_same z m m' s r t e k j lq low there);
  outs = λ y low. out_same z m m' s r t e y (leg_at m y) refl (r.laid.out_is y low) (subst (IsOutOf m' y) (sym (legs_same z m m' s r t e y)) (t.laid.out_is y low));
}
