-- The mover's steps keep that each set word has an owner.
use Rattle.std.proofs.Common.{◌≡◌, ◌≢◌, ◌⊎◌, ℕ, ◌+◌, ◌<◌, length, get_or, set, sym, refl, ap, ◌∙◌, inl, inr, subst, ⊎_elim, arith, Option, Some, None, get_or-set_same, get_or-set_other}
use mathlib.Core.Logic.{dite}
use native.Mathlib.Decide.{ℕ_discrete}
use Rattle.dxc_num.specs.Dimensions.{IsPort, module_of, slot_of}
use Rattle.dxc_num.specs.declared.port.Port.{Port}
use Rattle.dxc_num.specs.declared.port.Leg.{Leg}
use Rattle.dxc_num.specs.declared.port.Middle.{Middle}
use Rattle.dxc_num.specs.declared.port.Route.{Route}
use Rattle.fabric_core.specs.declared.size.Size.{Size}
use Rattle.fabric_core.specs.declared.event.CoreEvent.{CoreEvent}
use Rattle.fabric_core.specs.declared.event.CoreEvent.TheVariants.{Begin, LoadOut, LoadMid, LoadIn, End, SetIn, SetMid, SwitchOut, ClearOut, Look, ClearMid, ClearIn}
use Rattle.fabric_core.specs.declared.phase.Phase.{Phase}
use Rattle.fabric_core.specs.declared.phase.Phase.TheVariants.{Rest, InSet, MidSet, Old, Freed}
use Rattle.fabric_core.specs.declared.mover.Mover.{Mover}
use Rattle.fabric_core.specs.Registers.{in_cell, mid_cell, in_word, mid_word}
use Rattle.fabric_core.specs.State.{IsSize, leg_at}
use Rattle.fabric_core.specs.Moving.{over, CanClearOut, CanClearMid, CanClearIn, AllPassed, switched, out_cleared, mid_cleared, in_cleared, after_switch}
use Rattle.fabric_core.specs.Steps.{Moves}
use Rattle.fabric_core.specs.Laid.{IsHalfLaid, IsPhaseLaid, IsLaidOut}
use Rattle.fabric_core.specs.Owned.{HasIn, HasMid, LegIn, PathIn, LegMid, PathMid, IsOwned}
use Rattle.fabric_core.proofs.Cells.{port_discrete, module_lt, in_cell_lt, mid_cell_lt, same_in_cell, same_mid_cell}
use Rattle.fabric_core.proofs.Moving.{some_same, else_port}

no_path : (z : Size) (p : Phase) (i : ℕ) (k : Middle) → p ≡ Rest → PathIn z.shape p i k → ⊥
no_path z p i k e h = subst (λ (q : Phase). HasIn q h.0 h.1) e h.2

mid_less : (z : Size) (p : Phase) (l : Leg) (q k : Middle) (j : ℕ) → (p ≡ InSet l q) ⊎ (p ≡ Freed l q) ⊎ (p ≡ Rest) → PathMid z.shape p k j → ⊥
mid_less z p l q k j (inl e) h = subst (λ (r : Phase). HasMid r h.0 h.1) e h.2
mid_less z p l q k j (inr (inl e)) h = subst (λ (r : Phase). HasMid r h.0 h.1) e h.2
mid_less z p l q k j (inr (inr e)) h = subst (λ (r : Phase). HasMid r h.0 h.1) e h.2

module _ (z : Size) (m : Mover) (s : IsSize z) (r : IsLaidOut z m) (o : IsOwned z.shape m) where
  -- a word that is set lies where it was set, or was set before
  put_in : (c x i : ℕ) (k : Middle) → c < length m.registers.ins → get_or (set m.registers.ins c x) (in_cell z.shape i k) 0 ≢ 0 → ((in_cell z.shape i k ≡ c) × (x ≢ 0)) ⊎ (in_word z.shape m.registers i k ≢ 0)
  put_in c x i k room h = dite (ℕ_discrete (in_cell z.shape i k) c)
      (λ e. inl (e, λ none. h (ap (λ (n : ℕ). get_or (set m.registers.ins c x) n 0) e ∙ (get_or-set_same m.registers.ins c x 0 room ∙ none))))
      (λ e. inr (λ none. h (get_or-set_other m.registers.ins c (in_cell z.shape i k) x 0 e ∙ none)))

  put_mid : (c x : ℕ) (k : Middle) (j : ℕ) → c < length m.registers.mids → get_or (set m.registers.mids c x) (mid_cell z.shape k j) 0 ≢ 0 → ((mid_cell z.shape k j ≡ c) × (x ≢ 0)) ⊎ (mid_word z.shape m.registers k j ≢ 0)
  put_mid c x k j room h = dite (ℕ_discrete (mid_cell z.shape k j) c)
      (λ e. inl (e, λ none. h (ap (λ (n : ℕ). get_or (set m.registers.mids c x) n 0) e ∙ (get_or-set_same m.registers.mids c x 0 room ∙ none))))
      (λ e. inr (λ none. h (get_or-set_other m.registers.mids c (mid_cell z.shape k j) x 0 e ∙ none)))

  half_at : (p : Phase) → m.phase ≡ p → IsPhaseLaid z.shape m p
  half_at p e = subst (IsPhaseLaid z.shape m) e r.phase_is

  leg_here : (y : Port) (w : Route) → IsPort z.shape y → get_or (set m.legs y.0 (Some w)) y.0 None ≡ Some w
  leg_here y w low = let n = r.legs in get_or-set_same m.legs y.0 (Some w) None (omega arith)

  -- after a switch or a clearing of OUT the old leg is the path of the phase
  old_leg : (y u : Port) (e : Option Route) (w : Route) → leg_at m u ≡ Some w → ((u ≡ y) × (leg_at m y ≡ Some w)) ⊎ (get_or (set m.legs y.0 e) u.0 None ≡ Some w)
  old_leg y u e w at = dite (port_discrete u y) (λ same. inl (same, ap (leg_at m) (sym same) ∙ at)) (λ other. inr (else_port m.legs y u e None other ∙ at))

  switch_owns : (l : Leg) (k : Middle) → m.phase ≡ MidSet l k → IsOwned z.shape (switched l k m)
  switch_owns l k phase = let half : IsHalfLaid z.shape m l k (module_of z.shape l.input + 1) = half_at (MidSet l k) phase in let new : Route = over l k in record {
    ins = λ i q low lq some_word. ⊎_elim
        (λ (g : LegIn z.shape m i q). ⊎_elim
        (λ (t : (g.0 ≡ l.output) × (leg_at m l.output ≡ Some g.1)). let w : Route = g.1 in inr (l, w.middle, subst (λ (o : Option Route). HasIn (after_switch l o) l w.middle) (sym t.1) (refl, refl), ap (module_of z.shape) (sym (half.same w t.1)) ∙ g.3, g.4))
        (λ (t : get_or (set m.legs l.output.0 (Some new)) g.0.0 None ≡ Some g.1). inl (g.0, g.1, t, g.3, g.4))
        (old_leg l.output g.0 (Some new) g.1 g.2))
        (λ (g : PathIn z.shape m.phase i q). let e : (l ≡ g.0) × (k ≡ g.1) = subst (λ (p : Phase). HasIn p g.0 g.1) phase g.2 in
        inl (l.output, new, leg_here l.output new half.inside.output, ap (λ (a : Leg). module_of z.shape a.input) e.0 ∙ g.3, e.1 ∙ g.4))
        (o.ins i q low lq some_word);
    mids = λ q j lq low some_word. ⊎_elim
        (λ (g : LegMid z.shape m q j). ⊎_elim
        (λ (t : (g.0 ≡ l.output) × (leg_at m l.output ≡ Some g.1)). let w : Route = g.1 in inr (l, w.middle, subst (λ (o : Option Route). HasMid (after_switch l o) l w.middle) (sym t.1) (refl, refl), g.3, ap (module_of z.shape) (sym t.0) ∙ g.4))
        (λ (t : get_or (set m.legs l.output.0 (Some new)) g.0.0 None ≡ Some g.1). inl (g.0, g.1, t, g.3, g.4))
        (old_leg l.output g.0 (Some new) g.1 g.2))
        (λ (g : PathMid z.shape m.phase q j). let e : (l ≡ g.0) × (k ≡ g.1) = subst (λ (p : Phase). HasMid p g.0 g.1) phase g.2 in
        inl (l.output, new, leg_here l.output new half.inside.output, e.1 ∙ g.3, ap (λ (a : Leg). module_of z.shape a.output) e.0 ∙ g.4))
        (o.mids q j lq low some_word);
  }

  clear_owns : (l : Leg) (w : Route) → CanClearOut m l w → IsOwned z.shape (out_cleared l w.middle m)
  clear_owns l w can = record {
    ins = λ i q low lq some_word. ⊎_elim
        (λ (g : LegIn z.shape m i q). ⊎_elim
        (λ (t : (g.0 ≡ l.output) × (leg_at m l.output ≡ Some g.1)). let e : w ≡ g.1 = some_same (sym can.1.here ∙ t.1) in inr (l, w.middle, (refl, refl), ap (module_of z.shape) (sym can.1.same ∙ ap (λ (a : Route). a.input) e) ∙ g.3, ap (λ (a : Route). a.middle) e ∙ g.4))
        (λ (t : get_or (set m.legs l.output.0 None) g.0.0 None ≡ Some g.1). inl (g.0, g.1, t, g.3, g.4))
        (old_leg l.output g.0 None g.1 g.2))
        (λ (g : PathIn z.shape m.phase i q). absurd (no_path z m.phase i q can.0 g))
        (o.ins i q low lq some_word);
    mids = λ q j lq low some_word. ⊎_elim
        (λ (g : LegMid z.shape m q j). ⊎_elim
        (λ (t : (g.0 ≡ l.output) × (leg_at m l.output ≡ Some g.1)). let e : w ≡ g.1 = some_same (sym can.1.here ∙ t.1) in inr (l, w.middle, (refl, refl), ap (λ (a : Route). a.middle) e ∙ g.3, ap (module_of z.shape) (sym t.0) ∙ g.4))
        (λ (t : get_or (set m.legs l.output.0 None) g.0.0 None ≡ Some g.1). inl (g.0, g.1, t, g.3, g.4))
        (old_leg l.output g.0 None g.1 g.2))
        (λ (g : PathMid z.shape m.phase q j). absurd (mid_less z m.phase l w.middle q j (inr (inr can.0)) g))
        (o.mids q j lq low some_word);
  }

  -- a word that was cleared is none
  mid_clear_owns : (l : Leg) (k : Middle) → CanClearMid z m l k → IsOwned z.shape (mid_cleared z.shape l k m)
  mid_clear_owns l k can = record {
    ins = λ i q low lq some_word. ⊎_elim (λ (g : LegIn z.shape m i q). inl g)
        (λ (g : PathIn z.shape m.phase i q). inr (g.0, g.1, ⊎_elim (λ (p : m.phase ≡ MidSet l k). subst (λ (r : Phase). HasIn r g.0 g.1) p g.2) (λ (p : (m.phase ≡ Old l k) × AllPassed z m). subst (λ (r : Phase). HasIn r g.0 g.1) p.0 g.2) can, g.3, g.4))
        (o.ins i q low lq some_word);
    mids = λ q j lq low some_word. let c : ℕ = mid_cell z.shape k (module_of z.shape l.output) in ⊎_elim
        (λ (t : (mid_cell z.shape q j ≡ c) × (0 ≢ 0)). absurd (t.1 refl))
        (λ (t : mid_word z.shape m.registers q j ≢ 0). ⊎_elim (λ (g : LegMid z.shape m q j). inl g)
        (λ (g : PathMid z.shape m.phase q j). let e : (l ≡ g.0) × (k ≡ g.1) = ⊎_elim (λ (p : m.phase ≡ MidSet l k). subst (λ (r : Phase). HasMid r g.0 g.1) p g.2) (λ (p : (m.phase ≡ Old l k) × AllPassed z m). subst (λ (r : Phase). HasMid r g.0 g.1) p.0 g.2) can in
        let at : c ≡ mid_cell z.shape q j = λ i. mid_cell z.shape ((e.1 ∙ g.3) i) ((ap (λ (a : Leg). module_of z.shape a.output) e.0 ∙ g.4) i) in
        absurd (some_word (ap (λ (n : ℕ). get_or (set m.registers.mids c 0) n 0) (sym at) ∙ get_or-set_same m.registers.mids c 0 0 (mid_room l k can))))
        (o.mids q j lq low t))
        (put_mid c 0 q j (mid_room l k can) some_word);
  }
    where
      mid_room : (l : Leg) (k : Middle) → CanClearMid z m l k → mid_cell z.shape k (module_of z.shape l.output) < length m.registers.mids
      mid_room l k can = let half : IsHalfLaid z.shape m l k (module_of z.shape l.input + 1) = ⊎_elim (λ p. half_at (MidSet l k) p) (λ p. half_at (Old l k) p.0) can in
          let n = r.mids in let b = mid_cell_lt z.shape k (module_of z.shape l.output) half.middle (module_lt z.shape l.output s.shape half.inside.output) in omega arith

  in_clear_owns : (l : Leg) (k : Middle) → CanClearIn m l k → IsOwned z.shape (in_cleared z.shape l k m)
  in_clear_owns l k can = record {
    ins = λ i q low lq some_word. let c : ℕ = in_cell z.shape (module_of z.shape l.input) k in ⊎_elim
        (λ (t : (in_cell z.shape i q ≡ c) × (0 ≢ 0)). absurd (t.1 refl))
        (λ (t : in_word z.shape m.registers i q ≢ 0). ⊎_elim (λ (g : LegIn z.shape m i q). inl g)
        (λ (g : PathIn z.shape m.phase i q). let e : (l ≡ g.0) × (k ≡ g.1) = ⊎_elim (λ (p : m.phase ≡ InSet l k). subst (λ (r : Phase). HasIn r g.0 g.1) p g.2) (λ (p : m.phase ≡ Freed l k). subst (λ (r : Phase). HasIn r g.0 g.1) p g.2) can in
        let at : c ≡ in_cell z.shape i q = λ n. in_cell z.shape ((ap (λ (a : Leg). module_of z.shape a.input) e.0 ∙ g.3) n) ((e.1 ∙ g.4) n) in
        absurd (some_word (ap (λ (n : ℕ). get_or (set m.registers.ins c 0) n 0) (sym at) ∙ get_or-set_same m.registers.ins c 0 0 (in_room l k can))))
        (o.ins i q low lq t))
        (put_in c 0 i q (in_room l k can) some_word);
    mids = λ q j lq low some_word. ⊎_elim (λ (g : LegMid z.shape m q j). inl g)
        (λ (g : PathMid z.shape m.phase q j). absurd (mid_less z m.phase l k q j (⊎_elim (λ (p : m.phase ≡ InSet l k). inl p) (λ (p : m.phase ≡ Freed l k). inr (inl p)) can) g)) (o.mids q j lq low some_word);
  }
    where
      in_room : (l : Leg) (k : Middle) → CanClearIn m l k → in_cell z.shape (module_of z.shape l.input) k < length m.registers.ins
      in_room l k can = let half : IsHalfLaid z.shape m l k 0 = ⊎_elim (λ p. half_at (InSet l k) p) (λ p. half_at (Freed l k) p) can in
          let n = r.ins in let b = in_cell_lt z.shape (module_of z.shape l.input) k (module_lt z.shape l.input s.shape half.inside.input) half.middle in omega arith

  pub owns : (e : CoreEvent) (m' : Mover) → Moves z m e m' → IsOwned z.shape m'
  owns (SetIn l k) m' h = let can = h.0 in let here = module_lt z.shape l.input s.shape can.inside.input in subst (IsOwned z.shape) (sym h.1) record {
    ins = λ i q low lq some_word. ⊎_elim
        (λ (t : (in_cell z.shape i q ≡ in_cell z.shape (module_of z.shape l.input) k) × (slot_of z.shape l.input + 1 ≢ 0)). let c = same_in_cell z.shape i q (module_of z.shape l.input) k low here t.0 in inr (l, k, (refl, refl), sym c.0, sym c.1))
        (λ (t : in_word z.shape m.registers i q ≢ 0). ⊎_elim (λ (g : LegIn z.shape m i q). inl g) (λ (g : PathIn z.shape m.phase i q). absurd (no_path z m.phase i q can.rests g)) (o.ins i q low lq t))
        (put_in (in_cell z.shape (module_of z.shape l.input) k) (slot_of z.shape l.input + 1) i q
        (let n = r.ins in let b = in_cell_lt z.shape (module_of z.shape l.input) k here can.middle in omega arith) some_word);
    mids = λ q j lq low some_word. ⊎_elim (λ (g : LegMid z.shape m q j). inl g) (λ (g : PathMid z.shape m.phase q j). absurd (mid_less z m.phase l k q j (inr (inr can.rests)) g)) (o.mids q j lq low some_word);
  }
  owns SetMid m' h = let l : Leg = h.0 in let k : Middle = h.1 in let half : IsHalfLaid z.shape m l k 0 = half_at (InSet l k) h.2 in subst (IsOwned z.shape) (sym h.3) record {
    ins = λ i q low lq some_word. ⊎_elim (λ (g : LegIn z.shape m i q). inl g)
        (λ (g : PathIn z.shape m.phase i q). inr (g.0, g.1, subst (λ (p : Phase). HasIn p g.0 g.1) h.2 g.2, g.3, g.4)) (o.ins i q low lq some_word);
    mids = λ q j lq low some_word. ⊎_elim
        (λ (t : (mid_cell z.shape q j ≡ mid_cell z.shape k (module_of z.shape l.output)) × (module_of z.shape l.input + 1 ≢ 0)).
        let c = same_mid_cell z.shape q j k (module_of z.shape l.output) low (module_lt z.shape l.output s.shape half.inside.output) t.0 in inr (l, k, (refl, refl), sym c.0, sym c.1))
        (λ (t : mid_word z.shape m.registers q j ≢ 0). ⊎_elim (λ (g : LegMid z.shape m q j). inl g) (λ (g : PathMid z.shape m.phase q j). absurd (mid_less z m.phase l k q j (inl h.2) g)) (o.mids q j lq low t))
        (put_mid (mid_cell z.shape k (module_of z.shape l.output)) (module_of z.shape l.input + 1) q j
        (let n = r.mids in let b = mid_cell_lt z.shape k (module_of z.shape l.output) half.middle (module_lt z.shape l.output s.shape half.inside.output) in omega arith) some_word);
  }
  owns SwitchOut m' h = subst (IsOwned z.shape) (sym h.4) (switch_owns h.0 h.1 h.2)
  owns (ClearOut l) m' h = subst (IsOwned z.shape) (sym h.2) (clear_owns l h.0 h.1)
  owns ClearMid m' h = subst (IsOwned z.shape) (sym h.3) (mid_clear_owns h.0 h.1 h.2)
  owns ClearIn m' h = subst (IsOwned z.shape) (sym h.3) (in_clear_owns h.0 h.1 h.2)
  owns (Begin w) m' h = absurd h
  owns (LoadOut w y) m' h = absurd h
  owns (LoadMid w) m' h = absurd h
  owns (LoadIn w) m' h = absurd h
  owns (End w) m' h = absurd h
  owns (Look w) m' h = absurd h
