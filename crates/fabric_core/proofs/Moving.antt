-- The mover's steps keep what the rule says of the words of its legs and of its phase.
use Rattle.std.proofs.Common.{◌≡◌, ◌≢◌, ◌⊎◌, ℕ, ◌+◌, List, [], ◌∷◌, ◌++◌, length, get_or, set, sym, refl, ap, ◌∙◌, inl, inr, subst, ⊎_elim, arith, Option, Some, None, get_or-set_same, get_or-set_other, length-set, length-append}
use mathlib.Core.Logic.{dite}
use lib.ListN.{length-map}
use Rattle.atomic_table.proofs.Lists.{at_last}
use Rattle.dxc_num.specs.Dimensions.{IsPort, module_of, slot_of, leg_between}
use Rattle.dxc_num.specs.declared.port.Port.{Port}
use Rattle.dxc_num.specs.declared.port.Leg.{Leg}
use Rattle.dxc_num.specs.declared.port.Middle.{Middle}
use Rattle.dxc_num.specs.declared.port.Route.{Route}
use Rattle.fabric_core.specs.declared.size.Size.{Size}
use Rattle.fabric_core.specs.declared.phase.Phase.{Phase}
use Rattle.fabric_core.specs.declared.phase.Phase.TheVariants.{Rest, InSet, MidSet, Old, Freed}
use Rattle.fabric_core.specs.declared.mover.Mover.{Mover}
use Rattle.fabric_core.specs.Registers.{in_cell, mid_cell, in_word, mid_word, out_of}
use Rattle.fabric_core.specs.State.{IsSize, leg_at}
use Rattle.fabric_core.specs.Moving.{over, IsEstablished, IsNew, CanSetIn, CanClearOut, in_set, mid_set, switched, after_switch, looks_after, out_cleared, looked, mid_cleared, in_cleared}
use Rattle.fabric_core.specs.Notes.{Numbered, Latest}
use Rattle.fabric_core.specs.Laid.{IsLaid, IsOutOf, IsHalfLaid, IsPhaseLaid, IsLaidOut}
use Rattle.fabric_core.proofs.Cells.{port_of_number, port_discrete, module_lt, in_cell_lt, mid_cell_lt, same_in_cell, same_mid_cell, same_port_at}
use Rattle.fabric_core.proofs.Noting.{at_below, numbered_more, latest_more}

pub some_same : {a b : Route} → Some a ≡ Some b → a ≡ b
some_same e = cc

-- an item of a list by port, after a change at another port
pub else_port : {A : Type 0} (xs : List A) (y u : Port) (x none : A) → u ≢ y → get_or (set xs y.0 x) u.0 none ≡ get_or xs u.0 none
else_port xs y u x none other = get_or-set_other xs y.0 u.0 x none (λ e. other (port_of_number u y e))

module _ (z : Size) (m : Mover) (s : IsSize z) (r : IsLaidOut z m) where
  -- a cell that holds 0 is none of the path of an established leg
  in_apart : (y : Port) (w : Route) (c : ℕ) → leg_at m y ≡ Some w → get_or m.registers.ins c 0 ≡ 0 → in_cell z.shape (module_of z.shape w.input) w.middle ≢ c
  in_apart y w c at none e = let is = (r.leg_is y w at).in_is in let h : in_word z.shape m.registers (module_of z.shape w.input) w.middle ≡ 0 = ap (λ (i : ℕ). get_or m.registers.ins i 0) e ∙ none in omega arith

  mid_apart : (y : Port) (w : Route) (c : ℕ) → leg_at m y ≡ Some w → get_or m.registers.mids c 0 ≡ 0 → mid_cell z.shape w.middle (module_of z.shape y) ≢ c
  mid_apart y w c at none e = let is = (r.leg_is y w at).mid_is in let h : mid_word z.shape m.registers w.middle (module_of z.shape y) ≡ 0 = ap (λ (i : ℕ). get_or m.registers.mids i 0) e ∙ none in omega arith

  -- what the condition of set IN says of legs with that input
  set_apart : (l : Leg) (k : Middle) → CanSetIn z.shape m l k → (y : Port) (w : Route) → leg_at m y ≡ Some w → w.input ≡ l.input → (w.middle ≢ k) × (y ≡ l.output)
  set_apart l k can y w at same = (
    (λ e. middle e),
    ⊎_elim
        (λ (t : (v : Route) × IsEstablished m l v). r.apart y l.output w t.0 at t.1.here (same ∙ sym t.1.same))
        (λ (t : IsNew m l). absurd (t.2 y w at same)) can.may_go,
  )
    where
      middle : w.middle ≡ k → ⊥
      middle e = let none = can.in_none in let is = (r.leg_is y w at).in_is in
          let h : in_word z.shape m.registers (module_of z.shape w.input) w.middle ≡ 0 = (λ j. in_word z.shape m.registers (module_of z.shape (same j)) (e j)) ∙ none in omega arith

  set_same : (l : Leg) (k : Middle) → CanSetIn z.shape m l k → (w : Route) → leg_at m l.output ≡ Some w → w.input ≡ l.input
  set_same l k can w at = ⊎_elim
      (λ (t : (v : Route) × IsEstablished m l v). ap (λ (v : Route). v.input) (some_same (sym at ∙ t.1.here)) ∙ t.1.same)
      (λ (t : IsNew m l). let none = t.0 in absurd (cc)) can.may_go

  same_out : (m' : Mover) (y : Port) → m.registers.outs ≡ m'.registers.outs → m.log ≡ m'.log → (e : Option Route) → IsOutOf m y e → IsOutOf m' y e
  same_out m' y a b None ok = subst (λ (os : List ℕ). get_or os y.0 0 ≡ 0) a ok
  same_out m' y a b (Some w) ok = (ok.0, subst (λ (os : List ℕ). get_or os y.0 0 ≡ out_of ok.0 w.middle) a ok.1, subst (λ (ls : List Leg). Numbered ls ok.0 (leg_between w.input y)) b ok.2, subst (λ (ls : List Leg). Latest ls y ok.0) b ok.3)

  pub sets_in : (l : Leg) (k : Middle) → CanSetIn z.shape m l k → IsLaidOut z (in_set z.shape l k m)
  sets_in l k can =
      let i : ℕ = module_of z.shape l.input in
      let c : ℕ = in_cell z.shape i k in
      let inside = can.inside in
      let room = in_cell_lt z.shape i k (module_lt z.shape l.input s.shape inside.input) can.middle in
      let size = r.ins in record {
        ins = length-set m.registers.ins c _ ∙ r.ins;
        mids = r.mids;
        outs = r.outs;
        legs = r.legs;
        looks = r.looks;
        out_is = λ y h. same_out (in_set z.shape l k m) y refl refl (leg_at m y) (r.out_is y h);
        leg_is = λ y w at. let ok = r.leg_is y w at in record {
          inside = ok.inside;
          middle = ok.middle;
          in_is = get_or-set_other m.registers.ins c (in_cell z.shape (module_of z.shape w.input) w.middle) (slot_of z.shape l.input + 1) 0 (in_apart y w c at can.in_none) ∙ ok.in_is;
          mid_is = ok.mid_is;
        };
        apart = r.apart;
        phase_is = record {
          inside = inside;
          middle = can.middle;
          in_is = get_or-set_same m.registers.ins c (slot_of z.shape l.input + 1) 0 (omega arith);
          mid_is = can.mid_none;
          apart = set_apart l k can;
          same = set_same l k can;
        };
      }

  pub mids_in : (l : Leg) (k : Middle) → IsHalfLaid z.shape m l k 0 → IsLaidOut z (mid_set z.shape l k m)
  mids_in l k half =
      let j : ℕ = module_of z.shape l.output in
      let c : ℕ = mid_cell z.shape k j in
      let q : ℕ = module_of z.shape l.input + 1 in
      let room = mid_cell_lt z.shape k j half.middle (module_lt z.shape l.output s.shape half.inside.output) in
      let size = r.mids in record {
        ins = r.ins;
        mids = length-set m.registers.mids c _ ∙ r.mids;
        outs = r.outs;
        legs = r.legs;
        looks = r.looks;
        out_is = λ y h. same_out (mid_set z.shape l k m) y refl refl (leg_at m y) (r.out_is y h);
        leg_is = λ y w at. let ok = r.leg_is y w at in record {
          inside = ok.inside;
          middle = ok.middle;
          in_is = ok.in_is;
          mid_is = get_or-set_other m.registers.mids c (mid_cell z.shape w.middle (module_of z.shape y)) q 0 (mid_apart y w c at half.mid_is) ∙ ok.mid_is;
        };
        apart = r.apart;
        phase_is = record {
          inside = half.inside;
          middle = half.middle;
          in_is = half.in_is;
          mid_is = get_or-set_same m.registers.mids c q 0 (omega arith);
          apart = half.apart;
          same = half.same;
        };
      }

  -- a leg with the IN word of a path that no leg has is that path's leg, and it isn't
  pub clear_apart : (l : Leg) (k : Middle) (q : ℕ) → IsHalfLaid z.shape m l k q → (y : Port) (w : Route) → leg_at m y ≡ Some w → module_of z.shape w.input ≡ module_of z.shape l.input → w.middle ≡ k → ⊥
  clear_apart l k q half y w at i e =
      let ok = r.leg_is y w at in
      let a = ok.in_is in
      let b = half.in_is in
      let c : in_word z.shape m.registers (module_of z.shape w.input) w.middle ≡ in_word z.shape m.registers (module_of z.shape l.input) k = λ t. in_word z.shape m.registers (i t) (e t) in
      let slots : slot_of z.shape w.input ≡ slot_of z.shape l.input = omega arith in
      (half.apart y w at (same_port_at z.shape w.input l.input i slots)).0 e

  pub clears_mid : (l : Leg) (k : Middle) → IsHalfLaid z.shape m l k (module_of z.shape l.input + 1) → IsLaidOut z (mid_cleared z.shape l k m)
  clears_mid l k half =
      let j : ℕ = module_of z.shape l.output in
      let c : ℕ = mid_cell z.shape k j in
      let below = module_lt z.shape l.output s.shape half.inside.output in
      let room = mid_cell_lt z.shape k j half.middle below in
      let size = r.mids in record {
        ins = r.ins;
        mids = length-set m.registers.mids c _ ∙ r.mids;
        outs = r.outs;
        legs = r.legs;
        looks = r.looks;
        out_is = λ y h. same_out (mid_cleared z.shape l k m) y refl refl (leg_at m y) (r.out_is y h);
        leg_is = λ y w at. let ok = r.leg_is y w at in record {
          inside = ok.inside;
          middle = ok.middle;
          in_is = ok.in_is;
          mid_is = get_or-set_other m.registers.mids c (mid_cell z.shape w.middle (module_of z.shape y)) 0 0 (λ e.
              let t = same_mid_cell z.shape w.middle (module_of z.shape y) k j (module_lt z.shape y s.shape ok.inside.output) below e in
              let a = ok.mid_is in let b = half.mid_is in
              let d : mid_word z.shape m.registers w.middle (module_of z.shape y) ≡ mid_word z.shape m.registers k j = λ i. mid_word z.shape m.registers (t.0 i) (t.1 i) in
              clear_apart l k (module_of z.shape l.input + 1) half y w at (omega arith) t.0) ∙ ok.mid_is;
        };
        apart = r.apart;
        phase_is = record {
          inside = half.inside;
          middle = half.middle;
          in_is = half.in_is;
          mid_is = get_or-set_same m.registers.mids c 0 0 (omega arith);
          apart = half.apart;
          same = half.same;
        };
      }

  pub clears_in : (l : Leg) (k : Middle) → IsHalfLaid z.shape m l k 0 → IsLaidOut z (in_cleared z.shape l k m)
  clears_in l k half =
      let i : ℕ = module_of z.shape l.input in
      let c : ℕ = in_cell z.shape i k in
      let below = module_lt z.shape l.input s.shape half.inside.input in record {
        ins = length-set m.registers.ins c _ ∙ r.ins;
        mids = r.mids;
        outs = r.outs;
        legs = r.legs;
        looks = r.looks;
        out_is = λ y h. same_out (in_cleared z.shape l k m) y refl refl (leg_at m y) (r.out_is y h);
        leg_is = λ y w at. let ok = r.leg_is y w at in record {
          inside = ok.inside;
          middle = ok.middle;
          in_is = get_or-set_other m.registers.ins c (in_cell z.shape (module_of z.shape w.input) w.middle) 0 0 (λ e.
              let t = same_in_cell z.shape (module_of z.shape w.input) w.middle i k (module_lt z.shape w.input s.shape ok.inside.input) below e in
              clear_apart l k 0 half y w at t.0 t.1) ∙ ok.in_is;
          mid_is = ok.mid_is;
        };
        apart = r.apart;
        phase_is = tt;
      }

  pub looks_at : (w f : ℕ) → IsLaidOut z (looked w f m)
  looks_at w f = record {
    ins = r.ins;
    mids = r.mids;
    outs = r.outs;
    legs = r.legs;
    looks = length-set m.looks w _ ∙ r.looks;
    out_is = λ y h. same_out (looked w f m) y refl refl (leg_at m y) (r.out_is y h);
    leg_is = λ y v at. let ok = r.leg_is y v at in record { inside = ok.inside; middle = ok.middle; in_is = ok.in_is; mid_is = ok.mid_is };
    apart = r.apart;
    phase_is = stays m.phase r.phase_is;
  }
    where
      half_stays : (l : Leg) (k : Middle) (q : ℕ) → IsHalfLaid z.shape m l k q → IsHalfLaid z.shape (looked w f m) l k q
      half_stays l k q h = record { inside = h.inside; middle = h.middle; in_is = h.in_is; mid_is = h.mid_is; apart = h.apart; same = h.same }

      stays : (p : Phase) → IsPhaseLaid z.shape m p → IsPhaseLaid z.shape (looked w f m) p
      stays Rest h = tt
      stays (InSet l k) h = half_stays l k 0 h
      stays (MidSet l k) h = half_stays l k (module_of z.shape l.input + 1) h
      stays (Old l k) h = half_stays l k (module_of z.shape l.input + 1) h
      stays (Freed l k) h = half_stays l k 0 h

  -- a leg is established, or taken out: what the list of legs is then
  legs_set : (y u : Port) (e : Option Route) (w : Route) → get_or (set m.legs y.0 e) u.0 None ≡ Some w → IsPort z.shape y → ((u ≡ y) × (e ≡ Some w)) ⊎ ((u ≢ y) × (leg_at m u ≡ Some w))
  legs_set y u e w at h = let size = r.legs in dite (port_discrete u y)
      (λ same. inl (same, sym (get_or-set_same m.legs y.0 e None (omega arith)) ∙ (ap (λ (i : Port). get_or (set m.legs y.0 e) i.0 None) (sym same) ∙ at)))
      (λ other. inr (other, sym (else_port m.legs y u e None other) ∙ at))

  looks_length : (e : Option Route) → length (looks_after e m.looks) ≡ length m.looks
  looks_length None = refl
  looks_length (Some w) = length-map m.looks (λ (_ : List ℕ). [])

  switched_here : (l : Leg) (k : Middle) → IsHalfLaid z.shape m l k (module_of z.shape l.input + 1) → IsOutOf (switched l k m) l.output (Some (over l k))
  switched_here l k half = let inside = half.inside.output in let size = r.outs in (
    length m.log + 1,
    get_or-set_same m.registers.outs l.output.0 (out_of (length m.log + 1) k) 0 (omega arith),
    (length m.log, omega arith, at_last m.log l (length m.log) refl),
    λ u a le at. let low = at_below (m.log ++ l ∷ []) a u at in absurd (omega (arith, length-append m.log (l ∷ []))),
  )

  switched_there : (l : Leg) (k : Middle) (u : Port) → u ≢ l.output → (e : Option Route) → IsOutOf m u e → IsOutOf (switched l k m) u e
  switched_there l k u other None ok = else_port m.registers.outs l.output u (out_of (length m.log + 1) k) 0 other ∙ ok
  switched_there l k u other (Some w) ok = (ok.0, else_port m.registers.outs l.output u (out_of (length m.log + 1) k) 0 other ∙ ok.1, numbered_more m.log ok.0 (leg_between w.input u) l ok.2, latest_more m.log u ok.0 l (λ e. other (sym e)) ok.3)

  switched_apart : (l : Leg) (k : Middle) → IsHalfLaid z.shape m l k (module_of z.shape l.input + 1) → (a b : Port) (w v : Route) → leg_at (switched l k m) a ≡ Some w → leg_at (switched l k m) b ≡ Some v → w.input ≡ v.input → a ≡ b
  switched_apart l k half a b w v at bt same = go (legs_set l.output a (Some (over l k)) w at half.inside.output) (legs_set l.output b (Some (over l k)) v bt half.inside.output)
    where
      go : ((a ≡ l.output) × (Some (over l k) ≡ Some w)) ⊎ ((a ≢ l.output) × (leg_at m a ≡ Some w)) → ((b ≡ l.output) × (Some (over l k) ≡ Some v)) ⊎ ((b ≢ l.output) × (leg_at m b ≡ Some v)) → a ≡ b
      go (inl s) (inl t) = s.0 ∙ sym t.0
      go (inl s) (inr t) = s.0 ∙ sym (half.apart b v t.1 (sym same ∙ sym (ap (λ (x : Route). x.input) (some_same s.1)))).1
      go (inr s) (inl t) = (half.apart a w s.1 (same ∙ sym (ap (λ (x : Route). x.input) (some_same t.1)))).1 ∙ sym t.0
      go (inr s) (inr t) = r.apart a b w v s.1 t.1 same

  switched_phase : (l : Leg) (k : Middle) → IsHalfLaid z.shape m l k (module_of z.shape l.input + 1) → (e : Option Route) → leg_at m l.output ≡ e → IsPhaseLaid z.shape (switched l k m) (after_switch l e)
  switched_phase l k half None is = tt
  switched_phase l k half (Some w) is = let ok = r.leg_is l.output w is in let same = half.same w is in record {
    inside = half.inside;
    middle = ok.middle;
    in_is = ap (λ (x : Port). in_word z.shape m.registers (module_of z.shape x) w.middle) (sym same) ∙ (ok.in_is ∙ ap (λ (x : Port). slot_of z.shape x + 1) same);
    mid_is = ok.mid_is ∙ ap (λ (x : Port). module_of z.shape x + 1) same;
    apart = λ u v at e. ⊎_elim
        (λ (t : (u ≡ l.output) × (Some (over l k) ≡ Some v)). ((λ h. (half.apart l.output w is same).0 (sym h ∙ sym (ap (λ (x : Route). x.middle) (some_same t.1)))), t.0))
        (λ (t : (u ≢ l.output) × (leg_at m u ≡ Some v)). absurd (t.0 (half.apart u v t.1 e).1))
        (legs_set l.output u (Some (over l k)) v at half.inside.output);
    same = λ v at. let size = r.legs in let low = half.inside.output in ap (λ (x : Route). x.input) (some_same (sym at ∙ get_or-set_same m.legs l.output.0 (Some (over l k)) None (omega arith)));
  }

  pub switches : (l : Leg) (k : Middle) → IsHalfLaid z.shape m l k (module_of z.shape l.input + 1) → IsLaidOut z (switched l k m)
  switches l k half =
      let y : Port = l.output in
      let inside = half.inside.output in
      let size = r.legs in record {
        ins = r.ins;
        mids = r.mids;
        outs = length-set m.registers.outs y.0 _ ∙ r.outs;
        legs = length-set m.legs y.0 _ ∙ r.legs;
        looks = looks_length (leg_at m y) ∙ r.looks;
        out_is = λ u h. dite (port_discrete u y) (λ e. subst (λ (i : Port). IsOutOf (switched l k m) i (leg_at (switched l k m) i)) (sym e) (subst (IsOutOf (switched l k m) y) (sym (get_or-set_same m.legs y.0 (Some (over l k)) None (omega arith))) (switched_here l k half)))
            (λ e. subst (IsOutOf (switched l k m) u) (sym (else_port m.legs y u (Some (over l k)) None e)) (switched_there l k u e (leg_at m u) (r.out_is u h)));
        leg_is = λ u w at. ⊎_elim
            (λ (t : (u ≡ y) × (Some (over l k) ≡ Some w)). subst (λ (p : Port × Route). IsLaid z.shape (switched l k m) p.0 p.1) (λ i. (sym t.0 i, some_same t.1 i)) (record { inside = half.inside; middle = half.middle; in_is = half.in_is; mid_is = half.mid_is }))
            (λ (t : (u ≢ y) × (leg_at m u ≡ Some w)). let ok = r.leg_is u w t.1 in record { inside = ok.inside; middle = ok.middle; in_is = ok.in_is; mid_is = ok.mid_is })
            (legs_set y u (Some (over l k)) w at inside);
        apart = switched_apart l k half;
        phase_is = switched_phase l k half (leg_at m y) refl;
      }

  pub clears_out : (l : Leg) (w : Route) → CanClearOut m l w → IsLaidOut z (out_cleared l w.middle m)
  clears_out l w can =
      let y : Port = l.output in
      let ok = r.leg_is y w can.1.here in
      let same = can.1.same in
      let low = ok.inside.output in
      let size = r.legs in
      let sizes = r.outs in record {
        ins = r.ins;
        mids = r.mids;
        outs = length-set m.registers.outs y.0 _ ∙ r.outs;
        legs = length-set m.legs y.0 _ ∙ r.legs;
        looks = length-map m.looks (λ (_ : List ℕ). []) ∙ r.looks;
        out_is = λ u h. dite (port_discrete u y) (λ e. subst (λ (i : Port). IsOutOf (out_cleared l w.middle m) i (leg_at (out_cleared l w.middle m) i)) (sym e) (subst (IsOutOf (out_cleared l w.middle m) y) (sym (get_or-set_same m.legs y.0 None None (omega arith))) (get_or-set_same m.registers.outs y.0 0 0 (omega arith))))
            (λ e. subst (IsOutOf (out_cleared l w.middle m) u) (sym (else_port m.legs y u None None e)) (stays u e (leg_at m u) (r.out_is u h)));
        leg_is = λ u v at. let k = r.leg_is u v (kept u v at).1 in record { inside = k.inside; middle = k.middle; in_is = k.in_is; mid_is = k.mid_is };
        apart = λ a b v x at bt e. r.apart a b v x (kept a v at).1 (kept b x bt).1 e;
        phase_is = record {
          inside = record { input = subst (IsPort z.shape) same ok.inside.input; output = ok.inside.output };
          middle = ok.middle;
          in_is = ap (λ (x : Port). in_word z.shape m.registers (module_of z.shape x) w.middle) (sym same) ∙ (ok.in_is ∙ ap (λ (x : Port). slot_of z.shape x + 1) same);
          mid_is = ok.mid_is ∙ ap (λ (x : Port). module_of z.shape x + 1) same;
          apart = λ u v at e. let t = kept u v at in absurd (t.0 (r.apart u y v w t.1 can.1.here (e ∙ sym same)));
          same = λ v at. absurd ((kept y v at).0 refl);
        };
      }
    where
      stays : (u : Port) → u ≢ l.output → (e : Option Route) → IsOutOf m u e → IsOutOf (out_cleared l w.middle m) u e
      stays u other None o = else_port m.registers.outs l.output u 0 0 other ∙ o
      stays u other (Some v) o = (o.0, else_port m.registers.outs l.output u 0 0 other ∙ o.1, o.2, o.3)

      kept : (u : Port) (v : Route) → leg_at (out_cleared l w.middle m) u ≡ Some v → (u ≢ l.output) × (leg_at m u ≡ Some v)
      kept u v at = ⊎_elim (λ (t : (u ≡ l.output) × (None ≡ Some v)). let e = t.1 in absurd (cc)) (λ (t : (u ≢ l.output) × (leg_at m u ≡ Some v)). t) (legs_set l.output u None v at (r.leg_is l.output w can.1.here).inside.output)
