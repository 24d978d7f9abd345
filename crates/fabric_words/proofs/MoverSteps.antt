-- Each step of the mover's seat keeps the table's rule.
use Rattle.std.proofs.Common.{◌≡◌, ◌⊎◌, ℕ, ◌+◌, ◌<◌, List, ◌++◌, map, length, get_or, set, sym, refl, ap, ◌∙◌, inl, inr, subst, ⊎_elim, arith, Option, Some, None, eqb, eq-eqb}
use Rattle.std.proofs.lemmas.List.{set-get_or}
use mathlib.Core.Option.{none, some, some-injective}
use lib.ListN.{get_elem?}
use prog.Atomic.{either}
use Rattle.atomic_table.specs.Table.{State, Me, step, keeps, Allows}
use Rattle.atomic_table.proofs.Lists.{at_map, set_again}
use Rattle.dxc_num.specs.Dimensions.{IsPort, ports, module_of, slot_of, leg_between}
use Rattle.dxc_num.specs.declared.port.Port.{Port}
use Rattle.dxc_num.specs.declared.port.Leg.{Leg}
use Rattle.dxc_num.specs.declared.port.Middle.{Middle}
use Rattle.dxc_num.specs.declared.port.Route.{Route}
use Rattle.dxc_num.specs.declared.register.Reg.{Reg}
use Rattle.dxc_num.specs.declared.register.Reg.TheVariants.{In, Mid, Out}
use Rattle.fabric_core.specs.declared.size.Size.{Size}
use Rattle.fabric_core.specs.declared.event.CoreEvent.{CoreEvent}
use Rattle.fabric_core.specs.declared.event.CoreEvent.TheVariants.{SetIn, SetMid, SwitchOut, ClearOut, Look, ClearMid, ClearIn}
use Rattle.fabric_core.specs.declared.phase.Phase.TheVariants.{InSet, MidSet, Old, Freed}
use Rattle.fabric_core.specs.declared.registers.Registers.{Registers}
use Rattle.fabric_core.specs.declared.mover.Mover.{Mover}
use Rattle.fabric_core.specs.declared.worker.Worker.{Worker}
use Rattle.fabric_core.specs.Registers.{in_cell, mid_cell, in_count, mid_count, out_word, middle_in, out_of}
use Rattle.fabric_core.specs.State.{Core, leg_at}
use Rattle.fabric_core.specs.Moving.{IsEstablished, CanSetIn, HasSwitch, CanClearOut, CanClearMid, CanClearIn, in_set, mid_set, switched, out_cleared, looked, mid_cleared, in_cleared}
use Rattle.fabric_core.specs.Steps.{MoverSteps, Moves, with_mover, Steps}
use Rattle.fabric_core.specs.Laid.{IsOutOf, IsHalfLaid, IsPhaseLaid, IsLaidOut}
use Rattle.fabric_core.proofs.Cells.{module_lt, in_cell_lt, mid_cell_lt, middle_is}
use Rattle.fabric_core.proofs.Acting.{there_at}
use Rattle.fabric_words.specs.declared.table.Aim.{Aim}
use Rattle.fabric_words.specs.declared.table.View.{View}
use Rattle.fabric_words.specs.declared.table.View.TheVariants.{AsMover}
use Rattle.fabric_words.specs.Places.{reg_place, reg_word, IsRegInside, mid_place, out_place, frame_place}
use Rattle.fabric_words.specs.Tied.{frame_of, words_with, Tied}
use Rattle.fabric_words.specs.Plays.{Shows, set_in, set_mid, switched_out, cleared_out, looked_at, cleared_mid, cleared_in, read}
use Rattle.fabric_words.proofs.Rows.{first_at, second_at, third_at, fourth_at, first_set, second_set, third_set}
use Rattle.fabric_words.proofs.Ties.{turns, rule, same_size, mover_is, mover_ties}
use Rattle.fabric_words.proofs.WorkerSteps.{mover_ok, get_found}

module _ (z : Size) (s : State Aim View) (t : Tied z s) (id d : ℕ) (m : Mover) (at : get_elem? s.views id ≡ some (AsMover z d m)) where
  pub ok : IsLaidOut z m
  ok = subst (IsLaidOut z) (sym (mover_is z s t id z d m at)) (mover_ok z s t)

  pub words : s.words ≡ words_with m.registers t.core.workers
  words = subst (λ (p : Mover). s.words ≡ words_with p.registers t.core.workers) (sym (mover_is z s t id z d m at)) t.words_are

  pub moves_tie : (e : CoreEvent) (m' : Mover) (ws : List ℕ) → ((c : Core) → MoverSteps t.core e c → Steps t.core e c) → Moves z m e m' → ws ≡ words_with m'.registers t.core.workers
      → Tied z record { words = ws; homes = s.homes; views = set s.views id (AsMover z d m') }
  moves_tie e m' ws lifts does is = mover_ties z s t id d m m' e ws at
      (lifts (with_mover t.core m') (m', subst (λ (p : Size × Mover). Moves p.0 p.1 e m') (λ i. (sym (same_size z s t) i, mover_is z s t id z d m at i)) does, refl)) is

  pub phase_half : (p : _) → m.phase ≡ p → IsPhaseLaid z.shape m p
  phase_half p e = subst (IsPhaseLaid z.shape m) e ok.phase_is

  -- the words of the rows, and what a write makes of them
  pub in_at : (i : ℕ) → i < in_count z.shape → get_or s.words i 0 ≡ get_or m.registers.ins i 0
  in_at i h = let r : Registers = m.registers in ap (λ (ws : List ℕ). get_or ws i 0) words ∙ first_at r.ins r.mids r.outs (map frame_of t.core.workers) (in_count z.shape) (mid_count z.shape) (ports z.shape) ok.ins ok.mids ok.outs i h

  pub mid_at : (i : ℕ) → i < mid_count z.shape → get_or s.words (in_count z.shape + i) 0 ≡ get_or m.registers.mids i 0
  mid_at i h = let r : Registers = m.registers in ap (λ (ws : List ℕ). get_or ws (in_count z.shape + i) 0) words ∙ second_at r.ins r.mids r.outs (map frame_of t.core.workers) (in_count z.shape) (mid_count z.shape) (ports z.shape) ok.ins ok.mids ok.outs i h

  pub out_at : (y : Port) → IsPort z.shape y → get_or s.words (out_place z.shape y) 0 ≡ out_word m.registers y
  out_at y h = let r : Registers = m.registers in ap (λ (ws : List ℕ). get_or ws (out_place z.shape y) 0) words ∙ third_at r.ins r.mids r.outs (map frame_of t.core.workers) (in_count z.shape) (mid_count z.shape) (ports z.shape) ok.ins ok.mids ok.outs y.0 h

  pub in_put : (i x : ℕ) → i < in_count z.shape → set s.words i x ≡ set m.registers.ins i x ++ (m.registers.mids ++ (m.registers.outs ++ map frame_of t.core.workers))
  in_put i x h = let r : Registers = m.registers in ap (λ (ws : List ℕ). set ws i x) words ∙ first_set r.ins r.mids r.outs (map frame_of t.core.workers) (in_count z.shape) (mid_count z.shape) (ports z.shape) ok.ins ok.mids ok.outs i x h

  pub mid_put : (i x : ℕ) → i < mid_count z.shape → set s.words (in_count z.shape + i) x ≡ m.registers.ins ++ (set m.registers.mids i x ++ (m.registers.outs ++ map frame_of t.core.workers))
  mid_put i x h = let r : Registers = m.registers in ap (λ (ws : List ℕ). set ws (in_count z.shape + i) x) words ∙ second_set r.ins r.mids r.outs (map frame_of t.core.workers) (in_count z.shape) (mid_count z.shape) (ports z.shape) ok.ins ok.mids ok.outs i x h

  pub out_put : (y : Port) (x : ℕ) → IsPort z.shape y → set s.words (out_place z.shape y) x ≡ m.registers.ins ++ (m.registers.mids ++ (set m.registers.outs y.0 x ++ map frame_of t.core.workers))
  out_put y x h = let r : Registers = m.registers in ap (λ (ws : List ℕ). set ws (out_place z.shape y) x) words ∙ third_set r.ins r.mids r.outs (map frame_of t.core.workers) (in_count z.shape) (mid_count z.shape) (ports z.shape) ok.ins ok.mids ok.outs y.0 x h

  -- an OUT word shows the leg of its output
  pub shows : (y : Port) (n : ℕ) → IsPort z.shape y → n ≡ out_word m.registers y → Shows (leg_at m y) n
  shows y n low e = go (leg_at m y) refl (ok.out_is y low)
    where
      go : (o : Option Route) → leg_at m y ≡ o → IsOutOf m y o → Shows o n
      go None is h = e ∙ h
      go (Some w) is h = let low = (ok.leg_is y w is).middle in let slots = t.sized.shape.most_slots in let o_is : n ≡ out_of h.0 w.middle = e ∙ h.1 in
          ((λ b. omega arith), ap middle_in o_is ∙ middle_is h.0 w.middle (omega arith))

pub sets_in : (slots id : ℕ) (me : Me Aim View) (z : Size) (d : ℕ) (m : Mover) (a : Aim) → me.0 ≡ AsMover z d m → CanSetIn z.shape m a.leg a.middle
    → Allows (Tied z) slots id me (in_cell z.shape (module_of z.shape a.leg.input) a.middle) (λ n. either (eqb n 0) (slot_of z.shape a.leg.input + 1) n)
    (set_in (step slots (in_cell z.shape (module_of z.shape a.leg.input) a.middle) 0 (slot_of z.shape a.leg.input + 1) (some a)) me)
sets_in slots id me z d m a is can s t _ at _ =
    let l : Leg = a.leg in
    let k : Middle = a.middle in
    let i : ℕ = in_cell z.shape (module_of z.shape l.input) k in
    let x : ℕ = slot_of z.shape l.input + 1 in
    let at' : get_elem? s.views id ≡ some (AsMover z d m) = at ∙ ap (λ (v : View). some v) is in
    let room = in_cell_lt z.shape (module_of z.shape l.input) k (module_lt z.shape l.input t.sized.shape can.inside.input) can.middle in
    let none_yet : get_or s.words i 0 ≡ 0 = in_at z s t id d m at' i room ∙ can.in_none in
    let m' : Mover = in_set z.shape l k m in (
      AsMover z d m',
      keeps,
      tt,
      subst (λ b. Tied z record { words = set s.words i (either b x (get_or s.words i 0)); homes = s.homes; views = set s.views id (AsMover z d m') }) (sym (eq-eqb (get_or s.words i 0) 0 none_yet))
          (moves_tie z s t id d m at' (SetIn l k) m' (set s.words i x) (λ c h. h) (can, refl) (in_put z s t id d m at' i x room)),
      turns me z d m m' (λ u p p'. (b : Aim) → some a ≡ some b → p' ≡ in_set u.shape b.leg b.middle p) is (λ b e. ap (λ (c : Aim). in_set z.shape c.leg c.middle m) (some-injective a b e)),
    )

pub sets_mid : (slots id : ℕ) (me : Me Aim View) (z : Size) (d : ℕ) (m : Mover) (l : Leg) (k : Middle) → me.0 ≡ AsMover z d m → m.phase ≡ InSet l k
    → Allows (Tied z) slots id me (mid_place z.shape k (module_of z.shape l.output)) (λ _. module_of z.shape l.input + 1)
    (λ _. set_mid (step slots (mid_place z.shape k (module_of z.shape l.output)) (module_of z.shape l.input + 1) 0 none) me (module_of z.shape l.input + 1))
sets_mid slots id me z d m l k is phase s t _ at _ =
    let j : ℕ = module_of z.shape l.output in
    let x : ℕ = module_of z.shape l.input + 1 in
    let at' : get_elem? s.views id ≡ some (AsMover z d m) = at ∙ ap (λ (v : View). some v) is in
    let half : IsHalfLaid z.shape m l k 0 = phase_half z s t id d m at' (InSet l k) phase in
    let room = mid_cell_lt z.shape k j half.middle (module_lt z.shape l.output t.sized.shape half.inside.output) in
    let m' : Mover = mid_set z.shape l k m in (
      AsMover z d m',
      keeps,
      tt,
      moves_tie z s t id d m at' SetMid m' (set s.words (mid_place z.shape k j) x) (λ c h. h) (l, k, phase, refl) (mid_put z s t id d m at' (mid_cell z.shape k j) x room),
      turns me z d m m' (λ u p p'. (a : Leg) (b : Middle) → p.phase ≡ InSet a b → p' ≡ mid_set u.shape a b p) is
          (λ a b e. let f : InSet l k ≡ InSet a b = sym phase ∙ e in let g : l ≡ a = cc in let h : k ≡ b = cc in λ i. mid_set z.shape (g i) (h i) m),
    )

pub switches : (slots id : ℕ) (me : Me Aim View) (z : Size) (d : ℕ) (m : Mover) (l : Leg) (k : Middle) → me.0 ≡ AsMover z d m → m.phase ≡ MidSet l k → HasSwitch m
    → Allows (Tied z) slots id me (out_place z.shape l.output) (λ _. out_of (length m.log + 1) k) (switched_out (step slots (out_place z.shape l.output) (out_of (length m.log + 1) k) 0 none) me)
switches slots id me z d m l k is phase room s t _ at _ =
    let y : Port = l.output in
    let at' : get_elem? s.views id ≡ some (AsMover z d m) = at ∙ ap (λ (v : View). some v) is in
    let half : IsHalfLaid z.shape m l k (module_of z.shape l.input + 1) = phase_half z s t id d m at' (MidSet l k) phase in
    let low = half.inside.output in
    let n : ℕ = get_or s.words (out_place z.shape y) 0 in
    let seen : Shows (leg_at m y) n = shows z s t id d m at' y n low (out_at z s t id d m at' y low) in
    let m' : Mover = switched l k m in (
      AsMover z d m',
      keeps,
      tt,
      moves_tie z s t id d m at' SwitchOut m' (set s.words (out_place z.shape y) (out_of (length m.log + 1) k)) (λ c h. h) (l, k, phase, room, refl) (out_put z s t id d m at' y (out_of (length m.log + 1) k) low),
      turns me z d m m' (λ u p p'. (a : Leg) (b : Middle) → p.phase ≡ MidSet a b → (p' ≡ switched a b p) × Shows (leg_at p a.output) n) is
          (λ a b e. let f : MidSet l k ≡ MidSet a b = sym phase ∙ e in let g : l ≡ a = cc in let h : k ≡ b = cc in
          ((λ i. switched (g i) (h i) m), subst (λ (c : Leg). Shows (leg_at m c.output) n) g seen)),
    )

pub clears_out : (slots id : ℕ) (me : Me Aim View) (z : Size) (d : ℕ) (m : Mover) (l : Leg) (w : Route) → me.0 ≡ AsMover z d m → CanClearOut m l w
    → Allows (Tied z) slots id me (out_place z.shape l.output) (λ _. 0) (cleared_out (step slots (out_place z.shape l.output) 0 0 none) me)
clears_out slots id me z d m l w is can s t _ at _ =
    let y : Port = l.output in
    let at' : get_elem? s.views id ≡ some (AsMover z d m) = at ∙ ap (λ (v : View). some v) is in
    let low = ((ok z s t id d m at').leg_is y w can.1.here).inside.output in
    let n : ℕ = get_or s.words (out_place z.shape y) 0 in
    let seen : Shows (Some w) n = subst (λ (o : Option Route). Shows o n) can.1.here (shows z s t id d m at' y n low (out_at z s t id d m at' y low)) in
    let m' : Mover = out_cleared l w.middle m in (
      AsMover z d m',
      keeps,
      tt,
      moves_tie z s t id d m at' (ClearOut l) m' (set s.words (out_place z.shape y) 0) (λ c h. h) (w, can, refl) (out_put z s t id d m at' y 0 low),
      turns me z d m m' (λ u p p'. (a : Leg) (v : Route) → out_place z.shape y ≡ out_place u.shape a.output → IsEstablished p a v → (p' ≡ out_cleared a v.middle p) × (middle_in n ≡ v.middle)) is
          (λ a v e f. let same : y.0 ≡ a.output.0 = omega arith in let at_y : y ≡ a.output = λ i. record { 0 = same i } in
          let h : Some w ≡ Some v = sym can.1.here ∙ (ap (leg_at m) at_y ∙ f.here) in let wv : w ≡ v = cc in
          let la : l ≡ a = λ i. leg_between ((sym can.1.same ∙ (ap (λ (c : Route). c.input) wv ∙ f.same)) i) (at_y i) in
          ((λ i. out_cleared (la i) (ap (λ (c : Route). c.middle) wv i) m), seen.1 ∙ ap (λ (c : Route). c.middle) wv)),
    )

pub clears_in : (slots id : ℕ) (me : Me Aim View) (z : Size) (d : ℕ) (m : Mover) (l : Leg) (k : Middle) → me.0 ≡ AsMover z d m → CanClearIn m l k
    → Allows (Tied z) slots id me (in_cell z.shape (module_of z.shape l.input) k) (λ _. 0) (λ _. cleared_in (step slots (in_cell z.shape (module_of z.shape l.input) k) 0 0 none) me 0)
clears_in slots id me z d m l k is can s t _ at _ =
    let i : ℕ = in_cell z.shape (module_of z.shape l.input) k in
    let at' : get_elem? s.views id ≡ some (AsMover z d m) = at ∙ ap (λ (v : View). some v) is in
    let half : IsHalfLaid z.shape m l k 0 = ⊎_elim (λ p. phase_half z s t id d m at' (InSet l k) p) (λ p. phase_half z s t id d m at' (Freed l k) p) can in
    let room = in_cell_lt z.shape (module_of z.shape l.input) k (module_lt z.shape l.input t.sized.shape half.inside.input) half.middle in
    let m' : Mover = in_cleared z.shape l k m in (
      AsMover z d m',
      keeps,
      tt,
      moves_tie z s t id d m at' ClearIn m' (set s.words i 0) (λ c h. h) (l, k, can, refl) (in_put z s t id d m at' i 0 room),
      turns me z d m m' (λ u p p'. (a : Leg) (b : Middle) → CanClearIn p a b → p' ≡ in_cleared u.shape a b p) is (λ a b e. let same = one_path m l a k b can e in λ j. in_cleared z.shape (same.0 j) (same.1 j) m),
    )
  where
    one_path : (m : Mover) (l a : Leg) (k b : Middle) → CanClearIn m l k → CanClearIn m a b → (l ≡ a) × (k ≡ b)
    one_path m l a k b (inl p) (inl q) = let f : InSet l k ≡ InSet a b = sym p ∙ q in (cc, cc)
    one_path m l a k b (inl p) (inr q) = let f : InSet l k ≡ Freed a b = sym p ∙ q in absurd (cc)
    one_path m l a k b (inr p) (inl q) = let f : Freed l k ≡ InSet a b = sym p ∙ q in absurd (cc)
    one_path m l a k b (inr p) (inr q) = let f : Freed l k ≡ Freed a b = sym p ∙ q in (cc, cc)

pub clears_mid : (slots id : ℕ) (me : Me Aim View) (z : Size) (d : ℕ) (m : Mover) (l : Leg) (k : Middle) → me.0 ≡ AsMover z d m → CanClearMid z m l k
    → Allows (Tied z) slots id me (mid_place z.shape k (module_of z.shape l.output)) (λ _. 0) (λ _. cleared_mid (step slots (mid_place z.shape k (module_of z.shape l.output)) 0 0 none) me 0)
clears_mid slots id me z d m l k is can s t _ at _ =
    let j : ℕ = module_of z.shape l.output in
    let at' : get_elem? s.views id ≡ some (AsMover z d m) = at ∙ ap (λ (v : View). some v) is in
    let half : IsHalfLaid z.shape m l k (module_of z.shape l.input + 1) = ⊎_elim (λ p. phase_half z s t id d m at' (MidSet l k) p) (λ p. phase_half z s t id d m at' (Old l k) p.0) can in
    let room = mid_cell_lt z.shape k j half.middle (module_lt z.shape l.output t.sized.shape half.inside.output) in
    let m' : Mover = mid_cleared z.shape l k m in (
      AsMover z d m',
      keeps,
      tt,
      moves_tie z s t id d m at' ClearMid m' (set s.words (mid_place z.shape k j) 0) (λ c h. h) (l, k, can, refl) (mid_put z s t id d m at' (mid_cell z.shape k j) 0 room),
      turns me z d m m' (λ u p p'. (a : Leg) (b : Middle) → (p.phase ≡ MidSet a b) ⊎ (p.phase ≡ Old a b) → p' ≡ mid_cleared u.shape a b p) is
          (λ a b e. let same = one_path m l a k b (⊎_elim (λ p. inl p) (λ p. inr p.0) can) e in λ i. mid_cleared z.shape (same.0 i) (same.1 i) m),
    )
  where
    one_path : (m : Mover) (l a : Leg) (k b : Middle) → (m.phase ≡ MidSet l k) ⊎ (m.phase ≡ Old l k) → (m.phase ≡ MidSet a b) ⊎ (m.phase ≡ Old a b) → (l ≡ a) × (k ≡ b)
    one_path m l a k b (inl p) (inl q) = let f : MidSet l k ≡ MidSet a b = sym p ∙ q in (cc, cc)
    one_path m l a k b (inl p) (inr q) = let f : MidSet l k ≡ Old a b = sym p ∙ q in absurd (cc)
    one_path m l a k b (inr p) (inl q) = let f : Old l k ≡ MidSet a b = sym p ∙ q in absurd (cc)
    one_path m l a k b (inr p) (inr q) = let f : Old l k ≡ Old a b = sym p ∙ q in (cc, cc)

pub looks : (slots id : ℕ) (me : Me Aim View) (z : Size) (d : ℕ) (m : Mover) (w : ℕ) → me.0 ≡ AsMover z d m → w < z.workers
    → Allows (Tied z) slots id me (frame_place z.shape w) (λ n. n) (looked_at (step slots (frame_place z.shape w) 0 0 none) me)
looks slots id me z d m w is low s t _ at _ =
    let i : ℕ = frame_place z.shape w in
    let n : ℕ = get_or s.words i 0 in
    let at' : get_elem? s.views id ≡ some (AsMover z d m) = at ∙ ap (λ (v : View). some v) is in
    let k = ok z s t id d m at' in
    let r : Registers = m.registers in
    let all = (rule z s t).workers in
    let size = ap (λ (u : Size). u.workers) (same_size z s t) in
    let one = there_at t.core.workers w (omega arith) in
    let v : Worker = one.0 in
    let fs : List ℕ = map frame_of t.core.workers in
    let found : n ≡ v.frame = ap (λ (ws : List ℕ). get_or ws i 0) (words z s t id d m at')
    ∙ (fourth_at r.ins r.mids r.outs fs (in_count z.shape) (mid_count z.shape) (ports z.shape) k.ins k.mids k.outs w ∙ get_found fs w v.frame (at_map frame_of t.core.workers w v one.1)) in
    let m' : Mover = looked w n m in (
      AsMover z d m',
      keeps,
      tt,
      mover_ties z s t id d m m' (Look w) (set s.words i n) at' (v, one.1, (λ j. record { size = t.core.size; mover = looked w (found j) (mover_is z s t id z d m at' j); workers = t.core.workers }))
          (set-get_or s.words i 0 ∙ words z s t id d m at'),
      turns me z d m m' (λ u p p'. (x : ℕ) → frame_place z.shape w ≡ frame_place u.shape x → p' ≡ looked x n p) is (λ x e. let same : w ≡ x = omega arith in ap (λ (y : ℕ). looked y n m) same),
    )

reg_found : (z : Size) (s : State Aim View) (t : Tied z s) (id d : ℕ) (m : Mover) (at : get_elem? s.views id ≡ some (AsMover z d m)) (r : Reg) → IsRegInside z.shape r → get_or s.words (reg_place z.shape r) 0 ≡ reg_word z.shape m.registers r
reg_found z s t id d m at (In i k) h = in_at z s t id d m at (in_cell z.shape i k) (in_cell_lt z.shape i k h.0 h.1)
reg_found z s t id d m at (Mid k j) h = mid_at z s t id d m at (mid_cell z.shape k j) (mid_cell_lt z.shape k j h.0 h.1)
reg_found z s t id d m at (Out y) h = out_at z s t id d m at y h

pub reads : (slots id : ℕ) (me : Me Aim View) (z : Size) (d : ℕ) (m : Mover) (i : ℕ) → me.0 ≡ AsMover z d m → Allows (Tied z) slots id me i (λ n. n) (read (step slots i 0 0 none) me)
reads slots id me z d m i is s t _ at _ =
    let at' : get_elem? s.views id ≡ some (AsMover z d m) = at ∙ ap (λ (v : View). some v) is in (
      me.0,
      keeps,
      tt,
      subst (λ (p : List ℕ × List View). Tied z record { words = p.0; homes = s.homes; views = p.1 }) (λ j. (sym (set-get_or s.words i 0) j, sym (set_again s.views id me.0 at) j)) t,
      (
        refl,
        λ u n p e r there inside. let f : AsMover z d m ≡ AsMover u n p = sym is ∙ e in let same : m ≡ p = cc in let size : z ≡ u = cc in
            let inside' : IsRegInside z.shape r = subst (λ (y : Size). IsRegInside y.shape r) (sym size) inside in
            ap (λ (k : ℕ). get_or s.words k 0) (there ∙ ap (λ (y : Size). reg_place y.shape r) (sym size)) ∙ (reg_found z s t id d m at' r inside' ∙ (λ j. reg_word (size j).shape (same j).registers r)),
      ),
    )
