-- A worker's steps keep what the rule says of it.
use Rattle.std.proofs.Common.{◌≡◌, ◌≢◌, ℕ, ◌+◌, ◌-◌, ◌%◌, ◌^◌, ◌<◌, [], ◌∷◌, ◌++◌, sym, refl, ap, ◌∙◌, inl, inr, subst, arith, Option, Some, None, eq-eqb, ne_eqb}
use Rattle.dxc_num.specs.Dimensions.{Dimensions, IsPort, module_of, slot_of, leg_between}
use Rattle.dxc_num.specs.declared.port.Port.{Port}
use Rattle.dxc_num.specs.declared.port.Middle.{Middle}
use Rattle.dxc_num.specs.declared.port.Route.{Route}
use Rattle.fabric_core.specs.declared.size.Size.{Size}
use Rattle.fabric_core.specs.declared.worker.Hold.{Hold}
use Rattle.fabric_core.specs.declared.worker.Hold.TheVariants.{Empty, Output, Path}
use Rattle.fabric_core.specs.declared.worker.Note.TheVariants.{OutWord, MidWord, InWord, Carried}
use Rattle.fabric_core.specs.declared.mover.Mover.{Mover}
use Rattle.fabric_core.specs.declared.worker.Worker.{Worker}
use Rattle.fabric_core.specs.Registers.{in_cell, mid_cell, in_count, mid_count, in_word, mid_word, out_word, middle_in, number_in, out_of, port_at}
use Rattle.fabric_core.specs.State.{IsSize, leg_at}
use Rattle.fabric_core.specs.Working.{Runs, CanBegin, CanLoadOut, begun, out_loaded, mid_loaded, in_loaded, hold_of, with_module, carried_by, named_mid, named_in, HasOutput, HasPath}
use Rattle.fabric_core.specs.Moving.{IsMiddle}
use Rattle.fabric_core.specs.Notes.{noted, Numbered}
use Rattle.fabric_core.specs.Laid.{IsOutOf, IsHalfLaid, IsPhaseLaid, IsLaidOut}
use Rattle.fabric_core.specs.Rule.{IsHeld, IsHoldRuled, IsWorkerRuled}
use Rattle.fabric_core.proofs.Cells.{module_lt, in_cell_lt, mid_cell_lt, port_is, middle_is, number_is}
use Rattle.fabric_core.proofs.Noting.{last_here, last_mid, noted_here, noted_mid, noted_in, notes_more, AreRight}

hold_some : (y : Port) (o : ℕ) → o ≢ 0 → Output y (number_in o) (middle_in o) ≡ hold_of y o
hold_some y o h = rw (ne_eqb o 0 h)

hold_none : (y : Port) (o : ℕ) → o ≡ 0 → Empty ≡ hold_of y o
hold_none y o h = rw (eq-eqb o 0 h)

-- the rule of a worker, from its hold, its frame word and its notes
pub ruled : (d : Dimensions) (m : Mover) (v : Worker) → IsHoldRuled d m v v.hold → v.frame + v.frame % 2 < 2 ^ 63 → AreRight m.log v.notes → IsWorkerRuled d m v
ruled d m v hold low notes = record { hold_is = hold; may_end = low; logged = notes.logged; of_last_word = notes.of_last_word; found = notes.found }

pub notes_of : (d : Dimensions) (m : Mover) (v : Worker) → IsWorkerRuled d m v → AreRight m.log v.notes
notes_of d m v k = record { logged = k.logged; of_last_word = k.of_last_word; found = k.found }

module _ (z : Size) (m : Mover) (s : IsSize z) (r : IsLaidOut z m) where
  pub begins : (v : Worker) → CanBegin v → IsWorkerRuled z.shape m v → IsWorkerRuled z.shape m (begun v)
  begins v can k = ruled z.shape m (begun v) tt (omega arith) (notes_of z.shape m v k)

  pub ends : (v : Worker) → Runs v → IsWorkerRuled z.shape m v → IsWorkerRuled z.shape m (begun v)
  ends v runs k = ruled z.shape m (begun v) tt (let low = k.may_end in omega arith) (notes_of z.shape m v k)

  -- the hold that a load of OUT gives
  loaded : (v : Worker) (y : Port) (e : Option Route) → Runs v → leg_at m y ≡ e → IsOutOf m y e → IsHoldRuled z.shape m (out_loaded y (out_word m.registers y) v) (hold_of y (out_word m.registers y))
  loaded v y None runs is ok = subst (IsHoldRuled z.shape m (out_loaded y (out_word m.registers y) v)) (hold_none y (out_word m.registers y) ok) tt
  loaded v y (Some w) runs is ok =
      let o : ℕ = out_word m.registers y in
      let n : ℕ = ok.0 in
      let o_is : o ≡ out_of n w.middle = ok.1 in
      let slots = s.shape.most_slots in
      let inside = (r.leg_is y w is).middle in
      let low : w.middle.0 < 255 = omega arith in
      let number : n ≡ number_in o = sym (ap number_in o_is ∙ number_is n w.middle low) in
      let middle : w.middle ≡ middle_in o = sym (ap middle_in o_is ∙ middle_is n w.middle low) in
      let held : IsHeld m v y n w.middle w.input = (ok.2, inl (ok.3, is)) in
      subst (IsHoldRuled z.shape m (out_loaded y o v)) (hold_some y o (λ e. omega arith))
      (runs, ap number_in (noted_here y 0 v.notes o), (w.input, subst (λ (p : ℕ × Middle). IsHeld m v y p.0 p.1 w.input) (λ j. (number j, middle j)) held), (o, last_here None v.notes y o, refl, refl))

  pub loads_out : (v : Worker) (y : Port) → CanLoadOut z y v → IsWorkerRuled z.shape m v → IsWorkerRuled z.shape m (out_loaded y (out_word m.registers y) v)
  loads_out v y can k = ruled z.shape m (out_loaded y (out_word m.registers y) v) (loaded v y (leg_at m y) can.0 refl (r.out_is y can.1)) k.may_end
      (notes_more m.log v.notes (OutWord y (out_word m.registers y)) (notes_of z.shape m v k) tt)

  -- the words that a hold names
  held_words : (v : Worker) (y : Port) (n : ℕ) (k : Middle) (x : Port) → IsHeld m v y n k x
      → (mid_word z.shape m.registers k (module_of z.shape y) ≡ module_of z.shape x + 1) × (in_word z.shape m.registers (module_of z.shape x) k ≡ slot_of z.shape x + 1)
  held_words v y n k x (log, inl a) = let ok = r.leg_is y (record { input = x; middle = k }) a.1 in (ok.mid_is, ok.in_is)
  held_words v y n k x (log, inr b) = let half : IsHalfLaid z.shape m (leg_between x y) k (module_of z.shape x + 1) = subst (IsPhaseLaid z.shape m) b.0 r.phase_is in (half.mid_is, half.in_is)

  mid_loads : (v : Worker) (h : Hold) → v.hold ≡ h → HasOutput h → IsHoldRuled z.shape m v h → v.frame + v.frame % 2 < 2 ^ 63 → AreRight m.log v.notes
      → IsWorkerRuled z.shape m (mid_loaded (named_mid z.shape m.registers v.hold) v)
  mid_loads v Empty is has h low notes = absurd has
  mid_loads v (Path y n k i) is has h low notes = absurd has
  mid_loads v (Output y n k) is has h low notes =
      let x : Port = h.2.0 in
      let words = held_words v y n k x h.2.1 in
      let q : ℕ = mid_word z.shape m.registers k (module_of z.shape y) in
      let less : q - 1 ≡ module_of z.shape x = omega arith in
      let v' : Worker = record { number = v.number; frame = v.frame; hold = Path y n k (q - 1); notes = v.notes ++ MidWord q ∷ [] } in
      subst (λ (g : Hold). IsWorkerRuled z.shape m (record { number = v.number; frame = v.frame; hold = with_module (named_mid z.shape m.registers g - 1) g; notes = v.notes ++ MidWord (named_mid z.shape m.registers g) ∷ [] })) (sym is)
      (ruled z.shape m v' (h.0, ap number_in (noted_mid y 0 v.notes q) ∙ h.1, (x, h.2.1, less), (h.3.0, last_mid None v.notes q ∙ h.3.1, h.3.2, h.3.3)) low
      (notes_more m.log v.notes (MidWord q) notes (λ e. omega arith)))

  pub loads_mid : (v : Worker) → HasOutput v.hold → IsWorkerRuled z.shape m v → IsWorkerRuled z.shape m (mid_loaded (named_mid z.shape m.registers v.hold) v)
  loads_mid v has k = mid_loads v v.hold refl has k.hold_is k.may_end (notes_of z.shape m v k)

  in_loads : (v : Worker) (h : Hold) → v.hold ≡ h → HasPath h → IsHoldRuled z.shape m v h → v.frame + v.frame % 2 < 2 ^ 63 → AreRight m.log v.notes
      → IsWorkerRuled z.shape m (in_loaded z.shape (named_in z.shape m.registers v.hold) v)
  in_loads v Empty is has h low notes = absurd has
  in_loads v (Output y n k) is has h low notes = absurd has
  in_loads v (Path y n k i) is has h low notes =
      let x : Port = h.2.0 in
      let words = held_words v y n k x h.2.1 in
      let i_is : i ≡ module_of z.shape x = h.2.2 in
      let q : ℕ = in_word z.shape m.registers i k in
      let q_is : q ≡ slot_of z.shape x + 1 = ap (λ (j : ℕ). in_word z.shape m.registers j k) i_is ∙ words.1 in
      let less : q - 1 ≡ slot_of z.shape x = omega arith in
      let port : port_at z.shape i (q - 1) ≡ x = (λ j. port_at z.shape (i_is j) (less j)) ∙ port_is z.shape x in
      let before : number_in (noted y (v.notes ++ InWord q ∷ [])) ≡ n = ap number_in (noted_in y 0 v.notes q) ∙ h.1 in
      let v' : Worker = record { number = v.number; frame = v.frame; hold = Empty; notes = (v.notes ++ InWord q ∷ []) ++ Carried y n (port_at z.shape i (q - 1)) ∷ [] } in
      subst (λ (g : Hold). IsWorkerRuled z.shape m (record { number = v.number; frame = v.frame; hold = Empty; notes = (v.notes ++ InWord (named_in z.shape m.registers g) ∷ []) ++ carried_by z.shape (named_in z.shape m.registers g) g })) (sym is)
      (ruled z.shape m v' tt low (notes_more m.log (v.notes ++ InWord q ∷ []) (Carried y n (port_at z.shape i (q - 1))) (notes_more m.log v.notes (InWord q) notes (λ e. omega arith))
      (subst (λ (a : Port). Numbered m.log n (leg_between a y)) (sym port) h.2.1.0, before)))

  pub loads_in : (v : Worker) → HasPath v.hold → IsWorkerRuled z.shape m v → IsWorkerRuled z.shape m (in_loaded z.shape (named_in z.shape m.registers v.hold) v)
  loads_in v has k = in_loads v v.hold refl has k.hold_is k.may_end (notes_of z.shape m v k)

  pub held_inside : (v : Worker) (y : Port) (n : ℕ) (k : Middle) (x : Port) → IsHeld m v y n k x → (IsPort z.shape x) × (IsPort z.shape y) × IsMiddle z.shape k
  held_inside v y n k x (log, inl a) = let ok = r.leg_is y (record { input = x; middle = k }) a.1 in (ok.inside.input, ok.inside.output, ok.middle)
  held_inside v y n k x (log, inr b) = let half : IsHalfLaid z.shape m (leg_between x y) k (module_of z.shape x + 1) = subst (IsPhaseLaid z.shape m) b.0 r.phase_is in (half.inside.input, half.inside.output, half.middle)

  -- the MID word that a hold names is of the shape, and names a module of it
  pub output_inside : (v : Worker) (y : Port) (n : ℕ) (k : Middle) → IsHoldRuled z.shape m v (Output y n k)
      → (IsPort z.shape y) × IsMiddle z.shape k × (mid_cell z.shape k (module_of z.shape y) < mid_count z.shape) × (mid_word z.shape m.registers k (module_of z.shape y) ≢ 0) × (mid_word z.shape m.registers k (module_of z.shape y) - 1 < z.shape.modules)
  output_inside v y n k h =
      let x : Port = h.2.0 in
      let words = held_words v y n k x h.2.1 in
      let low = held_inside v y n k x h.2.1 in
      let j = module_lt z.shape x s.shape low.0 in
      (low.1, low.2, mid_cell_lt z.shape k (module_of z.shape y) low.2 (module_lt z.shape y s.shape low.1), (λ e. omega arith), omega arith)

  -- the IN word that a hold names is of the shape, and names a port of it
  pub path_inside : (v : Worker) (y : Port) (n : ℕ) (k : Middle) (i : ℕ) → IsHoldRuled z.shape m v (Path y n k i)
      → (IsPort z.shape y) × IsMiddle z.shape k × (i < z.shape.modules) × (in_cell z.shape i k < in_count z.shape) × (in_word z.shape m.registers i k ≢ 0) × IsPort z.shape (port_at z.shape i (in_word z.shape m.registers i k - 1))
  path_inside v y n k i h =
      let x : Port = h.2.0 in
      let words = held_words v y n k x h.2.1 in
      let low = held_inside v y n k x h.2.1 in
      let i_is : i ≡ module_of z.shape x = h.2.2 in
      let j = module_lt z.shape x s.shape low.0 in
      let below : i < z.shape.modules = omega arith in
      let q : ℕ = in_word z.shape m.registers i k in
      let q_is : q ≡ slot_of z.shape x + 1 = ap (λ (a : ℕ). in_word z.shape m.registers a k) i_is ∙ words.1 in
      let less : q - 1 ≡ slot_of z.shape x = omega arith in
      let port : port_at z.shape i (q - 1) ≡ x = (λ a. port_at z.shape (i_is a) (less a)) ∙ port_is z.shape x in
      (low.1, low.2, below, in_cell_lt z.shape i k below low.2, (λ e. omega arith), subst (IsPort z.shape) (sym port) low.0)
