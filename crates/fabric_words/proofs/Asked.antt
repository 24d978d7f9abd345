-- What the registers tell of the established leg at an output.
use Rattle.std.proofs.Common.{◌≡◌, ◌≢◌, ℕ, ◌+◌, ◌-◌, ◌<◌, ◌≤◌, sym, refl, ap, ◌∙◌, subst, arith, mod-lt, Option, Some, None}
use Rattle.dxc_num.specs.Dimensions.{Dimensions, IsPort, module_of, slot_of}
use Rattle.dxc_num.specs.declared.port.Port.{Port}
use Rattle.dxc_num.specs.declared.port.Route.{Route}
use Rattle.dxc_num.specs.declared.port.Middle.{Middle}
use Rattle.fabric_core.specs.declared.size.Size.{Size}
use Rattle.fabric_core.specs.declared.mover.Mover.{Mover}
use Rattle.fabric_core.specs.Registers.{in_word, mid_word, out_word, middle_in, port_at}
use Rattle.fabric_core.specs.State.{IsSize, leg_at}
use Rattle.fabric_core.specs.Moving.{IsMiddle}
use Rattle.fabric_core.specs.Laid.{IsOutOf, IsLaid}
use Rattle.fabric_core.specs.Owned.{IsMoverRuled}
use Rattle.fabric_core.proofs.Cells.{module_lt, middle_is, port_is}

module _ (z : Size) (m : Mover) (y : Port) (size : IsSize z) (ruled : IsMoverRuled z m) (inside : IsPort z.shape y) where
  -- the route that an OUT word other than none names
  pub record Found (w : Route) : Type 0 where
    pub here : leg_at m y ≡ Some w
    pub middle_is : middle_in (out_word m.registers y) ≡ w.middle
    pub laid : IsLaid z.shape m y w

  named : (e : Option Route) → leg_at m y ≡ e → IsOutOf m y e → out_word m.registers y ≢ 0 → (w : Route) × Found w
  named None is out some = absurd (some out)
  named (Some w) is out some =
      let laid = ruled.laid.leg_is y w is in let low = laid.middle in let shape = size.shape in let slots = shape.most_slots in
      (w, record { here = is; middle_is = ap middle_in out.1 ∙ middle_is out.0 w.middle (omega arith); laid = laid })

  pub found : out_word m.registers y ≢ 0 → (w : Route) × Found w
  found some = named (leg_at m y) refl (ruled.laid.out_is y inside) some

  none_of : (e : Option Route) → IsOutOf m y e → out_word m.registers y ≡ 0 → None ≡ e
  none_of None out none = refl
  none_of (Some w) out none = let is = out.1 in absurd (omega arith)

  pub not_found : out_word m.registers y ≡ 0 → None ≡ leg_at m y
  not_found none = none_of (leg_at m y) (ruled.laid.out_is y inside) none

  -- the words that lead from the output to its leg, as they are loaded
  module _ (d : Dimensions) (o : ℕ) (k : Middle) (j : ℕ) (of : d ≡ z.shape) (out : o ≡ out_word m.registers y) (some : o ≢ 0) (middle : k ≡ middle_in o) (row : j ≡ module_of d y) where
    abbrev w : Route
    w = (found (λ e. some (out ∙ e))).0

    is : Found w
    is = (found (λ e. some (out ∙ e))).1

    same : k ≡ w.middle
    same = middle ∙ (ap middle_in out ∙ is.middle_is)

    at : j ≡ module_of z.shape y
    at = row ∙ ap (λ (s : Dimensions). module_of s y) of

    pub mid_told : IsMiddle z.shape k × (j < z.shape.modules)
    mid_told = (subst (IsMiddle z.shape) (sym same) is.laid.middle, subst (λ (n : ℕ). n < z.shape.modules) (sym at) (module_lt z.shape y size.shape inside))

    module _ (q : ℕ) (mid : q ≡ mid_word z.shape m.registers k j) where
      mid_named : q ≡ module_of z.shape w.input + 1
      mid_named = mid ∙ ((λ i. mid_word z.shape m.registers (same i) (at i)) ∙ is.laid.mid_is)

      pub in_told : (1 ≤ q) × (q - 1 < z.shape.modules)
      in_told = let low = module_lt z.shape w.input size.shape is.laid.inside.input in let e = mid_named in (omega arith, omega arith)

      module _ (i : ℕ) (inn : i ≡ in_word z.shape m.registers (q - 1) k) where
        row_is : q - 1 ≡ module_of z.shape w.input
        row_is = let e = mid_named in omega arith

        in_named : i ≡ slot_of z.shape w.input + 1
        in_named = inn ∙ ((λ t. in_word z.shape m.registers (row_is t) (same t)) ∙ is.laid.in_is)

        pub port_told : (1 ≤ i) × (i - 1 < z.shape.slots)
        port_told = let low : slot_of z.shape w.input < z.shape.slots = mod-lt w.input.0 size.shape.least_slots in let e = in_named in (omega arith, omega arith)

        pub leg_told : Some (record { input = port_at d (q - 1) (i - 1); middle = k }) ≡ leg_at m y
        leg_told =
            let e : i - 1 ≡ slot_of z.shape w.input = let n = in_named in omega arith in
            (λ t. Some (record { input = port_at (of t) (row_is t) (e t); middle = same t })) ∙ (ap (λ (x : Port). Some (record { input = x; middle = w.middle })) (port_is z.shape w.input) ∙ sym is.here)
