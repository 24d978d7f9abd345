-- Which words the mover's part has: those of each established leg, and those of the path that its phase names.
use Rattle.std.specs.Prelude.{◌≡◌, ◌≢◌, ℕ, ◌+◌, length, Option, Some, None}
use Rattle.dxc_num.specs.Dimensions.{Dimensions, IsPort, IsInside, ports, module_of, slot_of, leg_between}
use Rattle.dxc_num.specs.declared.port.Port.{Port}
use Rattle.dxc_num.specs.declared.port.Leg.{Leg}
use Rattle.dxc_num.specs.declared.port.Middle.{Middle}
use Rattle.dxc_num.specs.declared.port.Route.{Route}
use Rattle.fabric_core.specs.declared.size.Size.{Size}
use Rattle.fabric_core.specs.declared.phase.Phase.{Phase}
use Rattle.fabric_core.specs.declared.phase.Phase.TheVariants.{Rest, InSet, MidSet, Old, Freed}
use Rattle.fabric_core.specs.declared.mover.Mover.{Mover}
use Rattle.fabric_core.specs.Registers.{in_count, mid_count, in_word, mid_word, out_word, out_of}
use Rattle.fabric_core.specs.State.{leg_at}
use Rattle.fabric_core.specs.Moving.{IsMiddle}
use Rattle.fabric_core.specs.Notes.{Numbered, Latest}

-- the IN and MID words of an established leg name it at its middle
pub record IsLaid (d : Dimensions) (m : Mover) (y : Port) (w : Route) : Type 0 where
  pub inside : IsInside d (leg_between w.input y)
  pub middle : IsMiddle d w.middle
  pub in_is : in_word d m.registers (module_of d w.input) w.middle ≡ slot_of d w.input + 1
  pub mid_is : mid_word d m.registers w.middle (module_of d y) ≡ module_of d w.input + 1

-- its OUT word holds its middle and the greatest number of its output; the OUT word of an output without a leg is none
abbrev pub IsOutOf : Mover → Port → Option Route → Type 0
IsOutOf m y None = out_word m.registers y ≡ 0
IsOutOf m y (Some w) = (n : ℕ) × (out_word m.registers y ≡ out_of n w.middle) × Numbered m.log n (leg_between w.input y) × Latest m.log y n

-- A path that is no established leg's, with its IN word set, and q its MID word. Only the leg at its output may have its input, at another middle
pub record IsHalfLaid (d : Dimensions) (m : Mover) (l : Leg) (k : Middle) (q : ℕ) : Type 0 where
  pub inside : IsInside d l
  pub middle : IsMiddle d k
  pub in_is : in_word d m.registers (module_of d l.input) k ≡ slot_of d l.input + 1
  pub mid_is : mid_word d m.registers k (module_of d l.output) ≡ q
  pub apart : (y : Port) (w : Route) → leg_at m y ≡ Some w → w.input ≡ l.input → (w.middle ≢ k) × (y ≡ l.output)
  pub same : (w : Route) → leg_at m l.output ≡ Some w → w.input ≡ l.input

-- the words of the path that the phase names: IN alone, or IN and MID
abbrev pub IsPhaseLaid : Dimensions → Mover → Phase → Type 0
IsPhaseLaid d m Rest = Unit {0}
IsPhaseLaid d m (InSet l k) = IsHalfLaid d m l k 0
IsPhaseLaid d m (MidSet l k) = IsHalfLaid d m l k (module_of d l.input + 1)
IsPhaseLaid d m (Old l k) = IsHalfLaid d m l k (module_of d l.input + 1)
IsPhaseLaid d m (Freed l k) = IsHalfLaid d m l k 0

-- all words are those of the established legs and of the phase, and no two legs share an input
pub record IsLaidOut (z : Size) (m : Mover) : Type 0 where
  pub ins : length m.registers.ins ≡ in_count z.shape
  pub mids : length m.registers.mids ≡ mid_count z.shape
  pub outs : length m.registers.outs ≡ ports z.shape
  pub legs : length m.legs ≡ ports z.shape
  pub looks : length m.looks ≡ z.workers
  pub out_is : (y : Port) → IsPort z.shape y → IsOutOf m y (leg_at m y)
  pub leg_is : (y : Port) (w : Route) → leg_at m y ≡ Some w → IsLaid z.shape m y w
  pub apart : (y u : Port) (w v : Route) → leg_at m y ≡ Some w → leg_at m u ≡ Some v → w.input ≡ v.input → y ≡ u
  pub phase_is : IsPhaseLaid z.shape m m.phase
