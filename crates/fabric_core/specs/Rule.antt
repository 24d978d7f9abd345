-- The rule that each of the twelve events keeps.
use Rattle.std.specs.Prelude.{◌≡◌, ◌⊎◌, ℕ, ◌+◌, ◌%◌, ◌^◌, ◌<◌, List, length, Some}
use mathlib.Core.Option.{some}
use lib.ListN.{get_elem?}
use Rattle.dxc_num.specs.Dimensions.{Dimensions, module_of, leg_between}
use Rattle.dxc_num.specs.declared.port.Port.{Port}
use Rattle.dxc_num.specs.declared.port.Middle.{Middle}
use Rattle.fabric_core.specs.declared.phase.Phase.TheVariants.{Old}
use Rattle.fabric_core.specs.declared.mover.Mover.{Mover}
use Rattle.fabric_core.specs.declared.worker.Hold.{Hold}
use Rattle.fabric_core.specs.declared.worker.Hold.TheVariants.{Empty, Output, Path}
use Rattle.fabric_core.specs.declared.worker.Worker.{Worker}
use Rattle.fabric_core.specs.Registers.{middle_in, number_in}
use Rattle.fabric_core.specs.State.{Core, leg_at, looks_of}
use Rattle.fabric_core.specs.Working.{Runs}
use Rattle.fabric_core.specs.Notes.{Numbered, Latest, noted, last_out, AreLogged, AreOfLastWord, AreFound}
use Rattle.fabric_core.specs.Owned.{IsMoverRuled}

-- each of these is f
abbrev pub AllAre : ℕ → List ℕ → Type 0
AllAre f fs = (i g : ℕ) → get_elem? fs i ≡ some g → g ≡ f

-- The number n is of the leg from x to y. It is the newest of y, and established at k; or the leg is being taken from k, and its worker was seen in no
-- frame but this
abbrev pub IsHeld : Mover → Worker → Port → ℕ → Middle → Port → Type 0
IsHeld m v y n k x = Numbered m.log n (leg_between x y)
    × ((Latest m.log y n × (leg_at m y ≡ Some (record { input = x; middle = k }))) ⊎ ((m.phase ≡ Old (leg_between x y) k) × AllAre v.frame (looks_of m v.number)))

-- the worker noted last an OUT word of y, with the number n and the middle k
abbrev pub IsNotedLast : Worker → Port → ℕ → Middle → Type 0
IsNotedLast v y n k = (o : ℕ) × (last_out v.notes ≡ Some (y, o)) × (number_in o ≡ n) × (middle_in o ≡ k)

-- a hold follows an OUT word whose number it has; the module in it is that of its leg's input
abbrev pub IsHoldRuled : Dimensions → Mover → Worker → Hold → Type 0
IsHoldRuled d m v Empty = Unit {0}
IsHoldRuled d m v (Output y n k) = Runs v × (number_in (noted y v.notes) ≡ n) × ((x : Port) × IsHeld m v y n k x) × IsNotedLast v y n k
IsHoldRuled d m v (Path y n k i) = Runs v × (number_in (noted y v.notes) ≡ n) × ((x : Port) × IsHeld m v y n k x × (i ≡ module_of d x)) × IsNotedLast v y n k

pub record IsWorkerRuled (d : Dimensions) (m : Mover) (v : Worker) : Type 0 where
  pub hold_is : IsHoldRuled d m v v.hold
  pub may_end : v.frame + v.frame % 2 < 2 ^ 63
  pub logged : AreLogged m.log v.notes
  pub of_last_word : AreOfLastWord v.notes
  pub found : AreFound v.notes

pub record IsRuled (c : Core) : Type 0 where
  pub mover : IsMoverRuled c.size c.mover
  pub workers : length c.workers ≡ c.size.workers
  pub each : (w : ℕ) (v : Worker) → get_elem? c.workers w ≡ some v → (v.number ≡ w) × IsWorkerRuled c.size.shape c.mover v
