-- A state of the fabric, and the one in which it starts.
use Rattle.std.specs.Prelude.{ℕ, zero, suc, ◌+◌, ◌<◌, ◌≤◌, List, [], ◌∷◌, replicate, slice_index_or, Option, None}
use Rattle.dxc_num.specs.Dimensions.{Dimensions, IsInLimits, ports}
use Rattle.dxc_num.specs.declared.port.Port.{Port}
use Rattle.dxc_num.specs.declared.port.Route.{Route}
use Rattle.fabric_core.specs.declared.size.Size.{Size}
use Rattle.fabric_core.specs.declared.registers.Registers.{Registers}
use Rattle.fabric_core.specs.declared.mover.Mover.{Mover}
use Rattle.fabric_core.specs.declared.phase.Phase.TheVariants.{Rest}
use Rattle.fabric_core.specs.declared.worker.Worker.{Worker}
use Rattle.fabric_core.specs.declared.worker.Hold.TheVariants.{Empty}
use Rattle.fabric_core.specs.Registers.{in_count, mid_count, route_at}

-- a shape in its limits, and 1 to 8 workers
pub record IsSize (z : Size) : Type 0 where
  pub shape : IsInLimits z.shape
  pub workers : (0 < z.workers) × (z.workers ≤ 8)

-- the whole state: what the mover changes, and what each worker changes
pub record Core : Type 0 where
  pub size : Size
  pub mover : Mover
  pub workers : List Worker

abbrev pub leg_at : Mover → Port → Option Route
leg_at m y = route_at m.legs y

-- what was looked at of a worker since the last step into Old
abbrev pub looks_of : Mover → ℕ → List ℕ
looks_of m w = slice_index_or m.looks w []

-- at the start all words are 0, and nothing is established
abbrev pub new_registers : Dimensions → Registers
new_registers d = record { ins = replicate (in_count d) 0; mids = replicate (mid_count d) 0; outs = replicate (ports d) 0 }

abbrev pub new_mover : Size → Mover
new_mover z = record { registers = new_registers z.shape; legs = replicate (ports z.shape) None; phase = Rest; written = []; log = []; looks = replicate z.workers [] }

abbrev pub new_worker : ℕ → Worker
new_worker w = record { number = w; frame = 0; hold = Empty; notes = [] }

-- n workers, numbered from w on
abbrev pub new_workers : ℕ → ℕ → List Worker
new_workers w zero = []
new_workers w (suc n) = new_worker w ∷ new_workers (w + 1) n

abbrev pub start : Size → Core
start z = record { size = z; mover = new_mover z; workers = new_workers 0 z.workers }
