-- What a contract sees of a fabric and of its seats, and what ties it to their fields.
use Rattle.std.specs.Prelude.{◌≡◌, ℕ, ◌<◌, List, [], length, slice_index_or, false}
use Rattle.atomic_table.specs.Seated.{TableId}
use Rattle.atomic_table.specs.Table.{Me}
use Rattle.dxc_num.specs.declared.port.Leg.{Leg}
use Rattle.dxc_num.specs.declared.port.Middle.{Middle}
use Rattle.dxc_num.specs.Dimensions.{Dimensions, IsPort, module_of}
use Rattle.fabric_core.specs.declared.size.Size.{Size}
use Rattle.fabric_core.specs.declared.seen.Seen.{Seen}
use Rattle.fabric_core.specs.declared.phase.Phase.{Phase}
use Rattle.fabric_core.specs.declared.phase.Phase.TheVariants.{Rest}
use Rattle.fabric_core.specs.declared.mover.Mover.{Mover}
use Rattle.fabric_core.specs.declared.worker.Hold.{Hold}
use Rattle.fabric_core.specs.declared.worker.Hold.TheVariants.{Empty, Output, Path}
use Rattle.fabric_core.specs.declared.worker.Worker.{Worker}
use Rattle.fabric_core.specs.Registers.{in_cell}
use Rattle.fabric_core.specs.Passing.{seen_of}
use Rattle.fabric_core.specs.State.{IsSize, looks_of, new_worker}
use Rattle.fabric_core.specs.Moving.{IsMiddle}
use Rattle.fabric_core.specs.Owned.{HasIn, IsMoverRuled}
use Rattle.fabric_words.specs.declared.table.Aim.{Aim}
use Rattle.fabric_words.specs.declared.table.View.{View}
use Rattle.fabric_words.specs.declared.table.View.TheVariants.{Idle, AsMover, AsWorker}
use Rattle.fabric_words.specs.Places.{mid_place}

-- which fabric it is, and how large
pub record FabricId : Type 0 where
  pub table : TableId
  pub size : Size

-- the mover's seat: its fabric, and what it knows of it
pub record MoverAt : Type 0 where
  pub fabric : FabricId
  pub mover : Mover

-- a worker's seat: its fabric, and what it knows of it
pub record WorkerAt : Type 0 where
  pub fabric : FabricId
  pub worker : Worker

abbrev pub no_mover : Mover
no_mover = record { registers = record { ins = []; mids = []; outs = [] }; legs = []; phase = Rest; written = []; log = []; looks = [] }

-- what a token knows
abbrev pub mover_in : View → Mover
mover_in Idle = no_mover
mover_in (AsMover z d m) = m
mover_in (AsWorker z v) = no_mover

abbrev pub dealt_in : View → ℕ
dealt_in Idle = 0
dealt_in (AsMover z d m) = d
dealt_in (AsWorker z v) = 0

abbrev pub worker_in : View → Worker
worker_in Idle = new_worker 0
worker_in (AsMover z d m) = new_worker 0
worker_in (AsWorker z v) = v

abbrev pub IsMoverToken : Size → Me Aim View → Type 0
IsMoverToken z me = me ≡ (AsMover z (dealt_in me.0) (mover_in me.0), [])

abbrev pub IsWorkerToken : Size → Me Aim View → Type 0
IsWorkerToken z me = me ≡ (AsWorker z (worker_in me.0), [])

-- what the mover's seat keeps of the looks at each worker
abbrev pub AreSeen : Size → List Seen → Mover → Type 0
AreSeen z seen m = (w : ℕ) → w < z.workers → slice_index_or seen w (record { first = 0; passed = false }) ≡ seen_of (looks_of m w)

-- the mover's seat knows the mover's part, by the rule, and keeps its phase, the number of its switches and what it saw
pub record IsMoverSeat (z : Size) (me : Me Aim View) (phase : Phase) (switches : ℕ) (seen : List Seen) : Type 0 where
  pub role : IsMoverToken z me
  pub sized : IsSize z
  pub ruled : IsMoverRuled z (mover_in me.0)
  pub phase_is : phase ≡ (mover_in me.0).phase
  pub switches_are : switches ≡ length (mover_in me.0).log
  pub seen_are : AreSeen z seen (mover_in me.0)

-- these are the modules of the leg that the phase names
abbrev pub AreModules : Dimensions → Phase → ℕ → ℕ → Type 0
AreModules d phase row column = (l : Leg) (k : Middle) → HasIn phase l k → (row ≡ module_of d l.input) × (column ≡ module_of d l.output)

-- what a hold names is of the shape
abbrev pub IsHoldInside : Dimensions → Hold → Type 0
IsHoldInside d Empty = Unit {0}
IsHoldInside d (Output y n k) = IsPort d y × IsMiddle d k
IsHoldInside d (Path y n k i) = IsMiddle d k × (i < d.modules)

-- a reader knows a worker's part
pub record IsReader (z : Size) (me : Me Aim View) : Type 0 where
  pub role : IsWorkerToken z me
  pub sized : IsSize z
  pub low : (worker_in me.0).number < z.workers
  pub inside : IsHoldInside z.shape (worker_in me.0).hold

-- the place of the MID word, or of the IN word, that a hold names
abbrev pub IsMidPlace : Dimensions → Hold → ℕ → Type 0
IsMidPlace d (Output y n k) place = place ≡ mid_place d k (module_of d y)
IsMidPlace d h place = ⊥

abbrev pub IsInPlace : Dimensions → Hold → ℕ → Type 0
IsInPlace d (Path y n k i) place = place ≡ in_cell d i k
IsInPlace d h place = ⊥
