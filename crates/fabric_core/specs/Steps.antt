-- The fabric as a machine of single steps: twelve kinds of event, each under its condition.
use Rattle.std.specs.Prelude.{◌≡◌, ℕ, List, [], ◌∷◌, slice_set}
use mathlib.Core.Option.{some}
use lib.ListN.{get_elem?}
use Rattle.dxc_num.specs.declared.port.Leg.{Leg}
use Rattle.dxc_num.specs.declared.port.Middle.{Middle}
use Rattle.dxc_num.specs.declared.port.Route.{Route}
use Rattle.fabric_core.specs.declared.size.Size.{Size}
use Rattle.fabric_core.specs.declared.event.CoreEvent.{CoreEvent}
use Rattle.fabric_core.specs.declared.event.CoreEvent.TheVariants.{Begin, LoadOut, LoadMid, LoadIn, End, SetIn, SetMid, SwitchOut, ClearOut, Look, ClearMid, ClearIn}
use Rattle.fabric_core.specs.declared.phase.Phase.TheVariants.{InSet, MidSet}
use Rattle.fabric_core.specs.declared.mover.Mover.{Mover}
use Rattle.fabric_core.specs.declared.worker.Worker.{Worker}
use Rattle.fabric_core.specs.Registers.{out_word}
use Rattle.fabric_core.specs.State.{Core, IsSize, start}
use Rattle.fabric_core.specs.Working.{Runs, CanBegin, begun, CanLoadOut, out_loaded, HasOutput, named_mid, mid_loaded, HasPath, named_in, in_loaded}
use Rattle.fabric_core.specs.Moving.{CanSetIn, in_set, mid_set, HasSwitch, switched, CanClearOut, out_cleared, looked, CanClearMid, mid_cleared, CanClearIn, in_cleared}

-- the mover's steps that read no frame word
abbrev pub Moves : Size → Mover → CoreEvent → Mover → Type 0
Moves z m (SetIn l k) m' = CanSetIn z.shape m l k × (m' ≡ in_set z.shape l k m)
Moves z m SetMid m' = (l : Leg) × (k : Middle) × (m.phase ≡ InSet l k) × (m' ≡ mid_set z.shape l k m)
Moves z m SwitchOut m' = (l : Leg) × (k : Middle) × (m.phase ≡ MidSet l k) × HasSwitch m × (m' ≡ switched l k m)
Moves z m (ClearOut l) m' = (w : Route) × CanClearOut m l w × (m' ≡ out_cleared l w.middle m)
Moves z m ClearMid m' = (l : Leg) × (k : Middle) × CanClearMid z m l k × (m' ≡ mid_cleared z.shape l k m)
Moves z m ClearIn m' = (l : Leg) × (k : Middle) × CanClearIn m l k × (m' ≡ in_cleared z.shape l k m)
Moves z m e m' = ⊥

-- the steps of a worker, beside the mover's part
abbrev pub Works : Size → Mover → Worker → CoreEvent → Worker → Type 0
Works z m v (Begin w) v' = CanBegin v × (v' ≡ begun v)
Works z m v (LoadOut w y) v' = CanLoadOut z y v × (v' ≡ out_loaded y (out_word m.registers y) v)
Works z m v (LoadMid w) v' = HasOutput v.hold × (v' ≡ mid_loaded (named_mid z.shape m.registers v.hold) v)
Works z m v (LoadIn w) v' = HasPath v.hold × (v' ≡ in_loaded z.shape (named_in z.shape m.registers v.hold) v)
Works z m v (End w) v' = Runs v × (v' ≡ begun v)
Works z m v e v' = ⊥

abbrev pub with_worker : Core → ℕ → Worker → Core
with_worker c w v = record { size = c.size; mover = c.mover; workers = slice_set c.workers w v }

abbrev pub with_mover : Core → Mover → Core
with_mover c m = record { size = c.size; mover = m; workers = c.workers }

abbrev pub WorkerSteps : Core → ℕ → CoreEvent → Core → Type 0
WorkerSteps c w e c' = (v : Worker) × (v' : Worker) × (get_elem? c.workers w ≡ some v) × Works c.size c.mover v e v' × (c' ≡ with_worker c w v')

abbrev pub MoverSteps : Core → CoreEvent → Core → Type 0
MoverSteps c e c' = (m : Mover) × Moves c.size c.mover e m × (c' ≡ with_mover c m)

-- the event leads from c to c'
abbrev pub Steps : Core → CoreEvent → Core → Type 0
Steps c (Begin w) c' = WorkerSteps c w (Begin w) c'
Steps c (LoadOut w y) c' = WorkerSteps c w (LoadOut w y) c'
Steps c (LoadMid w) c' = WorkerSteps c w (LoadMid w) c'
Steps c (LoadIn w) c' = WorkerSteps c w (LoadIn w) c'
Steps c (End w) c' = WorkerSteps c w (End w) c'
Steps c (Look w) c' = (v : Worker) × (get_elem? c.workers w ≡ some v) × (c' ≡ with_mover c (looked w v.frame c.mover))
Steps c e c' = MoverSteps c e c'

-- the event is allowed in c: it leads somewhere
abbrev pub IsAllowed : Core → CoreEvent → Type 0
IsAllowed c e = (c' : Core) × Steps c e c'

-- the events lead from c to c', one after the other
abbrev pub Reaches : Core → List CoreEvent → Core → Type 0
Reaches c [] c' = c ≡ c'
Reaches c (e ∷ es) c' = (b : Core) × Steps c e b × Reaches b es c'

-- some list of allowed events leads to c from the start
pub record IsReached (c : Core) : Type 0 where
  pub sized : IsSize c.size
  pub events : List CoreEvent
  pub reached : Reaches (start c.size) events c
