-- When a step may be taken, on the part of the one who takes it.
use Rattle.std.specs.Prelude.{◌≡◌}
use Rattle.dxc_num.specs.declared.port.Leg.{Leg}
use Rattle.dxc_num.specs.declared.port.Middle.{Middle}
use Rattle.dxc_num.specs.declared.port.Route.{Route}
use Rattle.fabric_core.specs.declared.size.Size.{Size}
use Rattle.fabric_core.specs.declared.event.CoreEvent.{CoreEvent}
use Rattle.fabric_core.specs.declared.event.CoreEvent.TheVariants.{Begin, LoadOut, LoadMid, LoadIn, End, SetIn, SetMid, SwitchOut, ClearOut, Look, ClearMid, ClearIn}
use Rattle.fabric_core.specs.declared.event.Actor.{Actor}
use Rattle.fabric_core.specs.declared.event.Actor.TheVariants as actor
use Rattle.fabric_core.specs.declared.phase.Phase.TheVariants.{InSet, MidSet}
use Rattle.fabric_core.specs.declared.mover.Mover.{Mover}
use Rattle.fabric_core.specs.declared.worker.Worker.{Worker}
use Rattle.fabric_core.specs.Working.{Runs, CanBegin, CanLoadOut, HasOutput, HasPath}
use Rattle.fabric_core.specs.Moving.{CanSetIn, HasSwitch, CanClearOut, CanClearMid, CanClearIn}

-- who takes the step
abbrev pub actor_of : CoreEvent → Actor
actor_of (Begin w) = actor.Worker w
actor_of (LoadOut w y) = actor.Worker w
actor_of (LoadMid w) = actor.Worker w
actor_of (LoadIn w) = actor.Worker w
actor_of (End w) = actor.Worker w
actor_of (Look w) = actor.Looker w
actor_of e = actor.Mover

-- a worker may take this step
abbrev pub MayWork : Size → Worker → CoreEvent → Type 0
MayWork z v (Begin w) = CanBegin v
MayWork z v (LoadOut w y) = CanLoadOut z y v
MayWork z v (LoadMid w) = HasOutput v.hold
MayWork z v (LoadIn w) = HasPath v.hold
MayWork z v (End w) = Runs v
MayWork z v e = ⊥

-- the mover may take this step, which reads no frame word
abbrev pub MayMove : Size → Mover → CoreEvent → Type 0
MayMove z m (SetIn l k) = CanSetIn z.shape m l k
MayMove z m SetMid = (l : Leg) × (k : Middle) × (m.phase ≡ InSet l k)
MayMove z m SwitchOut = (l : Leg) × (k : Middle) × (m.phase ≡ MidSet l k) × HasSwitch m
MayMove z m (ClearOut l) = (w : Route) × CanClearOut m l w
MayMove z m ClearMid = (l : Leg) × (k : Middle) × CanClearMid z m l k
MayMove z m ClearIn = (l : Leg) × (k : Middle) × CanClearIn m l k
MayMove z m e = ⊥
