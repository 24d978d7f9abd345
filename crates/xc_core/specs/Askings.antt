-- Where the gate was asked in a call.
use Rattle.std.specs.Prelude.{◌⊎◌, ℕ, List, [], ◌∷◌, length, replicate, Result, Ok, Err}
use Rattle.dxc_disk.specs.Disks.{DiskState}
use Rattle.dxc_model.specs.declared.cause.Cause.TheVariants.{DiskFault}
use Rattle.dxc_outside.specs.declared.gate.GatePlace.{GatePlace}
use Rattle.dxc_outside.specs.declared.gate.GatePlace.TheVariants.{Journal, Register}
use Rattle.dxc_outside.specs.declared.stopped.Stopped.{Stopped}
use Rattle.roll_engine.specs.Cold.{joins_of}
use Rattle.xc_core.specs.declared.fault.OpenFault.{OpenFault}
use Rattle.xc_core.specs.declared.fault.OpenFault.TheVariants as fault
use Rattle.xc_core.specs.declared.resuming.Reread.{Reread}
use Rattle.xc_core.specs.declared.resuming.Reread.TheVariants as reread
use Rattle.xc_core.specs.declared.state.State.{State}
use Rattle.xc_core.specs.States.{opening_of}

-- in a restart that was begun: before the journal is read again, if it came to that, which a failed mend keeps it from
abbrev pub RereadAsked : (List GatePlace → Type 0) → Result Reread Stopped → Type 0
RereadAsked asked (Ok (reread.Failed DiskFault)) = asked [] ⊎ asked (Journal ∷ [])
RereadAsked asked _ = asked (Journal ∷ [])

-- at an opening: once before each write of each join, as far as it came
abbrev pub OpenAsked : {D : Type 0} → (D → DiskState) → (List GatePlace → Type 0) → Result (State D) (OpenFault D) → Type 0
OpenAsked state asked (Ok s) = asked (replicate (length (joins_of (opening_of state s).first.fold.colours)) Register)
OpenAsked state asked (Err (fault.Stopped d)) = (n : ℕ) × asked (replicate n Register)
OpenAsked state asked (Err _) = asked []
