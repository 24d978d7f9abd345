-- Where the gate was asked.
use Rattle.std.proofs.Common.{List, [], Err}
use Rattle.dxc_outside.specs.declared.gate.GatePlace.{GatePlace}
use Rattle.xc_core.specs.declared.fault.OpenFault.{OpenFault}
use Rattle.xc_core.specs.declared.fault.OpenFault.TheVariants as fault
use Rattle.dxc_disk.specs.Disks.{DiskState}
use Rattle.xc_core.specs.Askings.{OpenAsked}
use Rattle.xc_core.specs.Openings.{IsStopFault}

-- it wasn't for a fault that isn't its stop
pub none_asked : {D : Type 0} (state : D → DiskState) (asked : List GatePlace → Type 0) (e : OpenFault D) → (IsStopFault e → ⊥) → asked [] → OpenAsked state asked (Err e)
none_asked state asked (fault.Journal j) not is = is
none_asked state asked (fault.BadRecord i d) not is = is
none_asked state asked (fault.Disk d) not is = is
none_asked state asked (fault.NoMemory d) not is = is
none_asked state asked (fault.Stopped d) not is = absurd (not tt)
