-- What may be driven.
use Rattle.std.specs.Prelude.{◌⊎◌, Option}
use Rattle.dxc_disk.specs.Disks.{DiskState}
use Rattle.dxc_model.specs.declared.op.Op.{Op}
use Rattle.dxc_model.specs.declared.op.Change.{Change}
use Rattle.roll_engine.specs.Rollings.{RollingAt}
use Rattle.xc_core.specs.declared.provisioner.Provisioner.{Provisioner}
use Rattle.xc_core.specs.Reckonings.{Past}
use Rattle.xc_core.specs.Provisioners.{Rolls}
use Rattle.xc_core.specs.Restarts.{HasNumbers, Rejoins, Resumes}

-- the work of a change, or the rest of one that a recovery found
abbrev pub CanDrive : {D : Type 0} → Type 0 → (D → DiskState) → Provisioner D → RollingAt → Type 0
CanDrive told state p r =
    ((b : Past) × (op : Op) × (c : Change) × Rolls told state b op c p r)
    ⊎ ((b : Past) × (lacking : Option Change) × (g : Past) × Resumes told state b lacking g p r)

-- or a cold recovery, which has switch numbers for what it has left
abbrev pub MayDrive : {D : Type 0} → Type 0 → (D → DiskState) → Provisioner D → RollingAt → Type 0
MayDrive told state p r = CanDrive told state p r ⊎ ((b : Past) × (lacking : Option Change) × (g : Past) × Rejoins told state b lacking g p r × HasNumbers p r)

-- a recovery is on its way
abbrev pub Recovers : {D : Type 0} → Type 0 → (D → DiskState) → Past → Option Change → Past → Provisioner D → RollingAt → Type 0
Recovers told state b lacking g p r = Resumes told state b lacking g p r ⊎ (Rejoins told state b lacking g p r × HasNumbers p r)
