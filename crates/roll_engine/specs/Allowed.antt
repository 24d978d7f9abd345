-- When the mover may make a write, frames aside.
use Rattle.std.specs.Prelude.{◌≡◌, ◌⊎◌}
use Rattle.dxc_num.specs.declared.port.Leg.{Leg}
use Rattle.dxc_num.specs.declared.port.Middle.{Middle}
use Rattle.dxc_num.specs.declared.register.RegWrite.{RegWrite}
use Rattle.dxc_num.specs.declared.register.WriteKind.{WriteKind}
use Rattle.dxc_num.specs.declared.register.WriteKind.TheVariants as kind
use Rattle.dxc_num.specs.Dimensions.{Dimensions}
use Rattle.fabric_core.specs.declared.mover.Mover.{Mover}
use Rattle.fabric_core.specs.declared.phase.Phase.TheVariants.{InSet, MidSet, Old, Freed}
use Rattle.fabric_core.specs.Moving.{CanSetIn, HasSwitch, CanClearOut, over}

-- the phase names the path of the write, and the core's condition holds but for the frames
abbrev pub CanBeMade : WriteKind → Dimensions → Leg → Middle → Mover → Type 0
CanBeMade kind.SetIn d l k m = CanSetIn d m l k
CanBeMade kind.SetMid d l k m = m.phase ≡ InSet l k
CanBeMade kind.SwitchOut d l k m = (m.phase ≡ MidSet l k) × HasSwitch m
CanBeMade kind.ClearOut d l k m = CanClearOut m l (over l k)
CanBeMade kind.ClearMid d l k m = (m.phase ≡ Old l k) ⊎ (m.phase ≡ MidSet l k)
CanBeMade kind.ClearIn d l k m = (m.phase ≡ Freed l k) ⊎ (m.phase ≡ InSet l k)

abbrev pub CanMake : Dimensions → RegWrite → Mover → Type 0
CanMake d w m = CanBeMade w.kind d w.leg w.middle m
