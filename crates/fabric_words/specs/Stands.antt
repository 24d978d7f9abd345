-- The phase of a stage and a path.
use Rattle.dxc_num.specs.declared.port.Leg.{Leg}
use Rattle.dxc_num.specs.declared.port.Middle.{Middle}
use Rattle.fabric_core.specs.declared.phase.Phase.{Phase}
use Rattle.fabric_core.specs.declared.phase.Phase.TheVariants as phase
use Rattle.fabric_words.specs.declared.stand.Stage.{Stage}
use Rattle.fabric_words.specs.declared.stand.Stage.TheVariants as stage

abbrev pub phase_at : Stage → Leg → Middle → Phase
phase_at stage.Rest l k = phase.Rest
phase_at stage.InSet l k = phase.InSet l k
phase_at stage.MidSet l k = phase.MidSet l k
phase_at stage.Old l k = phase.Old l k
phase_at stage.Freed l k = phase.Freed l k
