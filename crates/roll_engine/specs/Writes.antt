-- What looks and register writes make of the mover's part.
use Rattle.std.specs.Prelude.{◌≡◌, ℕ, ◌<◌, List, [], ◌∷◌}
use Rattle.dxc_num.specs.declared.port.Leg.{Leg}
use Rattle.dxc_num.specs.declared.port.Middle.{Middle}
use Rattle.dxc_num.specs.declared.register.RegWrite.{RegWrite}
use Rattle.dxc_num.specs.declared.register.WriteKind.{WriteKind}
use Rattle.dxc_num.specs.declared.register.WriteKind.TheVariants as kind
use Rattle.dxc_num.specs.Dimensions.{Dimensions}
use Rattle.fabric_core.specs.declared.size.Size.{Size}
use Rattle.fabric_core.specs.declared.event.CoreEvent.{CoreEvent}
use Rattle.fabric_core.specs.declared.event.CoreEvent.TheVariants as event
use Rattle.fabric_core.specs.declared.mover.Mover.{Mover}
use Rattle.fabric_core.specs.Moving.{in_set, mid_set, switched, out_cleared, looked, mid_cleared, in_cleared}
use Rattle.fabric_core.specs.Steps.{Moves}

-- looks at workers alone, each with the frame word that was found
abbrev pub Looks : Size → List (ℕ × ℕ) → Mover → Mover → Type 0
Looks z [] m m' = m ≡ m'
Looks z (f ∷ fs) m m' = (f.0 < z.workers) × Looks z fs (looked f.0 f.1 m) m'

-- the core's event of a write
abbrev pub event_of_kind : WriteKind → Leg → Middle → CoreEvent
event_of_kind kind.SetIn l k = event.SetIn l k
event_of_kind kind.SetMid l k = event.SetMid
event_of_kind kind.SwitchOut l k = event.SwitchOut
event_of_kind kind.ClearOut l k = event.ClearOut l
event_of_kind kind.ClearMid l k = event.ClearMid
event_of_kind kind.ClearIn l k = event.ClearIn

abbrev pub event_of : RegWrite → CoreEvent
event_of w = event_of_kind w.kind w.leg w.middle

-- what a write makes, on the path of its leg over its middle
abbrev pub made_of_kind : WriteKind → Dimensions → Leg → Middle → Mover → Mover
made_of_kind kind.SetIn d l k m = in_set d l k m
made_of_kind kind.SetMid d l k m = mid_set d l k m
made_of_kind kind.SwitchOut d l k m = switched l k m
made_of_kind kind.ClearOut d l k m = out_cleared l k m
made_of_kind kind.ClearMid d l k m = mid_cleared d l k m
made_of_kind kind.ClearIn d l k m = in_cleared d l k m

abbrev pub made : Dimensions → RegWrite → Mover → Mover
made d w m = made_of_kind w.kind d w.leg w.middle m

-- one write: an event that the core allows, with what the write makes
abbrev pub Makes : Size → RegWrite → Mover → Mover → Type 0
Makes z w m m' = Moves z m (event_of w) m' × (m' ≡ made z.shape w m)

-- the writes in order, with looks between
abbrev pub Runs : Size → List RegWrite → Mover → Mover → Type 0
Runs z [] m m' = (fs : List (ℕ × ℕ)) × Looks z fs m m'
Runs z (w ∷ ws) m m' = (fs : List (ℕ × ℕ)) × (a : Mover) × (b : Mover) × Looks z fs m a × Makes z w a b × Runs z ws b m'
