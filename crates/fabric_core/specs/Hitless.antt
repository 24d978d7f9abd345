-- What holds of every state that is reached.
use Rattle.std.specs.Prelude.{◌≡◌, ◌≢◌, ℕ, List}
use mathlib.Core.Option.{some}
use lib.ListN.{get_elem?}
use Rattle.dxc_num.specs.Dimensions.{IsPort}
use Rattle.dxc_num.specs.declared.port.Port.{Port}
use Rattle.dxc_num.specs.declared.port.Leg.{Leg}
use Rattle.fabric_core.specs.declared.size.Size.{Size}
use Rattle.fabric_core.specs.declared.event.CoreEvent.{CoreEvent}
use Rattle.fabric_core.specs.declared.mover.Mover.{Mover}
use Rattle.fabric_core.specs.declared.worker.Worker.{Worker}
use Rattle.fabric_core.specs.Registers.{Carries, number_in, out_word}
use Rattle.fabric_core.specs.State.{Core, IsSize, start}
use Rattle.fabric_core.specs.Steps.{Reaches}
use Rattle.fabric_core.specs.Notes.{Numbered, Latest, AreLogged, AreOfLastWord, AreFound}

-- an OUT word that isn't none holds the greatest number of its output in the log
abbrev pub IsNewest : Mover → Port → Type 0
IsNewest m y = (l : Leg) × Numbered m.log (number_in (out_word m.registers y)) l × (l.output ≡ y) × Latest m.log y (number_in (out_word m.registers y))

-- Each established leg has a whole path; what was carried agrees with the log of switches; numbers are the newest; and no word that was followed was none
pub record IsHitless (c : Core) : Type 0 where
  pub carries : Carries c.size.shape c.mover.registers c.mover.legs
  pub logged : (w : ℕ) (v : Worker) → get_elem? c.workers w ≡ some v → AreLogged c.mover.log v.notes
  pub newest : (y : Port) → IsPort c.size.shape y → out_word c.mover.registers y ≢ 0 → IsNewest c.mover y
  pub of_last_word : (w : ℕ) (v : Worker) → get_elem? c.workers w ≡ some v → AreOfLastWord v.notes
  pub found : (w : ℕ) (v : Worker) → get_elem? c.workers w ≡ some v → AreFound v.notes

-- every state that any list of allowed events reaches from the start is hitless
abbrev pub IsAlwaysHitless : Type 0
IsAlwaysHitless = (z : Size) (es : List CoreEvent) (c : Core) → IsSize z → Reaches (start z) es c → IsHitless c
