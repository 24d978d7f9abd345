-- The parts of the rule, each in words of its own.
use Rattle.std.specs.Prelude.{◌≡◌, ◌⊎◌, ℕ, ◌%◌, List, Some}
use mathlib.Core.Option.{some}
use lib.ListN.{get_elem?}
use Rattle.dxc_num.specs.Dimensions.{module_of}
use Rattle.dxc_num.specs.declared.port.Port.{Port}
use Rattle.dxc_num.specs.declared.port.Leg.{Leg}
use Rattle.dxc_num.specs.declared.port.Middle.{Middle}
use Rattle.dxc_num.specs.declared.port.Route.{Route}
use Rattle.fabric_core.specs.declared.size.Size.{Size}
use Rattle.fabric_core.specs.declared.event.CoreEvent.{CoreEvent}
use Rattle.fabric_core.specs.declared.mover.Mover.{Mover}
use Rattle.fabric_core.specs.declared.worker.Hold.{Hold}
use Rattle.fabric_core.specs.declared.worker.Hold.TheVariants.{Empty, Output, Path}
use Rattle.fabric_core.specs.declared.worker.Worker.{Worker}
use Rattle.fabric_core.specs.State.{Core, IsSize, leg_at, start}
use Rattle.fabric_core.specs.Moving.{over}
use Rattle.fabric_core.specs.Steps.{Reaches}
use Rattle.fabric_core.specs.Notes.{Numbered, AreLogged, AreOfLastWord, AreFound}
use Rattle.fabric_core.specs.Laid.{IsLaid, IsOutOf, IsPhaseLaid}
use Rattle.fabric_core.specs.Owned.{HasIn, HasMid, IsOwned}
use Rattle.fabric_core.specs.Rule.{IsHeld, IsNotedLast}

-- the fact holds of every state that any list of allowed events reaches from the start
abbrev pub Always : (Core → Type 0) → Type 0
Always fact = (z : Size) (es : List CoreEvent) (c : Core) → IsSize z → Reaches (start z) es c → fact c

-- the three words of each established leg name it at its middle, and its OUT word holds the greatest number of its output
abbrev pub LegsAreLaid : Core → Type 0
LegsAreLaid c = (y : Port) (w : Route) → leg_at c.mover y ≡ Some w → IsLaid c.size.shape c.mover y w × IsOutOf c.mover y (Some w)

-- the phase names all else that is set
abbrev pub PhaseNamesTheRest : Core → Type 0
PhaseNamesTheRest c = IsPhaseLaid c.size.shape c.mover c.mover.phase × IsOwned c.size.shape c.mover

-- a path whose IN word is set, or whose MID word is set
abbrev pub UsesIn : Mover → Leg → Middle → Type 0
UsesIn m l k = (leg_at m l.output ≡ Some (over l k)) ⊎ HasIn m.phase l k

abbrev pub UsesMid : Mover → Leg → Middle → Type 0
UsesMid m l k = (leg_at m l.output ≡ Some (over l k)) ⊎ HasMid m.phase l k

-- no set word belongs to two paths: at one middle no two share an input module's IN word, or an output module's MID word
pub record ArePathsApart (c : Core) : Type 0 where
  pub ins : (l a : Leg) (k : Middle) → UsesIn c.mover l k → UsesIn c.mover a k → module_of c.size.shape l.input ≡ module_of c.size.shape a.input → l ≡ a
  pub mids : (l a : Leg) (k : Middle) → UsesMid c.mover l k → UsesMid c.mover a k → module_of c.size.shape l.output ≡ module_of c.size.shape a.output → l ≡ a

-- the hold is of the output y, the number n and the middle k
abbrev pub IsOf : Hold → Port → ℕ → Middle → Type 0
IsOf Empty y n k = ⊥
IsOf (Output a b c) y n k = (a ≡ y) × (b ≡ n) × (c ≡ k)
IsOf (Path a b c i) y n k = (a ≡ y) × (b ≡ n) × (c ≡ k)

-- a hold's number is of a leg to its output: established there, or being taken from there with the worker seen in no other frame
abbrev pub HoldsAreLegs : Core → Type 0
HoldsAreLegs c = (w : ℕ) (v : Worker) → get_elem? c.workers w ≡ some v → (y : Port) (n : ℕ) (k : Middle) → IsOf v.hold y n k → (x : Port) × IsHeld c.mover v y n k x

-- a hold is empty where no frame runs, is of the OUT word that was noted last, and has the module of its leg's input
pub record IsHoldNoted (c : Core) (v : Worker) : Type 0 where
  pub empty : v.frame % 2 ≡ 0 → v.hold ≡ Empty
  pub last : (y : Port) (n : ℕ) (k : Middle) → IsOf v.hold y n k → IsNotedLast v y n k
  pub row : (y : Port) (n : ℕ) (k : Middle) (i : ℕ) → v.hold ≡ Path y n k i → (l : Leg) × Numbered c.mover.log n l × (i ≡ module_of c.size.shape l.input)

abbrev pub HoldsAreNoted : Core → Type 0
HoldsAreNoted c = (w : ℕ) (v : Worker) → get_elem? c.workers w ≡ some v → IsHoldNoted c v

-- what was carried is as the log and the words noted before say
abbrev pub CarriedAsLogged : Core → Type 0
CarriedAsLogged c = (w : ℕ) (v : Worker) → get_elem? c.workers w ≡ some v → AreLogged c.mover.log v.notes × AreOfLastWord v.notes × AreFound v.notes
