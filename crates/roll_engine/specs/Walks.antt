-- What a call says that makes the next writes of the work in hand.
use Rattle.std.specs.Prelude.{◌≡◌, ◌≢◌, ℕ, List, [], Ok, Err}
use Rattle.dxc_causes.specs.Stops.{RoseOnlyFor}
use Rattle.dxc_num.specs.declared.register.RegWrite.{RegWrite}
use Rattle.dxc_outside.specs.declared.gate.Gate.{Ghosts as GateOf}
use Rattle.dxc_outside.specs.declared.gate.GatePlace.{GatePlace}
use Rattle.fabric_core.specs.declared.size.Size.{Size}
use Rattle.fabric_core.specs.declared.mover.Mover.{Mover}
use Rattle.roll_engine.specs.declared.halt.Halt.TheVariants as halt
use Rattle.roll_engine.specs.Courses.{IsReady}
use Rattle.roll_engine.specs.Rollings.{RollingAt, rest_of}
use Rattle.roll_engine.specs.Answers.{Answer, GoesOn, IsInFrame, asked_at}

-- what an answer says of what stood in the way; where it is Ok, nothing did
abbrev pub IsHalted : Size → List RegWrite → List RegWrite → Mover → Mover → Answer → Type 0
IsHalted z before left m m' (Ok x) = Unit {0}
IsHalted z before left m m' (Err (halt.InFrame f)) = IsInFrame z before left m m' f
IsHalted z before left m m' (Err halt.Stopped) = left ≢ []

-- the work in hand goes on beside the gate, whose stops and askings are these
pub record Walks {G : Type 0} (stops : G → ℕ) (asks : G → G → List GatePlace → Type 0) (z : Size) (old new : RollingAt) (m m' : Mover) (g g' : G) (a : Answer) : Type 0 where
  pub goes_on : GoesOn z old new m m'
  pub ready : IsReady z (rest_of new) m'
  pub halted : IsHalted z (rest_of old) (rest_of new) m m' a
  pub stopped : RoseOnlyFor (stops g) (stops g') (a ≡ Err halt.Stopped)
  pub asked : asks g g' (asked_at (rest_of old) (rest_of new) a)

-- the work in hand, the mover that makes its writes, and the gate that is asked before each
pub record Walker (G : Type 0) : Type 0 where
  pub rolling : RollingAt
  pub mover : Mover
  pub gate : G

abbrev pub walker_at : {G : Type 0} → RollingAt → Mover → G → Walker G
walker_at r m g = record { rolling = r; mover = m; gate = g }

-- the same of one moment and the other
abbrev pub WalksOn : {G : Type 0} → GateOf G → Size → (old new : Walker G) → Answer → Type 0
WalksOn gate z old new a = Walks gate.stops gate.asked z old.rolling new.rolling old.mover new.mover old.gate new.gate a
