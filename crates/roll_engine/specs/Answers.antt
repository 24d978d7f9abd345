-- What a call of `advance` says.
use Rattle.std.specs.Prelude.{◌≡◌, ◌≢◌, ℕ, ◌+◌, ◌-◌, ◌<◌, ◌%◌, List, [], ◌∷◌, ◌++◌, length, replicate, Result, Ok, Err}
use Rattle.dxc_num.specs.declared.port.Leg.{Leg}
use Rattle.dxc_num.specs.declared.port.Middle.{Middle}
use Rattle.dxc_num.specs.declared.register.RegWrite.{RegWrite}
use Rattle.dxc_num.specs.declared.register.WriteKind.TheVariants.{ClearMid}
use Rattle.roll_plan.specs.Works.{write}
use Rattle.dxc_outside.specs.declared.gate.GatePlace.{GatePlace}
use Rattle.dxc_outside.specs.declared.gate.GatePlace.TheVariants.{Register}
use Rattle.fabric_core.specs.declared.size.Size.{Size}
use Rattle.fabric_core.specs.declared.mover.Mover.{Mover}
use Rattle.fabric_core.specs.declared.phase.Phase.TheVariants.{Old}
use Rattle.fabric_core.specs.Passing.{Passed, first_seen}
use Rattle.fabric_core.specs.State.{looks_of}
use Rattle.fabric_core.specs.Moving.{looked}
use Rattle.roll_engine.specs.declared.halt.Halt.{Halt}
use Rattle.roll_engine.specs.declared.halt.Halt.TheVariants as halt
use Rattle.roll_engine.specs.Courses.{IsOld}
use Rattle.roll_engine.specs.Rollings.{RollingAt, rest_of}
use Rattle.roll_engine.specs.Writes.{Looks, Makes, Runs}

-- of the writes that were left the first ones are made, in order, and the others are left
pub record Advances (z : Size) (before left : List RegWrite) (m m' : Mover) : Type 0 where
  pub writes : List RegWrite
  pub split : before ≡ writes ++ left
  pub runs : Runs z writes m m'

-- the work in hand is the same, and its step has gone on by the writes made
pub record GoesOn (z : Size) (old new : RollingAt) (m m' : Mover) : Type 0 where
  pub work : new.work ≡ old.work
  pub behind : new.behind ≡ old.behind
  pub advances : Advances z (rest_of old) (rest_of new) m m'
  pub step : new.step ≡ old.step + length advances.writes

-- Looks from m to m', of which the last gave f at a worker that hasn't passed: f is the first odd number that was seen of it since the phase Old began
pub record IsSeen (z : Size) (m m' : Mover) (f : ℕ) : Type 0 where
  pub worker : ℕ
  pub low : worker < z.workers
  pub earlier : List (ℕ × ℕ)
  pub before : Mover
  pub looks : Looks z earlier m before
  pub look : m' ≡ looked worker f before
  pub not_passed : Passed (looks_of m' worker) → ⊥
  pub odd : f % 2 ≡ 1
  pub first : f ≡ first_seen (looks_of m' worker)

-- the next write clears the old MID word, and in this call, as its last step, a frame was seen that may still follow it
pub record IsInFrame (z : Size) (before left : List RegWrite) (m m' : Mover) (f : ℕ) : Type 0 where
  pub leg : Leg
  pub old : Middle
  pub phase : m'.phase ≡ Old leg old
  pub later : List RegWrite
  pub next : left ≡ write ClearMid leg old ∷ later
  pub reached : Mover
  pub advances : Advances z before left m reached
  pub seen : IsSeen z reached m' f

-- what a call answers: that the writes are made, or what stood in the way of the next one, which isn't made
abbrev pub Answer : Type 0
Answer = Result (Unit {0}) Halt

-- what an answer says of the writes that were left before and are left now
abbrev pub AnswerIs : Size → List RegWrite → List RegWrite → Mover → Mover → Answer → Type 0
AnswerIs z before left m m' (Ok x) = left ≡ []
AnswerIs z before left m m' (Err (halt.InFrame f)) = IsInFrame z before left m m' f
AnswerIs z before left m m' (Err halt.Stopped) = left ≢ []

-- the writes that are left to a mover
pub record Ahead : Type 0 where
  pub mover : Mover
  pub writes : List RegWrite

abbrev pub ahead_of : Mover → List RegWrite → Ahead
ahead_of m writes = record { mover = m; writes = writes }

-- the same by what was left before and after
abbrev pub IsAnswer : Size → (old new : Ahead) → Answer → Type 0
IsAnswer z old new a = AnswerIs z old.writes new.writes old.mover new.mover a

-- what came of one write
abbrev pub StepIs : Size → RegWrite → Mover → Mover → Answer → Type 0
StepIs z w m m' (Ok x) = (fs : List (ℕ × ℕ)) × (a : Mover) × Looks z fs m a × Makes z w a m'
StepIs z w m m' (Err (halt.InFrame f)) = (w.kind ≡ ClearMid) × IsOld m.phase × IsSeen z m m' f
StepIs z w m m' (Err halt.Stopped) = (fs : List (ℕ × ℕ)) × Looks z fs m m'

-- where the gate was asked at one write: before it, unless a frame stood in its way
abbrev pub asked_at_step : Answer → List GatePlace
asked_at_step (Ok x) = Register ∷ []
asked_at_step (Err (halt.InFrame f)) = []
asked_at_step (Err halt.Stopped) = Register ∷ []

-- how often the gate was asked, where so many writes were made: once before each of them, and once more where it stopped
abbrev pub askings : ℕ → Answer → ℕ
askings n (Ok x) = n
askings n (Err (halt.InFrame f)) = n
askings n (Err halt.Stopped) = n + 1

-- where the gate was asked in a call, of which the writes that were left before and are left now are told
abbrev pub asked_at : List RegWrite → List RegWrite → Answer → List GatePlace
asked_at before left a = replicate (askings (length before - length left) a) Register
