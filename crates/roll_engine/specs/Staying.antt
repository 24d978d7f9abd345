-- What holds at every step of a run of writes.
use Rattle.std.specs.Prelude.{◌≡◌, ◌≢◌, ℕ, ◌+◌, ◌^◌, ◌≤◌, List, [], ◌∷◌, ◌++◌, length, drop, Some}
use Rattle.dxc_num.specs.declared.port.Port.{Port}
use Rattle.dxc_num.specs.declared.port.Route.{Route}
use Rattle.dxc_num.specs.declared.register.RegWrite.{RegWrite}
use Rattle.dxc_num.specs.declared.register.WriteKind.TheVariants.{ClearOut}
use Rattle.roll_plan.specs.declared.op.LegOp.{LegOp}
use Rattle.roll_plan.specs.declared.op.LegOp.TheVariants.{Join, Part, Shift}
use Rattle.roll_plan.specs.Works.{ops_writes, switches_in}
use Rattle.paull_matrix.specs.Colourings.{Colouring, IsProperColouring, no_legs}
use Rattle.paull_chain.specs.Works.{AreValidOps, after_ops}
use Rattle.fabric_core.specs.declared.size.Size.{Size}
use Rattle.fabric_core.specs.declared.mover.Mover.{Mover}
use Rattle.fabric_core.specs.State.{IsSize, leg_at, new_mover}
use Rattle.fabric_core.specs.Owned.{IsMoverRuled}
use Rattle.roll_engine.specs.Writes.{Runs}
use Rattle.roll_engine.specs.Courses.{Goes, course_of, course_after, at_rest, IsReady}
use Rattle.roll_engine.specs.Stages.{IsMidway, IsAtRestOn, HasSameWords}

-- a run of these writes from m to m' passes b
pub record Passes (z : Size) (ws : List RegWrite) (m b m' : Mover) : Type 0 where
  pub done : List RegWrite
  pub left : List RegWrite
  pub split : ws ≡ done ++ left
  pub before : Runs z done m b
  pub after : Runs z left b m'

-- none of the writes clears the OUT word of the output
abbrev pub AreKept : List RegWrite → Port → Type 0
AreKept [] y = Unit {0}
AreKept (w ∷ ws) y = (w.kind ≡ ClearOut → w.leg.output ≢ y) × AreKept ws y

-- none of the ops parts the leg of the output
abbrev pub AreNotParted : List LegOp → Port → Type 0
AreNotParted [] y = Unit {0}
AreNotParted (Join l choice moves ∷ ops) y = AreNotParted ops y
AreNotParted (Part l k ∷ ops) y = (l.output ≢ y) × AreNotParted ops y
AreNotParted (Shift moves ∷ ops) y = AreNotParted ops y

-- where a leg to the output was established, it is so still, over some middle
abbrev pub Stays : Mover → Mover → Port → Type 0
Stays m b y = (w : Route) → leg_at m y ≡ Some w → (v : Route) × (leg_at b y ≡ Some v) × (v.input ≡ w.input)

-- each leg that was established, and whose OUT word no write clears, is established at every step of a run
abbrev pub IsAlwaysEstablished : Type 0
IsAlwaysEstablished = (z : Size) (ws : List RegWrite) (m b m' : Mover) (y : Port) → IsSize z → IsMoverRuled z m → Passes z ws m b m' → AreKept ws y → Stays m b y

-- and so each leg that the ops don't part, at every step of any part of their writes
abbrev pub IsAlwaysSpared : Type 0
IsAlwaysSpared = (z : Size) (ops : List LegOp) (t : ℕ) (us vs : List RegWrite) (m b m' : Mover) (y : Port) → IsSize z → IsMoverRuled z m
    → drop t (ops_writes ops) ≡ us ++ vs → Passes z us m b m' → AreNotParted ops y → Stays m b y

-- where the registers are at stage t of a list of writes, each step of a run of the next ones is at the stage of as many writes more
abbrev pub IsAlwaysMidway : Type 0
IsAlwaysMidway = (z : Size) (c : Colouring) (ws us vs : List RegWrite) (t : ℕ) (m b m' : Mover) → IsMidway z c ws t m
    → drop t ws ≡ us ++ vs → (p : Passes z us m b m') → IsMidway z c ws (t + length p.done) b

-- a work that is valid for a colouring may be made, write by write, where the registers are at rest on it, and then they are at rest on the colouring after the work
abbrev pub IsAlwaysAllowed : Type 0
IsAlwaysAllowed = (z : Size) (c : Colouring) (ops : List LegOp) (m : Mover) → IsProperColouring c → AreValidOps c ops → IsAtRestOn z c m
    → Goes z.shape (ops_writes ops) (course_of m) × (course_after (ops_writes ops) (course_of m) ≡ at_rest (after_ops ops c).routes)

-- a new fabric is at rest without legs
abbrev pub IsNewAtRest : Type 0
IsNewAtRest = (z : Size) → IsSize z → IsAtRestOn z (no_legs z.shape) (new_mover z)

-- at rest is the stage before the first write
abbrev pub IsBegunAtRest : Type 0
IsBegunAtRest = (z : Size) (c : Colouring) (ws : List RegWrite) (m : Mover) → IsAtRestOn z c m → IsMidway z c ws 0 m

-- at each stage of a valid work the writes that are left may be made
abbrev pub IsReadyMidway : Type 0
IsReadyMidway = (z : Size) (c : Colouring) (ops : List LegOp) (t : ℕ) (m : Mover) → IsProperColouring c → AreValidOps c ops → IsMidway z c (ops_writes ops) t m
    → length m.log + switches_in (drop t (ops_writes ops)) ≤ 2 ^ 48 → IsReady z (drop t (ops_writes ops)) m

-- and the stage after the last write is at rest on the colouring after the work
abbrev pub IsDoneAtRest : Type 0
IsDoneAtRest = (z : Size) (c : Colouring) (ops : List LegOp) (t : ℕ) (m : Mover) → IsProperColouring c → AreValidOps c ops → IsMidway z c (ops_writes ops) t m
    → drop t (ops_writes ops) ≡ [] → IsAtRestOn z (after_ops ops c) m

-- a run's writes, and no other, are the mover's next ones
abbrev pub IsNoted : Type 0
IsNoted = (z : Size) (ws : List RegWrite) (m m' : Mover) → Runs z ws m m' → m'.written ≡ m.written ++ ws

-- a run makes a switch for each write of OUT to a middle
abbrev pub IsSwitchCounted : Type 0
IsSwitchCounted = (z : Size) (ws : List RegWrite) (m m' : Mover) → Runs z ws m m' → length m'.log ≡ length m.log + switches_in ws

-- the words of the registers, the numbers of switches aside, are a function of the established legs and the phase
abbrev pub IsDetermined : Type 0
IsDetermined = (z : Size) (m m' : Mover) → IsSize z → IsMoverRuled z m → IsMoverRuled z m' → course_of m ≡ course_of m' → HasSameWords z m m'
