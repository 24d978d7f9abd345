-- The writes of a cold rolling: the end of the mover's phase, the parts of all legs that stand, and the joins of all legs of a colouring, both in order of output.
use Rattle.std.specs.Prelude.{◌≡◌, ◌≢◌, ◌≤◌, ◌<◌, ℕ, ◌+◌, ◌-◌, ◌^◌, List, [], ◌∷◌, ◌++◌, length, drop, Option, Some, None}
use Rattle.dxc_num.specs.declared.port.Port.{Port}
use Rattle.dxc_num.specs.declared.port.Route.{Route}
use Rattle.dxc_num.specs.declared.register.RegWrite.{RegWrite}
use Rattle.dxc_num.specs.declared.register.WriteKind.TheVariants.{ClearMid, ClearIn}
use Rattle.dxc_num.specs.Dimensions.{Dimensions, leg_between, ports}
use Rattle.roll_plan.specs.Works.{write, join_writes, part_writes, switches_in}
use Rattle.paull_matrix.specs.Colourings.{Colouring, IsProperColouring, no_legs}
use Rattle.fabric_core.specs.declared.size.Size.{Size}
use Rattle.fabric_core.specs.declared.mover.Mover.{Mover}
use Rattle.fabric_core.specs.declared.phase.Phase.{Phase}
use Rattle.fabric_core.specs.declared.phase.Phase.TheVariants.{Rest, InSet, MidSet, Old, Freed}
use Rattle.roll_engine.specs.declared.rolling.Behind.{Behind}
use Rattle.roll_engine.specs.declared.rolling.Behind.TheVariants.{Nothing, PartsFrom, JoinsFrom}
use Rattle.roll_engine.specs.Rollings.{RollingAt, rest_of}
use Rattle.roll_engine.specs.Courses.{course_of, course_after}
use Rattle.roll_engine.specs.Stages.{IsMidway, IsAtRestOn}
use Rattle.roll_engine.specs.Staying.{Passes, Stays}

-- the writes that end a phase: the path that it names is cleared
abbrev pub end_writes : Phase → List RegWrite
end_writes Rest = []
end_writes (InSet l k) = write ClearIn l k ∷ []
end_writes (MidSet l k) = write ClearMid l k ∷ write ClearIn l k ∷ []
end_writes (Old l k) = write ClearMid l k ∷ write ClearIn l k ∷ []
end_writes (Freed l k) = write ClearIn l k ∷ []

-- the writes that part the leg of each output, where there is one, the first output being y
abbrev pub parts_from : ℕ → List (Option Route) → List RegWrite
parts_from y [] = []
parts_from y (None ∷ rs) = parts_from (y + 1) rs
parts_from y (Some w ∷ rs) = part_writes (leg_between w.input (record { 0 = y })) w.middle ++ parts_from (y + 1) rs

-- the parts of the legs from the output y on
abbrev pub parts_behind : List (Option Route) → ℕ → List RegWrite
parts_behind legs y = parts_from y (drop y legs)

-- the writes that join the leg of each output, where there is one, the first output being y
abbrev pub joins_from : ℕ → List (Option Route) → List RegWrite
joins_from y [] = []
joins_from y (None ∷ rs) = joins_from (y + 1) rs
joins_from y (Some w ∷ rs) = join_writes (leg_between w.input (record { 0 = y })) w.middle ++ joins_from (y + 1) rs

abbrev pub joins_of : Colouring → List RegWrite
joins_of c = joins_from 0 c.routes

-- the joins of the legs from the output y on
abbrev pub joins_behind : Colouring → ℕ → List RegWrite
joins_behind c y = joins_from y (drop y c.routes)

-- of these outputs, from y on, the first with a leg of the colouring, and that leg's route
pub record IsNextLeg (c : Colouring) (y : Port) (next : Port × Route) : Type 0 where
  pub later : y.0 ≤ next.0.0
  pub low : next.0.0 < ports c.shape
  pub joins : joins_behind c y.0 ≡ join_writes (leg_between next.1.input next.0) next.1.middle ++ joins_behind c (next.0.0 + 1)

-- of these outputs, from y on, the first with a leg that stands, and that leg's route
pub record IsNextHeld (d : Dimensions) (legs : List (Option Route)) (y : Port) (next : Port × Route) : Type 0 where
  pub later : y.0 ≤ next.0.0
  pub low : next.0.0 < ports d
  pub parts : parts_behind legs y.0 ≡ part_writes (leg_between next.1.input next.0) next.1.middle ++ parts_behind legs (next.0.0 + 1)

-- the writes that come after the work in hand, where these legs stand when it is made
abbrev pub left_behind : Colouring → List (Option Route) → Behind → List RegWrite
left_behind c legs Nothing = []
left_behind c legs (PartsFrom y) = parts_behind legs y.0 ++ joins_of c
left_behind c legs (JoinsFrom y) = joins_behind c y.0

-- the legs that stand when the work in hand is made
abbrev pub legs_then : Mover → RollingAt → List (Option Route)
legs_then m r = (course_after (rest_of r) (course_of m)).legs

-- the writes that are left of the work in hand, and then those of what comes after it
abbrev pub left_of : Colouring → Mover → RollingAt → List RegWrite
left_of c m r = rest_of r ++ left_behind c (legs_then m r) r.behind

-- how many outputs are still to be looked at after the work in hand, for a leg to be parted or joined, and one more as long as legs are parted
abbrev pub outputs_left : ℕ → Behind → ℕ
outputs_left n Nothing = 0
outputs_left n (PartsFrom y) = (n - y.0) + n + 1
outputs_left n (JoinsFrom y) = n - y.0

abbrev pub IsCold : RollingAt → Type 0
IsCold r = r.behind ≢ Nothing

-- On a fabric that had no legs the first writes of the joins of a proper colouring are made, the others are what the rolling has left, and there are switch
-- numbers for them
pub record IsColdAt (z : Size) (c : Colouring) (r : RollingAt) (m : Mover) : Type 0 where
  pub proper : IsProperColouring c
  pub shape : c.shape ≡ z.shape
  pub written : ℕ
  pub midway : IsMidway z (no_legs c.shape) (joins_of c) written m
  pub left : left_of c m r ≡ drop written (joins_of c)
  pub room : length m.log + switches_in (left_of c m r) ≤ 2 ^ 48

-- a cold rolling of joins alone, at its start
abbrev pub cold_start : RollingAt
cold_start = record { work = record { ops = record { items = [] } }; step = 0; behind = JoinsFrom (record { 0 = 0 }) }

-- a cold rolling at its start, where the mover is in this phase
pub record IsColdFrom (p : Phase) (r : RollingAt) : Type 0 where
  pub ends : rest_of r ≡ end_writes p
  pub behind : r.behind ≡ PartsFrom (record { 0 = 0 })

-- on a fabric at rest without legs a cold rolling of a proper colouring begins
abbrev pub IsColdBegun : Type 0
IsColdBegun = (z : Size) (c : Colouring) (m : Mover) → IsProperColouring c → c.shape ≡ z.shape → IsAtRestOn z (no_legs c.shape) m
    → length m.log + length c.routes ≤ 2 ^ 48 → IsColdAt z c cold_start m

-- where it has nothing left the registers are those of the colouring
abbrev pub IsColdDone : Type 0
IsColdDone = (z : Size) (c : Colouring) (r : RollingAt) (m : Mover) → IsColdAt z c r m → left_of c m r ≡ [] → IsAtRestOn z c m

-- and each leg that was established stays so at every step
abbrev pub IsColdSpared : Type 0
IsColdSpared = (z : Size) (c : Colouring) (r : RollingAt) (us vs : List RegWrite) (m b m' : Mover) (y : Port) → IsColdAt z c r m
    → left_of c m r ≡ us ++ vs → Passes z us m b m' → Stays m b y
