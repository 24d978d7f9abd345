-- A rolling of a valid work, at its step.
use Rattle.std.specs.Prelude.{◌≡◌, ◌≤◌, ◌+◌, ◌^◌, [], length}
use Rattle.roll_plan.specs.declared.work.Work.{Work}
use Rattle.roll_plan.specs.Works.{switches_in, writes_of}
use Rattle.paull_matrix.specs.Colourings.{Colouring, IsProperColouring}
use Rattle.paull_chain.specs.Works.{AreValidOps, after_ops}
use Rattle.fabric_core.specs.declared.size.Size.{Size}
use Rattle.fabric_core.specs.declared.mover.Mover.{Mover}
use Rattle.roll_engine.specs.declared.rolling.Behind.TheVariants.{Nothing}
use Rattle.roll_engine.specs.Rollings.{RollingAt, rest_of}
use Rattle.roll_engine.specs.Courses.{IsReady}
use Rattle.roll_engine.specs.Stages.{IsMidway, IsAtRestOn}
use Rattle.roll_engine.specs.Answers.{GoesOn}

-- the work is valid for the colouring, its first `step` writes are made, and there are switch numbers for the others
pub record IsUnderWay (z : Size) (c : Colouring) (r : RollingAt) (m : Mover) : Type 0 where
  pub proper : IsProperColouring c
  pub valid : AreValidOps c r.work.ops.items
  pub midway : IsMidway z c (writes_of r.work) r.step m
  pub room : length m.log + switches_in (rest_of r) ≤ 2 ^ 48

-- the work, of which no write is made
abbrev pub unmade : Work → RollingAt
unmade w = record { work = w; step = 0; behind = Nothing }

-- where the registers are at rest on a colouring each valid work begins
abbrev pub IsBegun : Type 0
IsBegun = (z : Size) (c : Colouring) (w : Work) (m : Mover) → IsProperColouring c → AreValidOps c w.ops.items → IsAtRestOn z c m
    → length m.log + switches_in (writes_of w) ≤ 2 ^ 48 → IsUnderWay z c (unmade w) m

-- what is left of it may be made
abbrev pub IsReadyUnderWay : Type 0
IsReadyUnderWay = (z : Size) (c : Colouring) (r : RollingAt) (m : Mover) → IsUnderWay z c r m → IsReady z (rest_of r) m

-- a call of `advance` takes it on
abbrev pub IsTakenOn : Type 0
IsTakenOn = (z : Size) (c : Colouring) (old new : RollingAt) (m m' : Mover) → IsUnderWay z c old m → GoesOn z old new m m' → IsUnderWay z c new m'

-- and where nothing is left the registers are at rest on the colouring after the work
abbrev pub IsDoneUnderWay : Type 0
IsDoneUnderWay = (z : Size) (c : Colouring) (r : RollingAt) (m : Mover) → IsUnderWay z c r m → rest_of r ≡ [] → IsAtRestOn z (after_ops r.work.ops.items c) m
