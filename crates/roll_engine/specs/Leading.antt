-- Writes that lead to a colouring, from wherever the registers are.
use Rattle.std.specs.Prelude.{◌≡◌, ◌≤◌, ◌+◌, ◌^◌, List, [], length}
use Rattle.dxc_num.specs.declared.register.RegWrite.{RegWrite}
use Rattle.roll_plan.specs.Works.{switches_in}
use Rattle.paull_matrix.specs.Colourings.{Colouring, IsProperColouring}
use Rattle.fabric_core.specs.declared.size.Size.{Size}
use Rattle.fabric_core.specs.declared.mover.Mover.{Mover}
use Rattle.fabric_core.specs.State.{IsSize}
use Rattle.fabric_core.specs.Owned.{IsMoverRuled}
use Rattle.roll_engine.specs.Rollings.{RollingAt}
use Rattle.roll_engine.specs.Courses.{Goes, course_of, course_after, at_rest}
use Rattle.roll_engine.specs.Stages.{IsAtRestOn}
use Rattle.roll_engine.specs.Cold.{joins_of, left_of, IsColdAt, IsColdFrom}

-- each of the writes may come next at its turn, and after the last one the registers are at rest on the colouring
pub record IsLeading (z : Size) (c : Colouring) (ws : List RegWrite) (m : Mover) : Type 0 where
  pub sized : IsSize z
  pub shape : c.shape ≡ z.shape
  pub ruled : IsMoverRuled z m
  pub goes : Goes z.shape ws (course_of m)
  pub leads : course_after ws (course_of m) ≡ at_rest c.routes

-- so do the writes that a cold rolling has left, and there are switch numbers for them
pub record IsColdLeading (z : Size) (c : Colouring) (r : RollingAt) (m : Mover) : Type 0 where
  pub leading : IsLeading z c (left_of c m r) m
  pub room : length m.log + switches_in (left_of c m r) ≤ 2 ^ 48

-- wherever the registers are, the writes of a cold rolling that begins there lead to any proper colouring
abbrev pub IsLeadingBegun : Type 0
IsLeadingBegun = (z : Size) (c : Colouring) (m : Mover) (r : RollingAt) → IsSize z → IsMoverRuled z m → IsProperColouring c → c.shape ≡ z.shape → IsColdFrom m.phase r
    → IsLeading z c (left_of c m r) m

-- and they make a switch for each join, and no other
abbrev pub IsSwitchedByJoins : Type 0
IsSwitchedByJoins = (c : Colouring) (m : Mover) (r : RollingAt) → IsColdFrom m.phase r → switches_in (left_of c m r) ≡ switches_in (joins_of c)

-- joins on a fabric that had no legs lead to their colouring
abbrev pub IsLedByJoins : Type 0
IsLedByJoins = (z : Size) (c : Colouring) (r : RollingAt) (m : Mover) → IsColdAt z c r m → IsColdLeading z c r m

-- where no write is left the registers are at rest on the colouring
abbrev pub IsLedToRest : Type 0
IsLedToRest = (z : Size) (c : Colouring) (m : Mover) → IsLeading z c [] m → IsAtRestOn z c m
