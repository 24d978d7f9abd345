-- The registers at a stage of a work, and at rest.
use Rattle.std.specs.Prelude.{◌≡◌, ℕ, ◌%◌, ◌<◌, List, take}
use Rattle.dxc_num.specs.declared.port.Port.{Port}
use Rattle.dxc_num.specs.declared.port.Middle.{Middle}
use Rattle.dxc_num.specs.declared.register.RegWrite.{RegWrite}
use Rattle.dxc_num.specs.Dimensions.{IsPort}
use Rattle.paull_matrix.specs.Colourings.{Colouring}
use Rattle.fabric_core.specs.declared.size.Size.{Size}
use Rattle.fabric_core.specs.declared.mover.Mover.{Mover}
use Rattle.fabric_core.specs.Registers.{in_word, mid_word, out_word}
use Rattle.fabric_core.specs.State.{IsSize}
use Rattle.fabric_core.specs.Moving.{IsMiddle}
use Rattle.fabric_core.specs.Owned.{IsMoverRuled}
use Rattle.roll_engine.specs.Courses.{course_of, course_after, at_rest}

-- the registers are those of the colouring with the first t writes made, and the phase is the one that these leave
pub record IsMidway (z : Size) (c : Colouring) (ws : List RegWrite) (t : ℕ) (m : Mover) : Type 0 where
  pub sized : IsSize z
  pub shape : c.shape ≡ z.shape
  pub ruled : IsMoverRuled z m
  pub course : course_of m ≡ course_after (take t ws) (at_rest c.routes)

-- the registers are those of the colouring, its legs are the established ones, and the phase is Rest
pub record IsAtRestOn (z : Size) (c : Colouring) (m : Mover) : Type 0 where
  pub sized : IsSize z
  pub shape : c.shape ≡ z.shape
  pub ruled : IsMoverRuled z m
  pub course : course_of m ≡ at_rest c.routes

-- all words of the registers are the same, the numbers of switches aside
pub record HasSameWords (z : Size) (m m' : Mover) : Type 0 where
  pub ins : (i : ℕ) (k : Middle) → i < z.shape.modules → IsMiddle z.shape k → in_word z.shape m.registers i k ≡ in_word z.shape m'.registers i k
  pub mids : (k : Middle) (j : ℕ) → IsMiddle z.shape k → j < z.shape.modules → mid_word z.shape m.registers k j ≡ mid_word z.shape m'.registers k j
  pub outs : (y : Port) → IsPort z.shape y → out_word m.registers y % 256 ≡ out_word m'.registers y % 256
