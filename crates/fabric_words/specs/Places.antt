-- Where each word lies: IN, MID, OUT, and then a frame word for each worker.
use Rattle.std.specs.Prelude.{◌≡◌, ℕ, ◌+◌, ◌^◌, ◌<◌}
use Rattle.dxc_num.specs.Dimensions.{Dimensions, IsPort, ports}
use Rattle.dxc_num.specs.declared.port.Port.{Port}
use Rattle.dxc_num.specs.declared.port.Middle.{Middle}
use Rattle.dxc_num.specs.declared.register.Reg.{Reg}
use Rattle.dxc_num.specs.declared.register.Reg.TheVariants.{In, Mid, Out}
use Rattle.fabric_core.specs.declared.size.Size.{Size}
use Rattle.fabric_core.specs.declared.registers.Registers.{Registers}
use Rattle.fabric_core.specs.Registers.{in_cell, mid_cell, in_count, mid_count, in_word, mid_word, out_word}
use Rattle.fabric_core.specs.Moving.{IsMiddle}

-- IN words lie at their cells
abbrev pub mid_place : Dimensions → Middle → ℕ → ℕ
mid_place d k j = in_count d + mid_cell d k j

abbrev pub out_place : Dimensions → Port → ℕ
out_place d y = in_count d + (mid_count d + y.0)

abbrev pub frame_place : Dimensions → ℕ → ℕ
frame_place d w = in_count d + (mid_count d + (ports d + w))

abbrev pub word_count : Size → ℕ
word_count z = frame_place z.shape z.workers

-- where a register lies, and its word
abbrev pub reg_place : Dimensions → Reg → ℕ
reg_place d (In i k) = in_cell d i k
reg_place d (Mid k j) = mid_place d k j
reg_place d (Out y) = out_place d y

abbrev pub reg_word : Dimensions → Registers → Reg → ℕ
reg_word d r (In i k) = in_word d r i k
reg_word d r (Mid k j) = mid_word d r k j
reg_word d r (Out y) = out_word r y

-- a register of the shape
abbrev pub IsRegInside : Dimensions → Reg → Type 0
IsRegInside d (In i k) = (i < d.modules) × IsMiddle d k
IsRegInside d (Mid k j) = IsMiddle d k × (j < d.modules)
IsRegInside d (Out y) = IsPort d y

-- where MID, OUT and frame words begin, far below the largest number
pub record AreBegins (d : Dimensions) (mids outs frames : ℕ) : Type 0 where
  pub mids_are : mids ≡ in_count d
  pub outs_are : outs ≡ in_count d + mid_count d
  pub frames_are : frames ≡ in_count d + (mid_count d + ports d)
  pub low : frames < 2 ^ 32
