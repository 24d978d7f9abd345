-- What is written next.
use Rattle.std.specs.Prelude.{◌≡◌, ℕ, ◌+◌, ◌<◌, List, Option, Some, None, slice_get}
use Rattle.dxc_num.specs.declared.register.RegWrite.{RegWrite}
use Rattle.roll_plan.specs.declared.op.Move.{Move}
use Rattle.roll_plan.specs.declared.next.Next.{Next}
use Rattle.roll_plan.specs.declared.next.Next.TheVariants.{All, Join, Part, One}
use Rattle.roll_plan.specs.Works.{join_writes, move_writes, part_writes}

-- from this place on the writes begin with these, in order
abbrev pub Begins : ℕ → List RegWrite → ℕ → List RegWrite → Type 0
Begins n ws t first = (r : ℕ) → r < n → slice_get ws (t + r) ≡ slice_get first r

-- from this place on the writes are those of the move, in order
abbrev pub BeginsMove : List RegWrite → ℕ → Move → Type 0
BeginsMove ws t v = Begins 5 ws t (move_writes v)

-- what was found at a place of these writes
abbrev pub IsNext : List RegWrite → ℕ → Option Next → Type 0
IsNext ws t (Some (All v)) = BeginsMove ws t v
IsNext ws t (Some (Join l k)) = Begins 3 ws t (join_writes l k)
IsNext ws t (Some (Part l k)) = Begins 3 ws t (part_writes l k)
IsNext ws t (Some (One w)) = slice_get ws t ≡ Some w
IsNext ws t None = slice_get ws t ≡ None
