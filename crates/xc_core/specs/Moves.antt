-- How many circuits a change moves.
use Rattle.std.specs.Prelude.{ℕ, ◌+◌, ◌-◌, ◌*◌, List, [], ◌∷◌, length, Option, Some, None}
use Rattle.dxc_num.specs.declared.port.Middle.{Middle}
use Rattle.dxc_num.specs.Dimensions.{Dimensions}
use Rattle.dxc_model.specs.declared.op.Op.{Op}
use Rattle.dxc_model.specs.declared.op.Op.TheVariants.{Enter, Delete, Edit, EnterModule, DeleteModule, TakeOut, PutBack, Rows, Look, Restart}
use Rattle.dxc_model.specs.Tables.{Board}
use Rattle.roll_plan.specs.declared.op.LegOp.{LegOp}
use Rattle.roll_plan.specs.Works.{moves_of}

-- how many moves ops make
abbrev pub moves_in : List LegOp → ℕ
moves_in [] = 0
moves_in (o ∷ os) = length (moves_of o) + moves_in os

-- a change of connections moves at most 3 (r - 1) circuits of r modules; while a middle is out of service, at most one for each leg that it joins
abbrev pub most_of_legs : Dimensions → Option Middle → ℕ
most_of_legs d None = 3 * (d.modules - 1)
most_of_legs d (Some m) = 2

-- and one of a middle moves at most r, the legs of a full middle
abbrev pub most_moves : Board → Op → ℕ
most_moves t (Enter k) = most_of_legs t.shape t.out
most_moves t (Delete x y w) = most_of_legs t.shape t.out
most_moves t (Edit k) = most_of_legs t.shape t.out
most_moves t (EnterModule m) = most_of_legs t.shape t.out
most_moves t (DeleteModule m) = most_of_legs t.shape t.out
most_moves t (TakeOut m) = t.shape.modules
most_moves t (PutBack m) = t.shape.modules
most_moves t (Rows s) = 0
most_moves t (Look n) = 0
most_moves t Restart = 0
