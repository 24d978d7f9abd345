-- A work that is being made, and how far it has come.
use Rattle.std.specs.Prelude.{ℕ, List, [], ◌∷◌, drop}
use Rattle.dxc_num.specs.declared.register.RegWrite.{RegWrite}
use Rattle.roll_plan.specs.declared.op.LegOp.{LegOp}
use Rattle.roll_plan.specs.declared.op.Move.{Move}
use Rattle.roll_plan.specs.declared.work.Work.{Work}
use Rattle.roll_plan.specs.Works.{moves_of, writes_of}
use Rattle.roll_engine.specs.declared.rolling.Behind.{Behind}

-- a work in hand of which the first `step` writes are made, and what comes after it
pub record RollingAt : Type 0 where
  pub work : Work
  pub step : ℕ
  pub behind : Behind

-- the writes of the work in hand that are left
abbrev pub rest_of : RollingAt → List RegWrite
rest_of r = drop r.step (writes_of r.work)

-- so many writes are made
abbrev pub at_step : ℕ → RollingAt → RollingAt
at_step n r = record r { step = n }

-- the moves of the first op
abbrev pub moves_of_first : List LegOp → List Move
moves_of_first [] = []
moves_of_first (op ∷ ops) = moves_of op
