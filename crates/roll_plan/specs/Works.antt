-- The register writes of a work, in order.
use Rattle.std.specs.Prelude.{◌≡◌, ℕ, ◌+◌, List, [], ◌∷◌, ◌++◌}
use Rattle.dxc_num.specs.declared.port.Leg.{Leg}
use Rattle.dxc_num.specs.declared.port.Middle.{Middle}
use Rattle.dxc_num.specs.declared.register.RegWrite.{RegWrite}
use Rattle.dxc_num.specs.declared.register.WriteKind.{WriteKind}
use Rattle.dxc_num.specs.declared.register.WriteKind.TheVariants.{SetIn, SetMid, SwitchOut, ClearOut, ClearMid, ClearIn}
use Rattle.roll_plan.specs.declared.op.Chain.TheVariants.{Direct}
use Rattle.roll_plan.specs.declared.op.Move.{Move}
use Rattle.roll_plan.specs.declared.op.LegOp.{LegOp}
use Rattle.roll_plan.specs.declared.op.LegOp.TheVariants.{Join, Part, Shift}
use Rattle.roll_plan.specs.declared.work.Work.{Work}

abbrev pub write : WriteKind → Leg → Middle → RegWrite
write kind l k = record { kind = kind; leg = l; middle = k }

-- a move sets the path over its new middle, switches the output, and then clears the path over the old one
abbrev pub move_writes : Move → List RegWrite
move_writes v = write SetIn v.leg v.to ∷ write SetMid v.leg v.to ∷ write SwitchOut v.leg v.to ∷ write ClearMid v.leg v.from ∷ write ClearIn v.leg v.from ∷ []

abbrev pub moves_writes : List Move → List RegWrite
moves_writes [] = []
moves_writes (v ∷ vs) = move_writes v ++ moves_writes vs

-- the moves of an op
abbrev pub moves_of : LegOp → List Move
moves_of (Join l choice moves) = moves.items
moves_of (Part l k) = []
moves_of (Shift moves) = moves.items

-- a join sets the path and then switches the output
abbrev pub join_writes : Leg → Middle → List RegWrite
join_writes l k = write SetIn l k ∷ write SetMid l k ∷ write SwitchOut l k ∷ []

-- a part clears the output and then the path
abbrev pub part_writes : Leg → Middle → List RegWrite
part_writes l k = write ClearOut l k ∷ write ClearMid l k ∷ write ClearIn l k ∷ []

abbrev pub op_writes : LegOp → List RegWrite
op_writes (Join l choice moves) = moves_writes moves.items ++ join_writes l choice.middle
op_writes (Part l k) = part_writes l k
op_writes (Shift moves) = moves_writes moves.items

-- a join on a middle that is free at both ends, so without moves
abbrev pub IsDirectJoin : Leg → Middle → LegOp → Type 0
IsDirectJoin l k (Join x h moves) = (x ≡ l) × (h ≡ record { middle = k; chain = Direct }) × (moves.items ≡ [])
IsDirectJoin l k (Part x q) = ⊥
IsDirectJoin l k (Shift moves) = ⊥

abbrev pub ops_writes : List LegOp → List RegWrite
ops_writes [] = []
ops_writes (op ∷ ops) = op_writes op ++ ops_writes ops

abbrev pub writes_of : Work → List RegWrite
writes_of w = ops_writes w.ops.items

abbrev pub is_switch : WriteKind → ℕ
is_switch SetIn = 0
is_switch SetMid = 0
is_switch SwitchOut = 1
is_switch ClearOut = 0
is_switch ClearMid = 0
is_switch ClearIn = 0

-- the number of switches among the writes
abbrev pub switches_in : List RegWrite → ℕ
switches_in [] = 0
switches_in (w ∷ ws) = is_switch w.kind + switches_in ws
