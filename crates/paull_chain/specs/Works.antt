-- What the ops of a work make of a colouring, and when they may be made.
use Rattle.std.specs.Prelude.{◌≡◌, ◌≤◌, List, [], ◌∷◌}
use Rattle.roll_plan.specs.declared.op.Move.{Move}
use Rattle.roll_plan.specs.declared.op.LegOp.{LegOp}
use Rattle.roll_plan.specs.declared.op.LegOp.TheVariants.{Join, Part, Shift}
use Rattle.paull_matrix.specs.Colourings.{CanPlace, Colouring, Holds, IsEmpty, IsFreeFor, IsProperColouring, with_leg, without_leg}

abbrev pub moved : Move → Colouring → Colouring
moved m c = with_leg m.leg m.to.0 c

-- after the moves, in order
abbrev pub after : List Move → Colouring → Colouring
after [] c = c
after (m ∷ ms) c = after ms (moved m c)

abbrev pub after_op : LegOp → Colouring → Colouring
after_op (Join l h ms) c = with_leg l h.middle.0 (after ms.items c)
after_op (Part l k) c = without_leg l c
after_op (Shift ms) c = after ms.items c

-- after the ops, in order
abbrev pub after_ops : List LegOp → Colouring → Colouring
after_ops [] c = c
after_ops (op ∷ ops) c = after_ops ops (after_op op c)

-- at its turn each leg is held where its move begins, and the target is a middle that is free in row and column
abbrev pub AreValidMoves : List Move → Colouring → Type 0
AreValidMoves [] c = Unit {0}
AreValidMoves (m ∷ ms) c = Holds c m.leg m.from.0 × (m.to.0 ≤ c.shape.slots) × IsFreeFor c m.leg m.to.0 × AreValidMoves ms (moved m c)

-- each step of the op may be made at its turn, whatever stands on the spare
abbrev pub IsValidOp : Colouring → LegOp → Type 0
IsValidOp c (Join l h ms) = AreValidMoves ms.items c × CanPlace (after ms.items c) l h.middle.0
IsValidOp c (Part l k) = Holds c l k.0
IsValidOp c (Shift ms) = AreValidMoves ms.items c

abbrev pub AreValidOps : Colouring → List LegOp → Type 0
AreValidOps c [] = Unit {0}
AreValidOps c (op ∷ ops) = IsValidOp c op × AreValidOps (after_op op c) ops

-- a valid work: each op may be made at its turn, and the spare is empty before and after
pub record IsValidWork (c : Colouring) (ops : List LegOp) : Type 0 where
  pub steps : AreValidOps c ops
  pub spare_before : IsEmpty c c.shape.slots
  pub spare_after : IsEmpty (after_ops ops c) c.shape.slots

-- the moves, the op, the ops, made on the proper colouring c, give d
abbrev pub MovesMade : List Move → Colouring → Colouring → Type 0
MovesMade ms c d = IsProperColouring c × AreValidMoves ms c × (d ≡ after ms c)

abbrev pub OpMade : LegOp → Colouring → Colouring → Type 0
OpMade op c d = IsProperColouring c × IsValidOp c op × (d ≡ after_op op c)

abbrev pub OpsMade : List LegOp → Colouring → Colouring → Type 0
OpsMade ops c d = IsProperColouring c × AreValidOps c ops × (d ≡ after_ops ops c)
