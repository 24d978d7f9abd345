-- When an entry can be made, and when it has a middle for each leg.
use Rattle.std.specs.Prelude.{◌≡◌, ℕ, ◌+◌, false, List, [], ◌∷◌, Option, Some, None}
use Rattle.dxc_num.specs.declared.port.Leg.{Leg}
use Rattle.dxc_num.specs.declared.port.Middle.{Middle}
use Rattle.dxc_model.specs.declared.conn.Conn.{Conn}
use Rattle.dxc_model.specs.declared.op.Op.TheVariants.{Enter}
use Rattle.dxc_model.specs.declared.op.Change.TheVariants as change
use Rattle.dxc_model.specs.declared.entry.Entry.{Entry}
use Rattle.dxc_model.specs.Tables.{Board, legs_of}
use Rattle.dxc_model.specs.Operations.{ArePorts}
use Rattle.dxc_model.specs.Denials.{names_unequipped, needs_used_side}
use Rattle.dxc_model.specs.Histories.{IsLegal, changes_of, table_after}
use Rattle.roll_plan.specs.declared.op.Chain.{Chain as ChainChoice}
use Rattle.roll_plan.specs.declared.op.LegOp.{LegOp}
use Rattle.roll_plan.specs.Works.{ops_writes, switches_in}
use Rattle.paull_matrix.specs.Colourings.{Colouring}
use Rattle.paull_chain.specs.Works.{after_op}
use Rattle.mid_service.specs.Choices.{IsValidChoiceWhileOut, PlansWhileOut}
use Rattle.xc_recovery.specs.Placings.{IsPlaced}
use Rattle.xc_core.specs.Reckonings.{IsPlannedFor, Past, ReckonsTo, limit_by}
use Rattle.xc_core.specs.States.{Opening, rules_of}

-- an entry can be made: its ports are two of the shape, on equipped modules, and the sides that its legs need are free
pub record CanBeEntered (t : Board) (c : Conn) : Type 0 where
  pub ports : ArePorts t.shape c.from c.to
  pub equipped : names_unequipped t (Enter c) ≡ false
  pub free : needs_used_side t (Enter c) ≡ false

-- it can be made after a legal history, whose changes come to this
pub record CanBeEnteredBehind (o : Opening) (h : List Entry) (b : Past) (c : Conn) : Type 0 where
  pub placed : IsPlaced o.first.fold.table o.first.fold.colours
  pub legal : IsLegal (rules_of o) h
  pub reckoned : ReckonsTo o.first (changes_of h) b
  pub free : CanBeEntered (table_after o.first.fold.table h) c

-- while the middle `away` is out of service, some choice is valid for each of these legs at its turn, after the planned joins of those before it
abbrev pub HaveChoices : ℕ → Colouring → List Leg → Type 0
HaveChoices away c [] = Unit {0}
HaveChoices away c (l ∷ ls) = ((k : ℕ) × (h : ChainChoice) × IsValidChoiceWhileOut c away l k h) × ((o : LegOp) → PlansWhileOut c away l o → HaveChoices away (after_op o c) ls)

-- each of these legs has a middle: always where none is out of service
abbrev pub HaveMiddles : Option Middle → Colouring → List Leg → Type 0
HaveMiddles None c ls = Unit {0}
HaveMiddles (Some m) c ls = HaveChoices m.0 c ls

-- each leg of the connection has one
abbrev pub HasMiddles : Past → Conn → Type 0
HasMiddles b c = HaveMiddles b.fold.table.out b.fold.colours (legs_of c)

-- the numbers of switches and changes suffice for the planned work of the entry
abbrev pub IsBelowLimit : Past → Conn → Type 0
IsBelowLimit b c = (ops : List LegOp) → IsPlannedFor b (change.Enter c) ops → limit_by (b.fold.switches + switches_in (ops_writes ops)) b.changes ≡ None
