-- What holds of the commands of all tables.
use Rattle.std.specs.Prelude.{◌≡◌, ℕ, ◌≤◌, ◌<◌, true, Ok, List, [], ◌∷◌}
use Rattle.dxc_num.specs.Dimensions.{Dimensions, IsInLimits}
use Rattle.dxc_model.specs.declared.op.Op.{Op}
use Rattle.dxc_model.specs.declared.op.Change.{Change}
use Rattle.dxc_model.specs.declared.op.Change.TheVariants.{Enter, Delete, Edit, EnterModule, DeleteModule, TakeOut, PutBack}
use Rattle.dxc_model.specs.declared.user.Class.TheVariants.{S}
use Rattle.dxc_model.specs.declared.user.SessionUser.TheVariants.{User}
use Rattle.dxc_model.specs.Equipment.{empty_table, modules_in}
use Rattle.dxc_model.specs.Labels.{is_label}
use Rattle.dxc_model.specs.Operations.{IsApt, op_of}
use Rattle.dxc_model.specs.Tables.{Board, IsProper, IsOfShape}
use Rattle.dxc_model.specs.Verdicts.{MayTake, effect}
use Rattle.tl1_text.specs.Grammar.{Block, IsCommandText}
use Rattle.tl1_command.specs.Meanings.{asks_table, meaning}
use Rattle.tl1_script.specs.Commands.{text_of}
use Rattle.tl1_script.specs.Scripts.{changes_to}

-- the first table grants each of the changes in its turn, and they come to the last one
abbrev pub Comes : Board → List Change → Board → Type 0
Comes t [] u = t ≡ u
Comes t (c ∷ cs) u = MayTake t c × Comes (effect t c) cs u

-- the changes to a table come to it, from the empty one of its shape, whatever that equips
abbrev pub ChangesComeToTables : Type 0
ChangesComeToTables = (t : Board) (bits equipped : ℕ) → IsProper t → IsOfShape t → modules_in t.shape equipped ≡ t.equipped → Comes (empty_table t.shape bits) (changes_to bits t) t

-- the label of a change's connection is one that a label may be, and nothing is said of other changes
abbrev pub IsLabelled : Change → Type 0
IsLabelled (Enter c) = is_label c.label ≡ true
IsLabelled (Edit c) = is_label c.label ≡ true
IsLabelled (Delete c) = Unit {0}
IsLabelled (EnterModule m) = Unit {0}
IsLabelled (DeleteModule m) = Unit {0}
IsLabelled (TakeOut m) = Unit {0}
IsLabelled (PutBack m) = Unit {0}

-- the text is a command's, and what it asks of a user of class S is this operation
pub record Asks (d : Dimensions) (text : List ℕ) (op : Op) : Type 0 where
  pub blocks : List Block
  pub grammar : IsCommandText text blocks
  pub means : (sid uid : List ℕ) → meaning d sid (User uid S) blocks ≡ Ok (asks_table op)

-- the command that makes a change asks for the operation that the change itself names, whatever the CTAG of one to six digits
abbrev pub CommandsAskForChanges : Type 0
CommandsAskForChanges = (d : Dimensions) (n : ℕ) (c : Change) → IsInLimits d → IsApt d (op_of c) → IsLabelled c → 1 ≤ n → n < 1000000 → Asks d (text_of d n c) (op_of c)
