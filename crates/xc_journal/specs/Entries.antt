-- The changes with their choices that records of either version spell.
use Rattle.std.specs.Prelude.{◌≡◌, ◌≤◌, ◌<◌, ◌^◌, ℕ, true, List, [], length}
use Rattle.dxc_model.specs.declared.conn.Conn.{Conn}
use Rattle.dxc_model.specs.declared.op.Change.{Change}
use Rattle.dxc_model.specs.declared.op.Change.TheVariants.{Enter, Delete, Edit, EnterModule, DeleteModule, TakeOut, PutBack}
use Rattle.dxc_model.specs.Labels.{is_label}
use Rattle.dxc_model.specs.Tables.{legs_of}
use Rattle.roll_plan.specs.declared.op.Choice.{Choice}

-- the ports of a connection are numbers of 16 bits, and its label is one
abbrev pub FitsConn : Conn → Type 0
FitsConn c = (c.from.0 < 2 ^ 16) × (c.to.0 < 2 ^ 16) × (is_label c.label ≡ true)

-- the ports and modules of a change are numbers of 16 bits, and its label is one
abbrev pub FitsChange : Change → Type 0
FitsChange (Enter c) = FitsConn c
FitsChange (Delete c) = FitsConn c
FitsChange (Edit c) = FitsConn c
FitsChange (EnterModule m) = m < 2 ^ 16
FitsChange (DeleteModule m) = m < 2 ^ 16
FitsChange (TakeOut m) = Unit {0}
FitsChange (PutBack m) = Unit {0}

-- how many choices a change has: one for each leg of a connection that is entered or deleted, one or none for an edit, which may be of the label alone
abbrev pub MayChoose : Change → ℕ → Type 0
MayChoose (Enter c) n = n ≡ length (legs_of c)
MayChoose (Delete c) n = n ≡ length (legs_of c)
MayChoose (Edit c) n = n ≤ 1
MayChoose (EnterModule m) n = n ≡ 0
MayChoose (DeleteModule m) n = n ≡ 0
MayChoose (TakeOut m) n = n ≡ 0
MayChoose (PutBack m) n = n ≡ 0

-- in version 1 there are no labels, an edit has one choice, and no middle is taken out or put back
abbrev pub IsOfFirstVersion : Change → ℕ → Type 0
IsOfFirstVersion (Enter c) n = c.label ≡ []
IsOfFirstVersion (Delete c) n = c.label ≡ []
IsOfFirstVersion (Edit c) n = (c.label ≡ []) × (n ≡ 1)
IsOfFirstVersion (EnterModule m) n = Unit {0}
IsOfFirstVersion (DeleteModule m) n = Unit {0}
IsOfFirstVersion (TakeOut m) n = ⊥
IsOfFirstVersion (PutBack m) n = ⊥

-- a change with choices that a record of this version, 1 or 2, may spell
pub record IsEntry (version : ℕ) (change : Change) (choices : List Choice) : Type 0 where
  pub fits : FitsChange change
  pub number : MayChoose change (length choices)
  pub old : version ≡ 1 → IsOfFirstVersion change (length choices)
