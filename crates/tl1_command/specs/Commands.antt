-- Commands and parameters by their texts in the unit.
use Rattle.std.specs.Prelude.{ℕ, List, []}
use Rattle.dxc_num.specs.declared.port.Port.{Port}
use Rattle.dxc_num.specs.Dimensions.{Dimensions}
use Rattle.dxc_model.specs.declared.op.Op.{Op}
use Rattle.dxc_model.specs.declared.op.Op.TheVariants as op
use Rattle.dxc_model.specs.Operations.{IsApt, ArePorts}
use Rattle.tl1_text.specs.Spans.{IsIn, text_at}
use Rattle.tl1_command.specs.declared.parts.Named.{Named as NamedSpans}
use Rattle.tl1_command.specs.declared.command.Command.{Command}
use Rattle.tl1_command.specs.declared.frequent.Frequent.{Frequent}
use Rattle.tl1_command.specs.declared.frequent.Frequent.TheVariants as often
use Rattle.tl1_command.specs.declared.command.Command.TheVariants.{ActUser, CancUser, Header, Allow, Inhibit, Show, Table}
use Rattle.tl1_command.specs.Meanings.{Asked, acts, cancels, header, allows, inhibits, shows, asks_table, Named, Ends, enters, deletes}

abbrev pub ends_by : Port × Port → Ends
ends_by e = record { from = e.0; to = e.1 }

-- the parameters' texts
abbrev pub named_by : List ℕ → NamedSpans → Named
named_by unit n = record { first = text_at unit n.first; second = text_at unit n.second; value = text_at unit n.value; label = text_at unit n.label }

-- what a command of a unit asks for
abbrev pub asked_by : List ℕ → Command → Asked
asked_by unit (ActUser uid pid) = acts (text_at unit uid) (text_at unit pid)
asked_by unit (CancUser uid) = cancels (text_at unit uid)
asked_by unit Header = header
asked_by unit Allow = allows
asked_by unit Inhibit = inhibits
asked_by unit (Show which) = shows which
asked_by unit (Table op) = asks_table op

-- an operation that changes the table is one on ports, modules and working middles of the shape; none is a look
abbrev pub IsAptOp : Dimensions → Op → Type 0
IsAptOp d (op.Enter c) = IsApt d (op.Enter c)
IsAptOp d (op.Delete x y w) = IsApt d (op.Delete x y w)
IsAptOp d (op.Edit c) = IsApt d (op.Edit c)
IsAptOp d (op.EnterModule m) = IsApt d (op.EnterModule m)
IsAptOp d (op.DeleteModule m) = IsApt d (op.DeleteModule m)
IsAptOp d (op.TakeOut m) = IsApt d (op.TakeOut m)
IsAptOp d (op.PutBack m) = IsApt d (op.PutBack m)
IsAptOp d (op.Rows s) = Unit {0}
IsAptOp d (op.Look n) = ⊥
IsAptOp d op.Restart = Unit {0}

-- spans stand in the unit, and operations are of the shape
abbrev pub IsAptCommand : Dimensions → List ℕ → Command → Type 0
IsAptCommand d unit (ActUser uid pid) = IsIn unit uid × IsIn unit pid
IsAptCommand d unit (CancUser uid) = IsIn unit uid
IsAptCommand d unit Header = Unit {0}
IsAptCommand d unit Allow = Unit {0}
IsAptCommand d unit Inhibit = Unit {0}
IsAptCommand d unit (Show which) = Unit {0}
IsAptCommand d unit (Table op) = IsAptOp d op

-- what a frequent unit asks for
abbrev pub asked_often : Frequent → Asked
asked_often often.Header = header
asked_often (often.Rows which) = asks_table (op.Rows which)
asked_often (often.Enter x y w) = asks_table (enters (record { from = x; to = y }) w [])
asked_often (often.Delete x y w) = asks_table (deletes (record { from = x; to = y }) w [])

-- its ports are of the shape
abbrev pub IsAptOften : Dimensions → Frequent → Type 0
IsAptOften d often.Header = Unit {0}
IsAptOften d (often.Rows which) = Unit {0}
IsAptOften d (often.Enter x y w) = ArePorts d x y
IsAptOften d (often.Delete x y w) = ArePorts d x y
