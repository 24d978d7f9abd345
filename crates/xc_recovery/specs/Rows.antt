-- The rows of a checkpoint: records that come to a table and its colouring from no connection on.
use Rattle.std.specs.Prelude.{◌≡◌, ℕ, zero, suc, drop, List, [], ◌∷◌, ◌++◌, Option, Some, None, map}
use Rattle.dxc_num.specs.declared.port.Leg.{Leg}
use Rattle.dxc_num.specs.declared.port.Middle.{Middle}
use Rattle.dxc_num.specs.declared.port.Route.{Route}
use Rattle.dxc_model.specs.declared.conn.Conn.{Conn}
use Rattle.dxc_model.specs.declared.op.Change.TheVariants.{Enter, TakeOut}
use Rattle.dxc_model.specs.Tables.{Board, legs_of}
use Rattle.dxc_model.specs.Order.{from_on}
use Rattle.roll_plan.specs.declared.op.Chain.TheVariants.{Direct}
use Rattle.roll_plan.specs.declared.op.Choice.{Choice}
use Rattle.paull_matrix.specs.Colourings.{Colouring, route_at}
use Rattle.xc_journal.specs.Spelling.{spelling}

-- the middle of what an output port has
abbrev pub middle_in : Option Route → Middle
middle_in None = record { 0 = 0 }
middle_in (Some r) = r.middle

-- the leg goes straight to the middle on which it stands
abbrev pub standing : Colouring → Leg → Choice
standing c l = record { middle = middle_in (route_at c l.output.0); chain = Direct }

-- a connection is entered, each leg straight at its middle
abbrev pub row_of : Colouring → Conn → List ℕ
row_of c k = spelling (Enter k) (map (standing c) (legs_of k))

-- the middle that is out is taken out first
abbrev pub out_rows : Option Middle → List (List ℕ)
out_rows None = []
out_rows (Some m) = spelling (TakeOut m) [] ∷ []

-- and then all connections are entered, in the table's order
abbrev pub checkpoint : Board → Colouring → List (List ℕ)
checkpoint t c = out_rows t.out ++ map (row_of c) t.conns

-- the connections that are left after so many rows
abbrev pub left_behind : Option Middle → ℕ → List Conn → List Conn
left_behind None i cs = drop i cs
left_behind (Some m) zero cs = cs
left_behind (Some m) (suc i) cs = drop i cs

-- these are the ones from the port on
abbrev pub IsRowAt : Board → ℕ → ℕ → Type 0
IsRowAt t i p = left_behind t.out i t.conns ≡ from_on p t.conns
