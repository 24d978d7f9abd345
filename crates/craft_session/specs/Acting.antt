-- What was asked is done: the entries that stand behind the history then, and the reply.
use Rattle.std.specs.Prelude.{◌≡◌, List, [], ◌∷◌, ◌++◌, length, ℕ, Result, Ok, Err}
use base.Stored.{Gv}
use Rattle.turnstile.specs.Turning.{Each}
use Rattle.dxc_outside.specs.declared.stopped.Stopped.{Stopped}
use Rattle.dxc_model.specs.declared.conn.Conn.{Conn}
use Rattle.dxc_model.specs.declared.op.Op.{Op}
use Rattle.dxc_model.specs.declared.entry.Outcome.TheVariants.{Cut}
use Rattle.dxc_model.specs.declared.entry.Entry.{Entry}
use Rattle.dxc_model.specs.Histories.{changes_of}
use Rattle.xc_core.specs.States.{Opening}
use Rattle.xc_core.specs.Seeing.{Saw, entry}
use Rattle.craft_session.specs.declared.ask.Ask.{Ask}
use Rattle.craft_session.specs.declared.ask.Acted.{Acted}
use Rattle.craft_session.specs.declared.attending.Attending.{Attending}
use Rattle.craft_session.specs.Asks.{Reply, reply_of}
use Rattle.craft_session.specs.Seats.{SeatAt}
use Rattle.craft_session.specs.Walks.{CutsAt, FrontOf, IsUnused, Serves, attending_after}

-- after the history stand entries that no unit uses, and then those of what was asked
pub record Acts (o : Opening) (place : ℕ) (h : List Entry) (s : Attending) (a : Ask) (r : Reply) (z : Attending) (then_seen : List Gv) : Type 0 where
  pub passed : List Entry
  pub unused : Each (IsUnused place) passed
  pub entries : List Entry
  pub serves : Serves place o.first.fold.table (h ++ passed) a entries r
  pub attending : z ≡ attending_after s (length (changes_of (h ++ passed))) a
  pub saw : Saw o then_seen ((h ++ passed) ++ entries)

-- a stop cut a restart or a changing command
pub record Stops (o : Opening) (place : ℕ) (h : List Entry) (s : Attending) (a : Ask) (z : Attending) (then_seen : List Gv) : Type 0 where
  pub front : List Entry
  pub stands : FrontOf place h a front
  pub op : Op
  pub cuts : CutsAt (h ++ front) a op
  pub attending : z ≡ s
  pub saw : Saw o then_seen ((h ++ front) ++ entry place op Cut ∷ [])

abbrev pub ActedIs : Opening → ℕ → List Entry → Attending → Ask → Result Acted Stopped → List Conn → Attending → List Gv → Type 0
ActedIs o place h s a (Ok acted) rows z then_seen = Acts o place h s a (reply_of acted rows) z then_seen
ActedIs o place h s a (Err e) rows z then_seen = Stops o place h s a z then_seen

-- what came of what was asked: what was done, the rows that were listed, who attends then, and what the seat has seen then
pub record Came : Type 0 where
  pub acted : Result Acted Stopped
  pub rows : List Conn
  pub attending : Attending
  pub seen : List Gv

abbrev pub came : Result Acted Stopped → List Conn → Attending → List Gv → Came
came acted rows attending seen = record { acted = acted; rows = rows; attending = attending; seen = seen }

-- after whatever history a seat at the state had seen
abbrev pub ActedFrom : SeatAt → Attending → Ask → Came → Type 0
ActedFrom seat s a x = (h : List Entry) → Saw seat.opening seat.seen h → ActedIs seat.opening seat.place h s a x.acted x.rows x.attending x.seen
