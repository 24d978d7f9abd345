-- What a turn of a seat comes to, after whatever history the seat had seen.
use Rattle.std.specs.Prelude.{ℕ, List, Option, Result, MatchResult}
use base.Stored.{Gv}
use Rattle.arrayvec.specs.ArrayVec.{ArrayVec}
use Rattle.dxc_outside.specs.declared.stopped.Stopped.{Stopped}
use Rattle.dxc_model.specs.declared.cause.Cause.{Cause}
use Rattle.dxc_model.specs.declared.conn.Conn.{Conn}
use Rattle.dxc_model.specs.declared.entry.Entry.{Entry}
use Rattle.dxc_model.specs.declared.op.Change.{Change}
use Rattle.dxc_model.specs.declared.op.Op.{Op}
use Rattle.dxc_model.specs.declared.op.Selection.{Selection}
use Rattle.dxc_model.specs.declared.user.Class.{Class}
use Rattle.tl1_users.specs.declared.op.UserOp.{UserOp}
use Rattle.user_admin.specs.declared.op.UserEntry.{UserEntry}
use Rattle.user_admin.specs.declared.op.UserRow.{UserRow}
use Rattle.user_admin.specs.declared.turns.UserTook.{UserTook}
use Rattle.user_admin.specs.Turns.{Asking, LoggedIn, RowsAre as UserRowsAre, RowsDenied, Saw as SawUsers, TookIs}
use Rattle.xc_core.specs.declared.turns.Looked.{Looked}
use Rattle.xc_core.specs.Seeing.{Saw}
use Rattle.xc_core.specs.Turns.{LookIs, RowsAre}
use Rattle.craft_session.specs.declared.change.Changed.{Changed}
use Rattle.craft_session.specs.Changing.{ChangedIs}
use Rattle.craft_session.specs.Seats.{SeatAt, UserSeatAt}

-- at the state: these connections of a selection are listed, these changes found, an operation comes to this
abbrev pub Lists : SeatAt → Selection → List Gv → List Conn → Type 0
Lists s which then_seen given = (h : List Entry) → Saw s.opening s.seen h → RowsAre s.opening s.place h which then_seen given

abbrev pub Finds : SeatAt → ℕ → List Gv → Looked → List Change → Type 0
Finds s cursor then_seen looked given = (h : List Entry) → Saw s.opening s.seen h → LookIs s.opening s.place h cursor then_seen looked given

abbrev pub Changes : SeatAt → Op → List Gv → Result Changed Stopped → Type 0
Changes s op then_seen how = (h : List Entry) → Saw s.opening s.seen h → ChangedIs s.opening s.place h op then_seen how

-- at the users: a log-in finds this class, these users are listed, an operation comes to this
abbrev pub LogsIn : UserSeatAt → Asking → List Gv → Option Class → Type 0
LogsIn s asking then_seen found = (h : List UserEntry) → SawUsers s.opening s.seen h → LoggedIn s.opening s.place h asking then_seen found

abbrev pub ListsUsers : UserSeatAt → Option (List ℕ) → List Gv → Result (ArrayVec UserRow) Cause → Type 0
ListsUsers s which then_seen given = (h : List UserEntry) → SawUsers s.opening s.seen h → MatchResult given (λ rows. UserRowsAre s.opening s.place h which then_seen rows.items) (RowsDenied s.opening s.place h which then_seen)

abbrev pub ChangesUsers : UserSeatAt → UserOp → List Gv → Result UserTook Stopped → Type 0
ChangesUsers s op then_seen how = (h : List UserEntry) → SawUsers s.opening s.seen h → TookIs s.opening s.place h op then_seen how
