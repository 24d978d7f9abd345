-- What a session wants of the users, and what it hears of them.
use Rattle.std.specs.Prelude.{◌≡◌, ◌≢◌, ℕ, Bool, List, [], ◌∷◌, ◌++◌, Option, Result, Ok, Err}
use base.Stored.{Gv}
use Rattle.turnstile.specs.Turning.{Each}
use Rattle.dxc_outside.specs.declared.gate.GatePlace.{GatePlace}
use Rattle.dxc_outside.specs.declared.stopped.Stopped.{Stopped}
use Rattle.dxc_model.specs.declared.cause.Cause.{Cause}
use Rattle.dxc_model.specs.declared.user.Class.{Class}
use Rattle.user_admin.specs.declared.op.UserEntry.{UserEntry}
use Rattle.tl1_users.specs.declared.op.UserOp.{UserOp}
use Rattle.user_admin.specs.declared.op.UserRow.{UserRow}
use Rattle.tl1_users.specs.declared.op.UserOp.TheVariants as op
use Rattle.user_admin.specs.declared.op.UserOutcome.{UserOutcome}
use Rattle.user_admin.specs.declared.op.UserOutcome.TheVariants.{Done, Denied, Failed, Answered}
use Rattle.user_admin.specs.Histories.{Opening, users_after}
use Rattle.user_admin.specs.Occupants.{login_op}
use Rattle.user_admin.specs.States.{entry}
use Rattle.user_admin.specs.Turns.{Saw, TurnedBack}
use Rattle.user_admin.specs.Users.{Users}
use Rattle.user_admin.specs.Verdicts.{IsChanging, login, rows_in}
use Rattle.craft_session.specs.declared.ask.Ask.{Ask}
use Rattle.craft_session.specs.Gated.{AreUsersEntered}
use Rattle.craft_session.specs.Seats.{UserSeatAt}

-- nothing; a look at them, for a log-in with this name and PID where nobody is logged in or somebody is; or an operation of a users' command
pub data Wanted : Type 0 where
  nothing : Wanted
  to_look : (vacant : Bool) (uid pid : List ℕ) → Wanted
  to_do : UserOp → Wanted

-- They weren't asked; the class of whom name and PID log in; the cause that denied an operation; or that it was done, with the rows of one that read.
pub data Heard : Type 0 where
  unasked : Heard
  found : Option Class → Heard
  refused_by : Cause → Heard
  done_with : List UserRow → Heard

-- the rows that were heard
abbrev pub rows_heard : Heard → List UserRow
rows_heard unasked = []
rows_heard (found class) = []
rows_heard (refused_by q) = []
rows_heard (done_with rows) = rows

-- what an operation reads
abbrev pub rows_of : UserOp → Users → List UserRow
rows_of (op.Enter uid pid class) users = []
rows_of (op.Edit uid pid class) users = []
rows_of (op.Delete uid) users = []
rows_of (op.EditPid uid old new) users = []
rows_of (op.Rows which) users = rows_in users which
rows_of (op.Look uid) users = []
rows_of (op.LogIn uid) users = []
rows_of (op.Cancel uid) users = []

-- what is heard of an operation by its outcome, which found these users
abbrev pub heard_of : UserOp → Users → UserOutcome → Heard
heard_of o users (Done c) = done_with []
heard_of o users (Denied q) = refused_by q
heard_of o users (Failed q) = refused_by q
heard_of o users Answered = done_with (rows_of o users)

-- After the users' history h what is wanted takes these entries of the place, and this is heard: of a log-in, whom name and PID log in of the users
-- before the place's look at them; of an operation, its outcome.
abbrev pub Hears : Opening → ℕ → List UserEntry → Wanted → List UserEntry → Heard → Type 0
Hears o place h nothing es x = (es ≡ []) × (x ≡ unasked)
Hears o place h (to_look vacant uid pid) es x = (es ≡ entry place (login_op vacant uid (login uid pid (users_after o h))) Answered ∷ []) × (x ≡ found (login uid pid (users_after o h)))
Hears o place h (to_do what) es x = (outcome : UserOutcome) × (es ≡ entry place what outcome ∷ []) × (x ≡ heard_of what (users_after o h) outcome)

-- after the users' history stand others' entries, and then those of what is wanted, of which this was heard
pub record HeardBehind (o : Opening) (place : ℕ) (h : List UserEntry) (w : Wanted) (x : Heard) (then_seen : List Gv) : Type 0 where
  pub passed : List UserEntry
  pub others : Each (λ e. e.place ≢ place) passed
  pub entries : List UserEntry
  pub hears : Hears o place (h ++ passed) w entries x
  pub saw : Saw o then_seen ((h ++ passed) ++ entries)

-- it was heard from what a seat at the users had seen on
abbrev pub IsHeard : UserSeatAt → Wanted → Heard → List Gv → Type 0
IsHeard seat w x then_seen = (h : List UserEntry) → Saw seat.opening seat.seen h → HeardBehind seat.opening seat.place h w x then_seen

-- what is wanted was heard, and this is asked by it, with the rows that were read; the gate was asked for what was entered
pub record IsAsked (seat : UserSeatAt) (w : Wanted) (by : Heard → Ask) (a : Ask) (rows : List UserRow) (then_seen : List Gv) (gate : List GatePlace → Type 0) : Type 0 where
  pub heard : Heard
  pub behind : IsHeard seat w heard then_seen
  pub ask_is : a ≡ by heard
  pub rows_are : rows ≡ rows_heard heard
  pub entered : AreUsersEntered seat gate then_seen

-- a stop came before the users were changed: others' entries alone stand after their history
pub record IsUnasked (seat : UserSeatAt) (w : Wanted) (then_seen : List Gv) : Type 0 where
  pub op : UserOp
  pub wanted : w ≡ to_do op
  pub changing : IsChanging op
  pub behind : (h : List UserEntry) → Saw seat.opening seat.seen h → TurnedBack seat.opening seat.place h then_seen

-- what came of asking the users; an error, where a stop came
abbrev pub AskedIs : UserSeatAt → Wanted → (Heard → Ask) → List UserRow → List Gv → (List GatePlace → Type 0) → Result Ask Stopped → Type 0
AskedIs seat w by rows then_seen gate (Ok a) = IsAsked seat w by a rows then_seen gate
AskedIs seat w by rows then_seen gate (Err e) = IsUnasked seat w then_seen × AreUsersEntered seat gate then_seen

-- what asking the users left: the rows that were read, what the seat at them has seen then, and where the gate was asked
pub record Left : Type 1 where
  pub rows : List UserRow
  pub seen : List Gv
  pub gate : List GatePlace → Type 0

abbrev pub left : List UserRow → List Gv → (List GatePlace → Type 0) → Left
left rows seen gate = record { rows = rows; seen = seen; gate = gate }

abbrev pub AskedAt : UserSeatAt → Wanted → (Heard → Ask) → Left → Result Ask Stopped → Type 0
AskedAt seat w by x a = AskedIs seat w by x.rows x.seen x.gate a
