-- What a session notes of its units, and that it noted that.
use Rattle.std.specs.Prelude.{◌≡◌, ◌⊎◌, ℕ, List, [], ◌∷◌, ◌++◌, Option, Some, None, Result, Ok, Err}
use mathlib.Core.Logic.{inl, inr}
use base.Stored.{Gv}
use Rattle.dxc_num.specs.declared.port.Port.{Port}
use Rattle.dxc_num.specs.Dimensions.{Dimensions}
use Rattle.dxc_outside.specs.declared.clock.Moment.{Moment}
use Rattle.dxc_outside.specs.declared.send.Sent.{Sent}
use Rattle.dxc_outside.specs.declared.send.Sent.TheVariants.{Whole as Sent_whole, Cut as Sent_cut}
use Rattle.dxc_outside.specs.declared.stopped.Stopped.{Stopped}
use Rattle.dxc_outside.specs.Links.{LinkState}
use Rattle.dxc_model.specs.declared.cause.Cause.{Cause}
use Rattle.dxc_model.specs.declared.cause.Cause.TheVariants.{BadIdentity}
use Rattle.dxc_model.specs.declared.entry.Entry.{Entry}
use Rattle.dxc_model.specs.declared.entry.Outcome.TheVariants.{Answered}
use Rattle.dxc_model.specs.declared.op.Op.{Op}
use Rattle.dxc_model.specs.declared.op.Op.TheVariants as op
use Rattle.dxc_model.specs.declared.user.SessionUser.{SessionUser}
use Rattle.dxc_model.specs.declared.user.SessionUser.TheVariants.{Nobody, User}
use Rattle.dxc_notes.specs.declared.command.Outcome.{Outcome}
use Rattle.dxc_notes.specs.declared.command.Outcome.TheVariants as outcome
use Rattle.dxc_notes.specs.declared.command.PortAt.{PortAt}
use Rattle.dxc_notes.specs.declared.command.UserChange.{UserChange}
use Rattle.dxc_notes.specs.declared.command.UserChange.TheVariants as change
use Rattle.dxc_notes.specs.declared.command.What.{What}
use Rattle.dxc_notes.specs.declared.command.What.TheVariants as what
use Rattle.dxc_notes.specs.declared.note.Note.{Note}
use Rattle.dxc_notes.specs.declared.note.Note.TheVariants as note
use Rattle.tl1_text.specs.Units.{Input}
use Rattle.shelf_file.specs.Contents.{Contents}
use Rattle.user_admin.specs.declared.op.UserEntry.{UserEntry}
use Rattle.tl1_users.specs.declared.op.UserOp.{UserOp}
use Rattle.tl1_users.specs.declared.op.UserOp.TheVariants as users_op
use Rattle.user_admin.specs.Turns.{Saw as SawUsers, TurnedBack}
use Rattle.xc_core.specs.Seeing.{Saw, Turned, entry}
use Rattle.craft_session.specs.declared.ask.Ask.{Ask}
use Rattle.craft_session.specs.declared.ask.Ask.TheVariants.{Refused, LogsIn, LogsOut, Completes, Allows, Inhibits, Lists, Shows, Restarts, Changes}
use Rattle.craft_session.specs.declared.attending.Attending.{Attending}
use Rattle.craft_session.specs.declared.end.Progress.{Progress}
use Rattle.craft_session.specs.declared.end.Progress.TheVariants.{On, Cut}
use Rattle.craft_session.specs.declared.lent.Lent.{Ghosts as LentOf}
use Rattle.craft_session.specs.Asks.{Reply, completed, completed_rows, shown, restarted, denied}
use Rattle.craft_session.specs.Desks.{IsAnswered, IsSaidOf, IsStoppedBefore, IsStoppedBehind}
use Rattle.craft_session.specs.Hearing.{Wanted, nothing, to_look, to_do}
use Rattle.craft_session.specs.Lending.{Things}
use Rattle.craft_session.specs.Meanings.{asks, tag_of, wants}
use Rattle.craft_session.specs.Seats.{IsSameSeat, IsSameUserSeat, SeatAt, UserSeatAt}
use Rattle.craft_session.specs.Sessions.{Now, now_of}
use Rattle.craft_session.specs.Timely.{Telling, telling}
use Rattle.craft_session.specs.Walks.{begun_by}

-- what came of a unit, by its reply
abbrev pub outcome_of : Reply → Outcome
outcome_of completed = outcome.Done
outcome_of (completed_rows rows) = outcome.Done
outcome_of (shown subject equipped out) = outcome.Done
outcome_of restarted = outcome.Done
outcome_of (denied q) = outcome.Denied q

-- of a unit that was refused: that of a log-in
abbrev pub refusal_notes : Cause → List Note
refusal_notes BadIdentity = note.LogInDenied ∷ []
refusal_notes q = []

-- who logs in
abbrev pub login_notes : SessionUser → List Note
login_notes Nobody = []
login_notes (User uid class) = note.LoggedIn uid class ∷ []

-- the user's name; nobody has none
abbrev pub name_of : SessionUser → List ℕ
name_of Nobody = []
name_of (User uid class) = uid

-- the tag; none is empty
abbrev pub word_of : Option (List ℕ) → List ℕ
word_of None = []
word_of (Some tag) = tag

abbrev pub port_at : Dimensions → Port → PortAt
port_at d p = record { number = p.0; slots = d.slots }

-- what an operation changes on an element of a shape
abbrev pub what_of : Dimensions → Op → What
what_of d (op.Enter c) = what.Enter (port_at d c.from) (port_at d c.to)
what_of d (op.Edit c) = what.Edit (port_at d c.from) (port_at d c.to)
what_of d (op.Delete x y cct) = what.Delete (port_at d x) (port_at d y)
what_of d (op.EnterModule m) = what.EnterModule m
what_of d (op.DeleteModule m) = what.DeleteModule m
what_of d (op.TakeOut m) = what.TakeOut m.0
what_of d (op.PutBack m) = what.PutBack m.0
what_of d (op.Rows which) = what.Nothing
what_of d (op.Look n) = what.Nothing
what_of d op.Restart = what.Restart

-- a command of a user, with its tag
abbrev pub command_notes : SessionUser → Option (List ℕ) → What → Outcome → List Note
command_notes user tag w o = note.Asked (record { user = name_of user; tag = word_of tag; what = w; outcome = o }) ∷ []

-- what came of an operation on the users, by what is asked then
abbrev pub outcome_by : Ask → Outcome
outcome_by (Refused q) = outcome.Denied q
outcome_by (LogsIn u) = outcome.Done
outcome_by LogsOut = outcome.Done
outcome_by Completes = outcome.Done
outcome_by Allows = outcome.Done
outcome_by Inhibits = outcome.Done
outcome_by (Lists which) = outcome.Done
outcome_by (Shows subject) = outcome.Done
outcome_by Restarts = outcome.Done
outcome_by (Changes o) = outcome.Done

-- what is done to the users or to their sessions, and to which
abbrev pub changes_user : UserOp → Option (UserChange × List ℕ)
changes_user (users_op.Enter uid pid class) = Some (change.Enter, uid)
changes_user (users_op.Edit uid pid class) = Some (change.Edit, uid)
changes_user (users_op.Delete uid) = Some (change.Delete, uid)
changes_user (users_op.EditPid uid old new) = Some (change.EditPid, uid)
changes_user (users_op.Cancel uid) = Some (change.Cancel, uid)
changes_user (users_op.Rows which) = None
changes_user (users_op.Look uid) = None
changes_user (users_op.LogIn uid) = None

-- a command on the users, where it changes them or ends sessions, with its tag
abbrev pub users_command_notes : SessionUser → Option (List ℕ) → Option (UserChange × List ℕ) → Outcome → List Note
users_command_notes user tag (Some c) o = note.UsersAsked (record { user = name_of user; tag = word_of tag; change = c.0; changed = c.1; outcome = o }) ∷ []
users_command_notes user tag None o = []

-- of an operation on the users, what came of it
abbrev pub change_notes : SessionUser → Option (List ℕ) → UserOp → Outcome → List Note
change_notes user tag op o = users_command_notes user tag (changes_user op) o

-- as what a unit is noted that wanted this of the users and asks that then
abbrev pub users_notes : SessionUser → Option (List ℕ) → Wanted → Ask → List Note
users_notes user tag nothing a = []
users_notes user tag (to_look vacant uid pid) a = []
users_notes user tag (to_do o) a = change_notes user tag o (outcome_by a)

-- so it was noted; nothing, where a stop came
abbrev pub UsersNoted : (List Note → Type 0) → SessionUser → Option (List ℕ) → Wanted → Result Ask Stopped → Type 0
UsersNoted noted user tag w (Ok a) = noted (users_notes user tag w a)
UsersNoted noted user tag w (Err e) = noted []

-- as what a unit is noted besides, by what it asks and its reply: who logs in and out, what changes circuits or equipment, and restarts
abbrev pub notes_of : Dimensions → SessionUser → Option (List ℕ) → Ask → Reply → List Note
notes_of d user tag (Refused q) r = refusal_notes q
notes_of d user tag (LogsIn u) r = login_notes u
notes_of d user tag LogsOut r = note.LoggedOut ∷ []
notes_of d user tag Completes r = []
notes_of d user tag Allows r = []
notes_of d user tag Inhibits r = []
notes_of d user tag (Lists which) r = []
notes_of d user tag (Shows subject) r = []
notes_of d user tag Restarts r = command_notes user tag what.Restart (outcome_of r)
notes_of d user tag (Changes o) r = command_notes user tag (what_of d o) (outcome_of r)

-- where a session stands: its link, the moments to come, its seats, and who attends
pub record Stood : Type 0 where
  pub link : LinkState
  pub coming : List Moment
  pub seat : SeatAt
  pub users : UserSeatAt
  pub attending : Attending

abbrev pub stood : LinkState → List Moment → SeatAt → UserSeatAt → Attending → Stood
stood link coming seat users attending = record { link = link; coming = coming; seat = seat; users = users; attending = attending }

abbrev pub now_in : Stood → Now
now_in x = now_of x.seat x.users x.attending

-- a seat has seen nothing more, or others' entries and then a look of its own
abbrev pub HasLooked : SeatAt → List Gv → Type 0
HasLooked s seen = (seen ≡ s.seen) ⊎ ((h : List Entry) → Saw s.opening s.seen h → (n : ℕ) × Turned s.opening s.place h (entry s.place (op.Look n) Answered) seen)

-- a read, reports, or a look at the users that nothing is entered of
pub record IsBeside (told : Type 0) (b c : Stood) : Type 0 where
  pub wrote : told → (out : List ℕ) × (c.link.written ≡ b.link.written ++ out)
  pub seat : IsSameSeat b.seat c.seat
  pub same : IsSameUserSeat b.users c.users
  pub looked : HasLooked b.seat c.seat.seen
  pub users : (c.users.seen ≡ b.users.seen) ⊎ ((h : List UserEntry) → SawUsers b.users.opening b.users.seen h → TurnedBack b.users.opening b.users.place h c.users.seen)
  pub user : c.attending.user ≡ b.attending.user

module _ (s : Contents) (t : Telling) where
  -- a unit was answered, or a part of the response was written, or a stop cut it
  pub record IsUnit (b : Stood) (u : Input) (how : Result Progress Stopped) (c : Stood) : Type 0 where
    pub seat : IsSameSeat b.seat c.seat
    pub users : IsSameUserSeat b.users c.users
    pub answered : IsAnswered s t.told t.clock_told b.link c.link b.coming c.coming u b.seat b.users (now_in b) (now_in c) how

  -- as what it is noted: by who gave it, its tag, what it wanted of the users, what it asks after what was heard of them, and the reply
  abbrev pub said_notes : (sent : Sent) (b : Stood) (u : Input) (c : Stood) → IsSaidOf s t.told t.clock_told b.link c.link b.coming c.coming sent u b.seat b.users (now_in b) (now_in c) → List Note
  said_notes sent b u c x = users_notes b.attending.user (tag_of u) (wants s b.attending.user u) (asks s b.attending.user x.heard u) ++ notes_of s.shape b.attending.user (tag_of u) (asks s b.attending.user x.heard u) x.reply

  -- one that a stop cut at the table: as what it wanted of the users before; one that it cut there: as nothing
  abbrev pub cut_notes : (b : Stood) (u : Input) (c : Stood) → IsStoppedBehind s u b.seat b.users (now_in b) (now_in c) ⊎ IsStoppedBefore s u b.users (now_in b) (now_in c) → List Note
  cut_notes b u c (inl x) = users_notes b.attending.user (tag_of u) (wants s b.attending.user u) (asks s b.attending.user x.heard u)
  cut_notes b u c (inr x) = []

  abbrev pub unit_notes : (how : Result Progress Stopped) (b : Stood) (u : Input) (c : Stood) → IsUnit b u how c → List Note
  unit_notes (Ok On) b u c x = said_notes Sent_whole b u c x.answered
  unit_notes (Ok Cut) b u c x = said_notes Sent_cut b u c x.answered
  unit_notes (Err e) b u c x = cut_notes b u c x.answered.stopped

  -- from the one moment to the other these were its notes
  pub data Notes : Stood → List Note → Stood → Type 0 where
    no_notes : (a : Stood) → Notes a [] a
    notes_beside : (a b c : Stood) (ns : List Note) → Notes a ns b → IsBeside t.told b c → Notes a ns c
    notes_on : (a b c : Stood) (ns : List Note) (u : Input) (how : Result Progress Stopped) → Notes a ns b → (x : IsUnit b u how c) → Notes a (ns ++ unit_notes how b u c x) c

  -- and they were told
  pub record HasNoted (a c : Stood) (noted : List Note → Type 0) : Type 0 where
    pub notes : List Note
    pub are : Notes a notes c
    pub were : noted notes

-- what a session noted that began with this user, from one moment of what it was lent to the other, whoever attends at its end
pub record NotedFor {T : Type 0} (world : LentOf T) (first : SessionUser) (old new : Things world.lent) (noted : List Note → Type 0) : Type 0 where
  pub attending : Attending
  pub has : let w = world.lent in HasNoted old.0.shelf (telling w.link.told w.clock.told w.clock.stamped) (stood (w.link.state old.1) (w.clock.coming old.2) old.0.seat old.0.users (begun_by first)) (stood (w.link.state new.1) (w.clock.coming new.2) new.0.seat new.0.users attending) noted
