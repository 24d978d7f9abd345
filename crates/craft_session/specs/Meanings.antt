-- What a unit means to a session: a cause that unit, user and shelf alone decide, or a command that is served.
use Rattle.std.specs.Prelude.{ℕ, Bool, false, not, ◌&&◌, nat_lt, if◌then◌else◌, Option, Some, None, Result, Ok, Err, List, length}
use Rattle.dxc_outside.specs.declared.clock.Moment.{Moment}
use Rattle.dxc_model.specs.declared.cause.Cause.{Cause}
use Rattle.dxc_model.specs.declared.cause.Cause.TheVariants.{TooLong, BadText, UnknownCommand, BadIdentity, OtherUser, AlreadyLoggedIn}
use Rattle.dxc_model.specs.declared.op.Op.{Op}
use Rattle.dxc_model.specs.declared.op.Op.TheVariants as op
use Rattle.dxc_model.specs.declared.user.SessionUser.{SessionUser}
use Rattle.dxc_model.specs.declared.user.SessionUser.TheVariants.{Nobody, User}
use Rattle.tl1_text.specs.Grammar.{Block}
use Rattle.tl1_text.specs.Tags.{ctag_of}
use Rattle.tl1_text.specs.Units.{Input, whole, too_long}
use Rattle.tl1_text.specs.Walk.{blocks_of}
use Rattle.tl1_command.specs.Blocks.{is_there}
use Rattle.tl1_command.specs.Codes.{is_same_text}
use Rattle.tl1_command.specs.Meanings.{Asked, acts, cancels, header, allows, inhibits, shows, asks_table, meaning}
use Rattle.shelf_file.specs.Contents.{Contents}
use Rattle.shelf_file.specs.Keys.{upper}
use Rattle.tl1_users.specs.declared.op.UserOp.{UserOp}
use Rattle.tl1_users.specs.declared.op.UserOp.TheVariants as user
use Rattle.tl1_users.specs.Commands.{is_not_logged_in, user_meaning}
use Rattle.craft_session.specs.declared.ask.Ask.{Ask}
use Rattle.craft_session.specs.declared.ask.Ask.TheVariants.{Refused, LogsIn, LogsOut, Completes, Allows, Inhibits, Lists, Shows, Restarts, Changes}
use Rattle.craft_session.specs.Asks.{Language, asks_program, is_told_as}
use Rattle.craft_session.specs.Happenings.{Request}
use Rattle.craft_session.specs.Hearing.{Heard, Wanted, unasked, found, refused_by, done_with, nothing, to_look, to_do, rows_heard}
use Rattle.craft_session.specs.Responses.{beside, notice_bytes, reply_bytes}

-- an operation on the table
abbrev pub table_ask : Op → Ask
table_ask (op.Enter c) = Changes (op.Enter c)
table_ask (op.Delete x y cct) = Changes (op.Delete x y cct)
table_ask (op.Edit c) = Changes (op.Edit c)
table_ask (op.EnterModule m) = Changes (op.EnterModule m)
table_ask (op.DeleteModule m) = Changes (op.DeleteModule m)
table_ask (op.TakeOut m) = Changes (op.TakeOut m)
table_ask (op.PutBack m) = Changes (op.PutBack m)
table_ask (op.Rows which) = Lists which
table_ask (op.Look n) = Refused UnknownCommand
table_ask op.Restart = Restarts

-- the named user logs in where nobody is logged in; Nobody is where name and PID name none
abbrev pub log_in : SessionUser → SessionUser → Ask
log_in user Nobody = Refused BadIdentity
log_in Nobody (User uid class) = LogsIn (User uid class)
log_in (User own kind) (User uid class) = Refused AlreadyLoggedIn

-- a name is given, and it isn't the session's user, without regard to case
abbrev pub is_other_user : SessionUser → List ℕ → Bool
is_other_user Nobody uid = false
is_other_user (User own class) uid = is_there uid && not (is_same_text uid own)

-- whom a look at the users logs in by this name; Nobody where it finds none
abbrev pub named_by : List ℕ → Heard → SessionUser
named_by uid (found (Some class)) = User (upper uid) class
named_by uid (found None) = Nobody
named_by uid unasked = Nobody
named_by uid (refused_by q) = Nobody
named_by uid (done_with rows) = Nobody

-- what is asked of the session, by what it heard of the users
abbrev pub session_ask : SessionUser → Heard → Asked → Ask
session_ask user x (acts uid pid) = log_in user (named_by uid x)
session_ask user x (cancels uid) = if is_other_user user uid then Refused OtherUser else LogsOut
session_ask user x header = Completes
session_ask user x allows = Allows
session_ask user x inhibits = Inhibits
session_ask user x (shows what) = Shows what
session_ask user x (asks_table o) = table_ask o

-- what comes of a users' command, by what was heard of it
abbrev pub heard_ask : Heard → Ask
heard_ask unasked = Refused UnknownCommand
heard_ask (found class) = Refused UnknownCommand
heard_ask (refused_by q) = Refused q
heard_ask (done_with rows) = Completes

abbrev pub users_ask : Heard → Result UserOp Cause → Ask
users_ask x (Err q) = Refused q
users_ask x (Ok o) = heard_ask x

-- what a command asks; a unit with no such command may have one of the users'
abbrev pub command_ask : Contents → SessionUser → Heard → List Block → Result Asked Cause → Ask
command_ask s user x bs (Ok a) = session_ask user x a
command_ask s user x bs (Err UnknownCommand) = users_ask x (user_meaning s.sid user bs)
command_ask s user x bs (Err q) = Refused q

-- what the blocks of a unit ask
abbrev pub blocks_ask : Contents → SessionUser → Heard → List Block → Ask
blocks_ask s user x bs = command_ask s user x bs (meaning s.shape s.sid user bs)

abbrev pub text_ask : Contents → SessionUser → Heard → Option (List Block) → Ask
text_ask s user x None = Refused BadText
text_ask s user x (Some bs) = blocks_ask s user x bs

-- what a unit asks: the first cause that unit, user, shelf and users decide, or what is served
abbrev pub asks : Contents → SessionUser → Heard → Input → Ask
asks s user x too_long = Refused TooLong
asks s user x (whole text) = text_ask s user x (blocks_of text)

-- a log-in wants a look at the users, where its name may be that of one
abbrev pub login_wants : SessionUser → List ℕ → List ℕ → Wanted
login_wants user uid pid = if nat_lt 10 (length uid) then nothing else to_look (is_not_logged_in user) uid pid

abbrev pub session_wants : SessionUser → Asked → Wanted
session_wants user (acts uid pid) = login_wants user uid pid
session_wants user (cancels uid) = nothing
session_wants user header = nothing
session_wants user allows = nothing
session_wants user inhibits = nothing
session_wants user (shows what) = nothing
session_wants user (asks_table o) = nothing

-- a users' command wants its operation; none is a look or a log-in by itself
abbrev pub op_wants : UserOp → Wanted
op_wants (user.Enter uid pid class) = to_do (user.Enter uid pid class)
op_wants (user.Edit uid pid class) = to_do (user.Edit uid pid class)
op_wants (user.Delete uid) = to_do (user.Delete uid)
op_wants (user.EditPid uid old new) = to_do (user.EditPid uid old new)
op_wants (user.Rows which) = to_do (user.Rows which)
op_wants (user.Look uid) = nothing
op_wants (user.LogIn uid) = nothing
op_wants (user.Cancel uid) = to_do (user.Cancel uid)

abbrev pub users_want : Result UserOp Cause → Wanted
users_want (Err q) = nothing
users_want (Ok o) = op_wants o

abbrev pub command_wants : Contents → SessionUser → List Block → Result Asked Cause → Wanted
command_wants s user bs (Ok a) = session_wants user a
command_wants s user bs (Err UnknownCommand) = users_want (user_meaning s.sid user bs)
command_wants s user bs (Err q) = nothing

abbrev pub text_wants : Contents → SessionUser → Option (List Block) → Wanted
text_wants s user None = nothing
text_wants s user (Some bs) = command_wants s user bs (meaning s.shape s.sid user bs)

-- what a unit wants of the users
abbrev pub wants : Contents → SessionUser → Input → Wanted
wants s user too_long = nothing
wants s user (whole text) = text_wants s user (blocks_of text)

-- the CTAG that is echoed
abbrev pub tag_of : Input → Option (List ℕ)
tag_of too_long = None
tag_of (whole text) = ctag_of text

-- the language of a shelf's sessions that begin with this user
abbrev pub language_for : SessionUser → Contents → Language Request Moment
language_for first s = record {
  first = first;
  wants = λ user u. wants s user u.input;
  heard = λ u. u.heard;
  asks = λ user u. asks s user u.heard u.input;
  is_told = λ user u. is_told_as (asks_program (asks s user u.heard u.input)) u.stands;
  response = λ m u r. reply_bytes s.sid s.shape m (tag_of u.input) (beside (rows_heard u.heard) u.stands) r;
  report = λ m n. notice_bytes s.sid s.shape m n;
}

-- and of those that begin with nobody
abbrev pub language : Contents → Language Request Moment
language s = language_for Nobody s
