-- What was read of a unit before anybody was asked: what it wants of the users, and what it asks after their answer.
use Rattle.std.specs.Prelude.{◌≡◌, ℕ, List, Result, IfOk}
use Rattle.dxc_num.specs.Dimensions.{Dimensions}
use Rattle.dxc_model.specs.declared.cause.Cause.{Cause}
use Rattle.dxc_model.specs.declared.user.SessionUser.{SessionUser}
use Rattle.tl1_text.specs.Grammar.{Block}
use Rattle.tl1_text.specs.Spans.{IsIn, text_at}
use Rattle.tl1_text.specs.Units.{Input}
use Rattle.tl1_command.specs.Meanings.{meaning}
use Rattle.tl1_users.specs.Commands.{NamesUid, user_meaning}
use Rattle.tl1_users.specs.declared.op.UserOp.{UserOp}
use Rattle.tl1_users.specs.declared.op.UserOp.TheVariants as op
use Rattle.shelf_file.specs.Contents.{Contents}
use Rattle.craft_session.specs.declared.ask.Ask.{Ask}
use Rattle.craft_session.specs.declared.ask.Meaning.{Meaning}
use Rattle.craft_session.specs.declared.ask.Meaning.TheVariants.{Session, LogIn, Users}
use Rattle.craft_session.specs.Asks.{IsAptAsk}
use Rattle.craft_session.specs.Hearing.{Heard, Wanted, nothing}
use Rattle.craft_session.specs.Meanings.{asks, command_ask, command_wants, log_in, login_wants, named_by, users_ask, users_want, wants}

-- the text of a unit, what it means, and what was put down beside that: what it asks of the session, and what it asks of the users
pub record Read : Type 0 where
  pub text : List ℕ
  pub meaning : Meaning
  pub ask : Ask
  pub op : Result UserOp Cause

abbrev pub read_as : List ℕ → Meaning → Ask → Result UserOp Cause → Read
read_as text meaning ask o = record { text = text; meaning = meaning; ask = ask; op = o }

-- what a unit of this user wants of the users by what it means
abbrev pub wanted_in : SessionUser → List ℕ → Result UserOp Cause → Meaning → Wanted
wanted_in user text o Session = nothing
wanted_in user text o (LogIn uid pid) = login_wants user (text_at text uid) (text_at text pid)
wanted_in user text o Users = users_want o

-- and what it asks by what it heard of them
abbrev pub asked_in : SessionUser → List ℕ → Ask → Result UserOp Cause → Meaning → Heard → Ask
asked_in user text ask o Session x = ask
asked_in user text ask o (LogIn uid pid) x = log_in user (named_by (text_at text uid) x)
asked_in user text ask o Users x = users_ask x o

-- an operation that a command asks of the users: by itself it is no look and no log-in
abbrev pub IsCommand : UserOp → Type 0
IsCommand (op.Enter uid pid class) = Unit {0}
IsCommand (op.Edit uid pid class) = Unit {0}
IsCommand (op.Delete uid) = Unit {0}
IsCommand (op.EditPid uid old new) = Unit {0}
IsCommand (op.Rows which) = Unit {0}
IsCommand (op.Look uid) = ⊥
IsCommand (op.LogIn uid) = ⊥
IsCommand (op.Cancel uid) = Unit {0}

-- parts stand in the unit, operations are of the shape; those on the users are a command's, and name users by a uid
abbrev pub IsAptIn : Dimensions → List ℕ → Ask → Result UserOp Cause → Meaning → Type 0
IsAptIn d text ask o Session = IsAptAsk d ask
IsAptIn d text ask o (LogIn uid pid) = IsIn text uid × IsIn text pid
IsAptIn d text ask o Users = IfOk o NamesUid × IfOk o IsCommand

-- the same of what was read
abbrev pub wanted_by : SessionUser → Read → Wanted
wanted_by user r = wanted_in user r.text r.op r.meaning

abbrev pub asked_after : SessionUser → Read → Heard → Ask
asked_after user r x = asked_in user r.text r.ask r.op r.meaning x

abbrev pub IsAptRead : Dimensions → Read → Type 0
IsAptRead d r = IsAptIn d r.text r.ask r.op r.meaning

-- it was read as one that wants this of the users and asks that by what it hears of them
pub record IsReadAs (d : Dimensions) (user : SessionUser) (w : Wanted) (by : Heard → Ask) (r : Read) : Type 0 where
  pub wanted : wanted_by user r ≡ w
  pub asked : (x : Heard) → asked_after user r x ≡ by x
  pub apt : IsAptRead d r

-- as what it is
abbrev pub IsReadOf : Contents → SessionUser → Input → Read → Type 0
IsReadOf s user u r = IsReadAs s.shape user (wants s user u) (λ x. asks s user x u) r

-- of these blocks, which may be a command of the users, or are one of theirs or none
abbrev pub IsReadIn : Contents → SessionUser → List Block → Read → Type 0
IsReadIn s user bs r = IsReadAs s.shape user (command_wants s user bs (meaning s.shape s.sid user bs)) (λ x. command_ask s user x bs (meaning s.shape s.sid user bs)) r

abbrev pub IsReadOfUsers : Contents → SessionUser → List Block → Read → Type 0
IsReadOfUsers s user bs r = IsReadAs s.shape user (users_want (user_meaning s.sid user bs)) (λ x. users_ask x (user_meaning s.sid user bs)) r
