-- Who wants something of the users asks nothing of the table: a unit takes entries of one of both.
use Rattle.std.proofs.Common.{◌≡◌, ◌⊎◌, List, Option, Some, None, Result, Ok, Err, refl, inl, inr}
use Rattle.dxc_model.specs.declared.cause.Cause.{Cause}
use Rattle.dxc_model.specs.declared.cause.Cause.TheVariants.{UnknownCommand}
use Rattle.dxc_model.specs.declared.user.SessionUser.{SessionUser}
use Rattle.dxc_model.specs.declared.user.SessionUser.TheVariants.{Nobody, User}
use Rattle.shelf_file.specs.Contents.{Contents}
use Rattle.tl1_text.specs.Grammar.{Block}
use Rattle.tl1_text.specs.Units.{Input, whole, too_long}
use Rattle.tl1_text.specs.Walk.{blocks_of}
use Rattle.tl1_command.specs.Meanings.{Asked, acts, cancels, header, allows, inhibits, shows, asks_table, meaning}
use Rattle.tl1_users.specs.declared.op.UserOp.{UserOp}
use Rattle.tl1_users.specs.Commands.{user_meaning}
use Rattle.craft_session.specs.declared.ask.Ask.{Ask}
use Rattle.craft_session.specs.declared.ask.Ask.TheVariants.{Refused, LogsIn, LogsOut, Completes, Allows, Inhibits, Lists, Shows, Restarts, Changes}
use Rattle.craft_session.specs.Asks.{Language}
use Rattle.craft_session.specs.Hearing.{Heard, Wanted, done_with, found, nothing, refused_by, unasked}
use Rattle.craft_session.specs.Meanings.{asks, command_ask, command_wants, heard_ask, language, log_in, named_by, session_ask, session_wants, text_ask, text_wants, users_ask, users_want, wants}

-- what is asked that takes no entry of the table
abbrev pub TakesNone : Ask → Type 0
TakesNone (Refused q) = Unit {0}
TakesNone (LogsIn u) = Unit {0}
TakesNone LogsOut = Unit {0}
TakesNone Completes = Unit {0}
TakesNone Allows = ⊥
TakesNone Inhibits = Unit {0}
TakesNone (Lists which) = ⊥
TakesNone (Shows what) = ⊥
TakesNone Restarts = ⊥
TakesNone (Changes op) = ⊥

-- who wants something of the users asks nothing of the table
abbrev pub Parts : {U M : Type 0} → Language U M → Type 0
Parts {U} l = (s : SessionUser) (u : U) → (l.wants s u ≡ nothing) ⊎ TakesNone (l.asks s u)

log_in_none : (user named : SessionUser) → TakesNone (log_in user named)
log_in_none Nobody Nobody = tt
log_in_none Nobody (User uid class) = tt
log_in_none (User own kind) Nobody = tt
log_in_none (User own kind) (User uid class) = tt

heard_none : (x : Heard) → TakesNone (heard_ask x)
heard_none unasked = tt
heard_none (found class) = tt
heard_none (refused_by q) = tt
heard_none (done_with rows) = tt

abbrev Split : Wanted → Ask → Type 0
Split w k = (w ≡ nothing) ⊎ TakesNone k

users_part : (x : Heard) (o : Result UserOp Cause) → Split (users_want o) (users_ask x o)
users_part x (Ok o) = inr (heard_none x)
users_part x (Err q) = inl refl

session_part : (user : SessionUser) (x : Heard) (a : Asked) → Split (session_wants user a) (session_ask user x a)
session_part user x (acts uid pid) = inr (log_in_none user (named_by uid x))
session_part user x (cancels uid) = inl refl
session_part user x header = inl refl
session_part user x allows = inl refl
session_part user x inhibits = inl refl
session_part user x (shows what) = inl refl
session_part user x (asks_table o) = inl refl

command_part : (s : Contents) (user : SessionUser) (x : Heard) (bs : List Block) (a : Result Asked Cause) → Split (command_wants s user bs a) (command_ask s user x bs a)
command_part s user x bs (Ok a) = session_part user x a
command_part s user x bs (Err UnknownCommand) = users_part x (user_meaning s.sid user bs)
command_part s user x bs (Err q) = inl refl

text_part : (s : Contents) (user : SessionUser) (x : Heard) (bs : Option (List Block)) → Split (text_wants s user bs) (text_ask s user x bs)
text_part s user x None = inl refl
text_part s user x (Some bs) = command_part s user x bs (meaning s.shape s.sid user bs)

input_part : (s : Contents) (user : SessionUser) (x : Heard) (i : Input) → Split (wants s user i) (asks s user x i)
input_part s user x too_long = inl refl
input_part s user x (whole text) = text_part s user x (blocks_of text)

pub parts : (s : Contents) → Parts (language s)
parts s = λ user u. input_part s user u.heard u.input
