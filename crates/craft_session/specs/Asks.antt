-- What a session replies, and the language in which it is asked and answers.
use Rattle.std.specs.Prelude.{ℕ, Bool, true, false, List, Option, Some, None}
use Rattle.std.specs.List.{AllByRecursion}
use Rattle.dxc_model.specs.declared.cause.Cause.{Cause}
use Rattle.dxc_model.specs.declared.conn.Conn.{Conn}
use Rattle.dxc_model.specs.declared.user.SessionUser.{SessionUser}
use Rattle.dxc_model.specs.declared.user.SessionUser.TheVariants.{Nobody}
use Rattle.dxc_num.specs.declared.port.Middle.{Middle}
use Rattle.dxc_num.specs.Dimensions.{Dimensions}
use Rattle.dxc_model.specs.Operations.{IsApt}
use Rattle.tl1_answer.specs.Texts.{IsOfShape}
use Rattle.dxc_notes.specs.declared.standing.Standing.{Standing}
use Rattle.tl1_command.specs.declared.command.Subject.{Subject}
use Rattle.tl1_command.specs.declared.command.Subject.TheVariants as subject
use Rattle.xc_core.specs.Turns.{IsInventoryOf, equipped_in}
use Rattle.craft_session.specs.declared.ask.Ask.{Ask}
use Rattle.craft_session.specs.declared.ask.Ask.TheVariants.{Refused, LogsIn, LogsOut, Completes, Allows, Inhibits, Lists, Shows, Restarts, Changes}
use Rattle.craft_session.specs.declared.ask.Acted.{Acted}
use Rattle.craft_session.specs.declared.ask.Acted.TheVariants as acted
use Rattle.craft_session.specs.Hearing.{Heard, Wanted}
use Rattle.craft_session.specs.Notices.{Notice}

-- what a response says
pub data Reply : Type 0 where
  completed : Reply
  completed_rows : List Conn → Reply
  -- of what is asked to be shown: the equipped modules, and the middle that is out
  shown : Subject → (equipped : List ℕ) → (out : Option Middle) → Reply
  restarted : Reply
  denied : Cause → Reply

-- what was done, with the rows that were listed
abbrev pub reply_of : Acted → List Conn → Reply
reply_of acted.Completed rows = completed
reply_of acted.Listed rows = completed_rows rows
reply_of (acted.Shown what i) rows = shown what (equipped_in i) i.out
reply_of acted.Restarted rows = restarted
reply_of (acted.Denied q) rows = denied q

-- rows that were listed and an inventory that was read are of the shape
abbrev pub IsAptActed : Dimensions → List Conn → Acted → Type 0
IsAptActed d rows acted.Completed = Unit {0}
IsAptActed d rows acted.Listed = AllByRecursion (IsOfShape d) rows
IsAptActed d rows (acted.Shown what i) = IsInventoryOf d i
IsAptActed d rows acted.Restarted = Unit {0}
IsAptActed d rows (acted.Denied q) = Unit {0}

-- an operation that is asked for is one of the shape's
abbrev pub IsAptAsk : Dimensions → Ask → Type 0
IsAptAsk d (Refused q) = Unit {0}
IsAptAsk d (LogsIn u) = Unit {0}
IsAptAsk d LogsOut = Unit {0}
IsAptAsk d Completes = Unit {0}
IsAptAsk d Allows = Unit {0}
IsAptAsk d Inhibits = Unit {0}
IsAptAsk d (Lists which) = Unit {0}
IsAptAsk d (Shows what) = Unit {0}
IsAptAsk d Restarts = Unit {0}
IsAptAsk d (Changes op) = IsApt d op

-- who is logged in after what was asked
abbrev pub user_after : SessionUser → Ask → SessionUser
user_after s (Refused q) = s
user_after s (LogsIn u) = u
user_after s LogsOut = Nobody
user_after s Completes = s
user_after s Allows = s
user_after s Inhibits = s
user_after s (Lists which) = s
user_after s (Shows what) = s
user_after s Restarts = s
user_after s (Changes op) = s

-- The number of the last change that was reported, where reports are allowed; from this number on, where they begin
abbrev pub cursor_from : Option ℕ → ℕ → ℕ
cursor_from None newest = newest
cursor_from (Some n) newest = n

-- where reports stand after what was asked, with so many changes made
abbrev pub watch_after : Option ℕ → ℕ → Ask → Option ℕ
watch_after w newest (Refused q) = w
watch_after w newest (LogsIn u) = w
watch_after w newest LogsOut = None
watch_after w newest Completes = w
watch_after w newest Allows = Some (cursor_from w newest)
watch_after w newest Inhibits = None
watch_after w newest (Lists which) = w
watch_after w newest (Shows what) = w
watch_after w newest Restarts = w
watch_after w newest (Changes op) = w

-- whether it is asked what stands of the program
abbrev pub asks_program : Ask → Bool
asks_program (Refused q) = false
asks_program (LogsIn u) = false
asks_program LogsOut = false
asks_program Completes = false
asks_program Allows = false
asks_program Inhibits = false
asks_program (Lists which) = false
asks_program (Shows subject.Middle) = false
asks_program (Shows subject.System) = true
asks_program Restarts = false
asks_program (Changes op) = false

-- just what is asked is told
abbrev pub is_told_as : Bool → Option Standing → Bool
is_told_as true (Some x) = true
is_told_as true None = false
is_told_as false (Some x) = false
is_told_as false None = true

-- Who is logged in where a session begins; what units want of the users and ask for a user, by what they heard of them; whether a unit was told of the
-- program just what it asks; and the bytes of the response to a unit and of a report, at a moment.
pub record Language (U M : Type 0) : Type 0 where
  pub first : SessionUser
  pub wants : SessionUser → U → Wanted
  pub heard : U → Heard
  pub asks : SessionUser → U → Ask
  pub is_told : SessionUser → U → Bool
  pub response : M → U → Reply → List ℕ
  pub report : M → Notice → List ℕ
