-- What one unit does in a session that stands at a history.
use Rattle.std.specs.Prelude.{◌≡◌, ◌≢◌, ◌⊎◌, ℕ, List, [], ◌∷◌, ◌++◌, length, None}
use Rattle.turnstile.specs.Turning.{Each}
use Rattle.dxc_model.specs.declared.cause.Cause.{Cause}
use Rattle.dxc_model.specs.declared.cause.Cause.TheVariants.{JournalAstray}
use Rattle.dxc_model.specs.declared.op.Op.{Op}
use Rattle.dxc_model.specs.declared.op.Op.TheVariants.{Look, Restart, Rows}
use Rattle.dxc_model.specs.declared.entry.Outcome.{Outcome}
use Rattle.dxc_model.specs.declared.entry.Outcome.TheVariants.{Done, Denied, Failed, Answered, Restarted, Cut, Taken}
use Rattle.dxc_model.specs.declared.entry.Entry.{Entry}
use Rattle.dxc_model.specs.declared.user.SessionUser.{SessionUser}
use Rattle.dxc_model.specs.Tables.{Board, rows}
use Rattle.dxc_model.specs.Steps.{IsFault}
use Rattle.dxc_model.specs.Histories.{IsRestarted, IsRestartDue, IsStopped, changes_of, table_after}
use Rattle.xc_core.specs.Seeing.{entry}
use Rattle.craft_session.specs.declared.ask.Ask.{Ask}
use Rattle.craft_session.specs.declared.ask.Ask.TheVariants.{Refused, LogsIn, LogsOut, Completes, Allows, Inhibits, Lists, Shows, Restarts, Changes}
use Rattle.craft_session.specs.declared.attending.Attending.{Attending}
use Rattle.craft_session.specs.Asks.{Reply, completed, completed_rows, shown, restarted, denied, user_after, watch_after}

-- a changing command's reply
abbrev pub ChangeReply : Outcome → Reply → Type 0
ChangeReply (Done c) r = r ≡ completed
ChangeReply (Denied q) r = r ≡ denied q
ChangeReply (Failed q) r = r ≡ denied q
ChangeReply Answered r = ⊥
ChangeReply (Restarted c) r = ⊥
ChangeReply Cut r = ⊥
ChangeReply Taken r = ⊥

-- who attends where a session begins: this user, or nobody, and reports are inhibited
abbrev pub begun_by : SessionUser → Attending
begun_by first = record { user = first; watch = None }

-- after what was asked, with so many changes made
abbrev pub attending_after : Attending → ℕ → Ask → Attending
attending_after s newest a = record { user = user_after s.user a; watch = watch_after s.watch newest a }

-- an entry that no unit of the place uses: another place's, or the place's own at which it took the Provisioner
abbrev pub IsUnused : ℕ → Entry → Type 0
IsUnused place e = (e.place ≢ place) ⊎ (e.outcome ≡ Taken)

-- the reply to a restart
abbrev pub RestartReply : Outcome → Reply → Type 0
RestartReply (Done c) r = ⊥
RestartReply (Denied q) r = ⊥
RestartReply (Failed q) r = r ≡ denied q
RestartReply Answered r = ⊥
RestartReply (Restarted c) r = r ≡ restarted
RestartReply Cut r = ⊥
RestartReply Taken r = ⊥

-- after h, a restart of the place that was due
pub record IsMend (place : ℕ) (h : List Entry) (e : Entry) : Type 0 where
  pub mine : e.place ≡ place
  pub restarts : e.op ≡ Restart
  pub made : IsRestarted e
  pub due : IsRestartDue h

-- after h stand entries that no unit uses, and restarts, each of which was due
abbrev pub Mends : ℕ → List Entry → List Entry → Type 0
Mends place h [] = Unit {0}
Mends place h (e ∷ es) = (IsUnused place e ⊎ IsMend place h e) × Mends place (h ++ e ∷ []) es

-- what comes of a change after h: while a stop stands last it fails by a fault of the journal, and only where a restart is due the journal reads
-- otherwise than it was written
pub record IsChangeAt (h : List Entry) (o : Outcome) : Type 0 where
  pub stopped : IsStopped h → (q : Cause) × IsFault q × (o ≡ Failed q)
  pub astray : o ≡ Failed JournalAstray → IsRestartDue h

-- the entries of a changing command: restarts that are due, and its operation
pub record ServesChange (place : ℕ) (h : List Entry) (op : Op) (es : List Entry) (r : Reply) : Type 0 where
  pub front : List Entry
  pub mends : Mends place h front
  pub outcome : Outcome
  pub all : es ≡ front ++ entry place op outcome ∷ []
  pub fits : IsChangeAt (h ++ front) outcome
  pub reply : ChangeReply outcome r

-- After the history h what is asked takes these entries of the place and gets this reply
abbrev pub Serves : ℕ → Board → List Entry → Ask → List Entry → Reply → Type 0
Serves place t h (Refused q) es r = (es ≡ []) × (r ≡ denied q)
Serves place t h (LogsIn u) es r = (es ≡ []) × (r ≡ completed)
Serves place t h LogsOut es r = (es ≡ []) × (r ≡ completed)
Serves place t h Completes es r = (es ≡ []) × (r ≡ completed)
Serves place t h Allows es r = (es ≡ entry place (Look (length (changes_of h))) Answered ∷ []) × (r ≡ completed)
Serves place t h Inhibits es r = (es ≡ []) × (r ≡ completed)
Serves place t h (Lists which) es r = (es ≡ entry place (Rows which) Answered ∷ []) × (r ≡ completed_rows (rows (table_after t h) which))
Serves place t h (Shows what) es r = (es ≡ entry place (Look (length (changes_of h))) Answered ∷ []) × (r ≡ shown what (table_after t h).equipped (table_after t h).out)
Serves place t h Restarts es r = (o : Outcome) × (es ≡ entry place Restart o ∷ []) × RestartReply o r
Serves place t h (Changes op) es r = ServesChange place h op es r

-- what stands in front of the entry at which a stop cut what was asked
abbrev pub FrontOf : ℕ → List Entry → Ask → List Entry → Type 0
FrontOf place h (Refused q) front = ⊥
FrontOf place h (LogsIn u) front = ⊥
FrontOf place h LogsOut front = ⊥
FrontOf place h Completes front = ⊥
FrontOf place h Allows front = ⊥
FrontOf place h Inhibits front = ⊥
FrontOf place h (Lists which) front = ⊥
FrontOf place h (Shows what) front = ⊥
FrontOf place h Restarts front = Each (IsUnused place) front
FrontOf place h (Changes op) front = Mends place h front

-- the operation that a stop cut after h: a restart, or the changing one where no stop stands last
abbrev pub CutsAt : List Entry → Ask → Op → Type 0
CutsAt h (Refused q) x = ⊥
CutsAt h (LogsIn u) x = ⊥
CutsAt h LogsOut x = ⊥
CutsAt h Completes x = ⊥
CutsAt h Allows x = ⊥
CutsAt h Inhibits x = ⊥
CutsAt h (Lists which) x = ⊥
CutsAt h (Shows what) x = ⊥
CutsAt h Restarts x = x ≡ Restart
CutsAt h (Changes op) x = ((x ≡ op) × (IsStopped h → ⊥)) ⊎ ((x ≡ Restart) × IsRestartDue h)
