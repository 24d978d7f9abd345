-- The plain session: one table, one user, one happening after the other. Meanwhile others may change the table.
use Rattle.std.specs.Prelude.{◌≡◌, ◌⊎◌, ℕ, Bool, true, false, Option, Some, None, Result, Ok, Err, List, [], ◌∷◌, ◌++◌, length, option_to_list}
use Rattle.dxc_model.specs.declared.cause.Cause.{Cause}
use Rattle.dxc_model.specs.declared.cause.Cause.TheVariants.{DiskFault}
use Rattle.dxc_model.specs.declared.op.Change.{Change}
use Rattle.dxc_model.specs.declared.entry.Entry.{Entry}
use Rattle.dxc_model.specs.Tables.{Board, rows}
use Rattle.dxc_model.specs.Verdicts.{Grants, effect, verdict}
use Rattle.dxc_model.specs.Operations.{op_of}
use Rattle.dxc_model.specs.Steps.{with_change}
use Rattle.dxc_model.specs.Histories.{changes_of, table_after}
use Rattle.craft_session.specs.declared.ask.Ask.{Ask}
use Rattle.craft_session.specs.declared.ask.Ask.TheVariants.{Refused, LogsIn, LogsOut, Completes, Allows, Inhibits, Lists, Shows, Restarts, Changes}
use Rattle.craft_session.specs.declared.attending.Attending.{Attending}
use Rattle.craft_session.specs.Asks.{Reply, completed, completed_rows, shown, restarted, denied, Language}
use Rattle.craft_session.specs.Happenings.{Happening, unit, quiet}
use Rattle.craft_session.specs.Notices.{AreReported, notices}
use Rattle.craft_session.specs.Runs.{Walk}
use Rattle.craft_session.specs.Walks.{attending_after}

-- the table, the changes that led to it, who is logged in and where reports stand
pub record At : Type 0 where
  pub table : Board
  pub changes : List Change
  pub attending : Attending

-- where a plain session stands after these entries
abbrev pub standing : Board → List Entry → Attending → At
standing t h s = record { table = table_after t h; changes = changes_of h; attending = s }

-- what limit a change meets after these
abbrev pub Limit : Type 1
Limit = List Change → Change → Option Cause → Type 0

-- which causes may deny what table and limits grant
abbrev pub Excuse : Type 1
Excuse = Cause → Type 0

-- what may happen to the table between two steps of a session
abbrev pub Meanwhile : Type 1
Meanwhile = At → At → Type 0

-- nothing, where the session is alone
abbrev pub alone : Meanwhile
alone a b = b ≡ a

-- a change that the table grants is made, unless it meets a limit
abbrev pub Makes : Change → Option Cause → Reply → Option Change → Type 0
Makes c None r did = (r ≡ completed) × (did ≡ Some c)
Makes c (Some q) r did = (r ≡ denied q) × (did ≡ None)

-- a changing command, by the table's verdict
abbrev pub Decides : Limit → List Change → Option (Result Change Cause) → Reply → Option Change → Type 0
Decides limit cs (Some (Ok c)) r did = (met : Option Cause) × limit cs c met × Makes c met r did
Decides limit cs (Some (Err q)) r did = (r ≡ denied q) × (did ≡ None)
Decides limit cs None r did = ⊥

-- or it is denied for a cause that has an excuse
abbrev pub Judges : Limit → Excuse → List Change → Option (Result Change Cause) → Reply → Option Change → Type 0
Judges limit excused cs v r did = Decides limit cs v r did ⊎ ((q : Cause) × excused q × (r ≡ denied q) × (did ≡ None))

-- a restart takes up a change that the table grants, which a fault left in doubt; or none
abbrev pub TakesUp : Excuse → Board → Option Change → Type 0
TakesUp excused t None = Unit {0}
TakesUp excused t (Some c) = Grants t (op_of c) c × excused DiskFault

-- the reply to what is asked, and the change that is made
abbrev pub Replies : Limit → Excuse → At → Ask → Reply → Option Change → Type 0
Replies limit excused a (Refused q) r did = (r ≡ denied q) × (did ≡ None)
Replies limit excused a (LogsIn u) r did = (r ≡ completed) × (did ≡ None)
Replies limit excused a LogsOut r did = (r ≡ completed) × (did ≡ None)
Replies limit excused a Completes r did = (r ≡ completed) × (did ≡ None)
Replies limit excused a Allows r did = (r ≡ completed) × (did ≡ None)
Replies limit excused a Inhibits r did = (r ≡ completed) × (did ≡ None)
Replies limit excused a (Lists which) r did = (r ≡ completed_rows (rows a.table which)) × (did ≡ None)
Replies limit excused a (Shows what) r did = (r ≡ shown what a.table.equipped a.table.out) × (did ≡ None)
Replies limit excused a Restarts r did = ((r ≡ restarted) × TakesUp excused a.table did) ⊎ ((q : Cause) × excused q × (r ≡ denied q) × (did ≡ None))
Replies limit excused a (Changes op) r did = Judges limit excused a.changes (verdict a.table op) r did

-- where the session stands then
abbrev pub after_ask : At → Ask → Option Change → At
after_ask a k did = record { table = with_change a.table did; changes = a.changes ++ option_to_list did; attending = attending_after a.attending (length a.changes) k }

-- a change more
abbrev pub with_one : At → Change → At
with_one a c = record a { table = effect a.table c; changes = a.changes ++ c ∷ [] }

-- all changes so far were reported
abbrev pub after_reports : At → At
after_reports a = record a { attending = record { user = a.attending.user; watch = Some (length a.changes) } }

-- before a changing command: what may happen meanwhile, and restarts that take up changes
pub data Prepares (excused : Excuse) (meanwhile : Meanwhile) : At → At → Type 0 where
  ready : (a : At) → Prepares excused meanwhile a a
  waited : (a b c : At) → meanwhile a b → Prepares excused meanwhile b c → Prepares excused meanwhile a c
  took_up : (a b : At) (c : Change) → TakesUp excused a.table (Some c) → Prepares excused meanwhile (with_one a c) b → Prepares excused meanwhile a b

-- nothing else is prepared
abbrev pub PreparesFor : Excuse → Meanwhile → Ask → At → At → Type 0
PreparesFor excused meanwhile (Refused q) a b = b ≡ a
PreparesFor excused meanwhile (LogsIn u) a b = b ≡ a
PreparesFor excused meanwhile LogsOut a b = b ≡ a
PreparesFor excused meanwhile Completes a b = b ≡ a
PreparesFor excused meanwhile Allows a b = b ≡ a
PreparesFor excused meanwhile Inhibits a b = b ≡ a
PreparesFor excused meanwhile (Lists which) a b = b ≡ a
PreparesFor excused meanwhile (Shows what) a b = b ≡ a
PreparesFor excused meanwhile Restarts a b = b ≡ a
PreparesFor excused meanwhile (Changes op) a b = Prepares excused meanwhile a b

-- what was written, and the moments that it took
pub record Said (M : Type 0) : Type 0 where
  pub moments : List M
  pub bytes : List ℕ

abbrev pub silence : {M : Type 0} → Said M
silence = record { moments = []; bytes = [] }

-- all that a run wrote
abbrev pub said_in : {U M : Type 0} → Walk U M → Said M
said_in w = record { moments = w.moments; bytes = w.earlier ++ w.latest }

-- the one, and then the other
abbrev pub joined : {M : Type 0} → Said M → Said M → Said M
joined x y = record { moments = x.moments ++ y.moments; bytes = x.bytes ++ y.bytes }

module _ {U M : Type 0} (l : Language U M) (limit : Limit) (excused : Excuse) (meanwhile : Meanwhile) where
  -- a unit's response, with the next moment
  pub record IsResponse (a : At) (u : U) (said : Said M) (b : At) : Type 0 where
    pub before : At
    pub prepares : PreparesFor excused meanwhile (l.asks a.attending.user u) a before
    pub reply : Reply
    pub did : Option Change
    pub replies : Replies limit excused before (l.asks a.attending.user u) reply did
    pub moment : M
    pub says : said ≡ record { moments = moment ∷ []; bytes = l.response moment u reply }
    pub after : b ≡ after_ask before (l.asks a.attending.user u) did

  -- what a happening gets at once: a unit its response, a Quiet nothing
  abbrev pub Answers : At → Happening U → Said M → At → Type 0
  Answers a (unit u) said b = IsResponse a u said b
  Answers a quiet said b = (said ≡ silence) × (b ≡ a)

  -- the reports of the changes after the cursor, each with the next moment
  pub record IsReport (a : At) (cursor : ℕ) (said : Said M) (b : At) : Type 0 where
    pub before : At
    pub waited : meanwhile a before
    pub reported : AreReported l.report (notices before.changes cursor) said.moments said.bytes
    pub after : b ≡ after_reports before

  -- they come where reports are allowed
  abbrev pub Reports : At → Option ℕ → Said M → At → Type 0
  Reports a None said b = (said ≡ silence) × (b ≡ a)
  Reports a (Some cursor) said b = IsReport a cursor said b

  -- all that a happening gets
  pub record Attends (a : At) (h : Happening U) (said : Said M) (b : At) : Type 0 where
    pub before : At
    pub waited : meanwhile a before
    pub response : Said M
    pub reports : Said M
    pub between : At
    pub answers : Answers before h response between
    pub reported : Reports between between.attending.watch reports b
    pub says : said ≡ joined response reports

  -- what the last happening has got, while its reports are still due or with them
  abbrev pub Ends : Bool → At → Happening U → Said M → At → Type 0
  Ends true a h said b = Answers a h said b
  Ends false a h said b = Attends a h said b

  -- what these happenings get, in order
  abbrev pub Plays : At → List (Happening U) → Said M → At → Type 0
  Plays a [] said b = (said ≡ silence) × meanwhile a b
  Plays a (h ∷ hs) said b = (first : Said M) × (rest : Said M) × (next : At) × Attends a h first next × Plays next hs rest b × (said ≡ joined first rest)

  -- what they get where the last one's reports may be due
  pub record PlaysTo (due : Bool) (a : At) (front : List (Happening U)) (last : Happening U) (earlier latest : Said M) (b : At) : Type 0 where
    pub before : At
    pub plays : Plays a front earlier before
    pub after : At
    pub ends : Ends due before last latest after
    pub waited : meanwhile after b
