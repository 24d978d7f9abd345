-- What a session wrote that was alone on what a journal came to.
use Rattle.std.specs.Prelude.{false, ◌≡◌, ◌⊎◌, ◌≤◌, ◌<◌, ◌+◌, ◌*◌, ℕ, length, List, [], ◌∷◌, ◌++◌, None}
use Rattle.std.specs.List.{AllByRecursion}
use Rattle.dxc_causes.specs.Causes.{Rose, last}
use Rattle.dxc_disk.specs.Disks.{DiskState}
use Rattle.dxc_outside.specs.declared.clock.Moment.{Moment}
use Rattle.dxc_outside.specs.Items.{Item, bytes}
use Rattle.dxc_outside.specs.Links.{LinkState, Exchanged}
use Rattle.dxc_model.specs.declared.cause.Cause.TheVariants.{DiskFault, JournalAstray}
use Rattle.dxc_model.specs.declared.op.Op.{Op}
use Rattle.dxc_model.specs.declared.entry.Entry.{Entry}
use Rattle.dxc_model.specs.declared.user.SessionUser.{SessionUser}
use Rattle.dxc_model.specs.declared.entry.Outcome.{Outcome}
use Rattle.dxc_model.specs.declared.entry.Outcome.TheVariants.{Done, Denied, Failed, Restarted, Cut, Taken}
use Rattle.dxc_model.specs.declared.entry.Outcome.TheVariants as outcome
use Rattle.dxc_model.specs.Steps.{IsLimit, IsUnderWay}
use Rattle.dxc_model.specs.Histories.{IsLegal, KeepsTurns, table_after}
use Rattle.tl1_text.specs.Units.{IsStream}
use Rattle.tl1_users.specs.declared.op.UserOp.{UserOp}
use Rattle.user_admin.specs.Histories.{Opening as UsersOpening}
use Rattle.user_admin.specs.Verdicts.{IsChanging}
use Rattle.xc_core.specs.Seeing.{entry}
use Rattle.xc_core.specs.States.{LimitBehind, Opening, faults_in, most_room, rules_of}
use Rattle.craft_session.specs.declared.end.SessionEnd.{SessionEnd}
use Rattle.craft_session.specs.declared.end.SessionEnd.TheVariants.{End, ReadFault, WriteFault, Stopped, Spent, Unattended, Idle, Cancelled}
use Rattle.craft_session.specs.Asks.{Language, user_after}
use Rattle.craft_session.specs.Happenings.{Happening, Happens, Request, bytes_in, inputs_in, unit, units_in}
use Rattle.craft_session.specs.Hearing.{to_do}
use Rattle.craft_session.specs.Moments.{Gives}
use Rattle.craft_session.specs.Plain.{At, Excuse, Plays, PlaysTo, Said, alone, said_in, standing}
use Rattle.craft_session.specs.PlainUsers.{ConsultsAlone}
use Rattle.journal_core.specs.Rooms.{opening_room}
use Rattle.craft_session.specs.Runs.{Run, Walk}
use Rattle.craft_session.specs.Walks.{CutsAt, FrontOf, begun_by}

-- the most that a command takes: a restart that was due, and its operation
abbrev pub command_room : ℕ
command_room = most_room + most_room

-- what opening and so many commands may take of it
abbrev pub room_of : ℕ → ℕ
room_of commands = opening_room + command_room * commands

-- a disk of this margin and room isn't sound for opening and so many commands
abbrev pub IsUnsoundBy : (margin room commands : ℕ) → Type 0
IsUnsoundBy margin room commands = margin ≡ 0 → room_of commands < room → ⊥

-- A fault of such a disk may deny a command; that the journal reads otherwise than it was written may where the disk doesn't tell its content.
abbrev pub excused_by : (told : Type 0) (margin room commands : ℕ) → Excuse
excused_by told margin room commands q = ((q ≡ DiskFault) × IsUnsoundBy margin room commands) ⊎ ((q ≡ JournalAstray) × (told → ⊥))

-- the table took it or denied it, a limit or an excuse stood against it, it only read, a restart was made, or the Provisioner was taken for it
abbrev pub IsEnded : Excuse → Outcome → Type 0
IsEnded excused (Done c) = Unit {0}
IsEnded excused (Denied q) = Unit {0}
IsEnded excused (Failed q) = IsLimit q ⊎ excused q
IsEnded excused outcome.Answered = Unit {0}
IsEnded excused (Restarted c) = Unit {0}
IsEnded excused Cut = ⊥
IsEnded excused Taken = Unit {0}

-- an entry of the place, of a unit that was answered
pub record IsOwn (place : ℕ) (excused : Excuse) (e : Entry) : Type 0 where
  pub mine : e.place ≡ place
  pub ended : IsEnded excused e.outcome

-- where a session begins that is alone: on what the journal came to, with the language's first user
abbrev pub opened : {U M : Type 0} → Language U M → Opening → At
opened l o = standing o.first.fold.table [] (begun_by l.first)

-- the opening of a disk on a new fabric: it took of the disk's room what an opening may, each fault in it lowered the margin, and no restart is due
pub record IsOpeningOf (d : DiskState) (o : Opening) : Type 0 where
  pub later : d.faults ≤ o.faults
  pub room : opening_room ≤ d.room → d.room ≤ o.room + opening_room
  pub margin : opening_room ≤ d.room → o.faults + o.margin ≤ d.faults + d.margin
  pub counts : 0 < o.room → o.faults < last
  pub ready : o.due ≡ false

module _ (disk_told : Type 0) (disk users_disk : DiskState) (place : ℕ) (o : Opening) (p : UsersOpening) where
  -- the excuses of a session that gave so many commands on the disk that was handed out
  abbrev pub excused_on : ℕ → Excuse
  excused_on commands = excused_by disk_told disk.margin disk.room commands

  -- A legal history of this session's entries alone, after so many commands; where the disk that was handed out has room for them, at most as
  -- many of its operations failed by the disk as its margin was.
  pub record IsOwnHistory (commands : ℕ) (h : List Entry) : Type 0 where
    pub legal : IsLegal (rules_of o) h
    pub turns : KeepsTurns None h
    pub own : AllByRecursion (IsOwn place (excused_on commands)) h
    pub few : room_of commands < disk.room → faults_in h ≤ disk.margin

  module _ (clock_told : Type 0) (c d : List Moment) (tongue : Language Request Moment) where
    -- what such a session heard of the users while this happened
    abbrev Asked : List (Happening Request) → SessionUser → Type 0
    Asked hs user = ConsultsAlone tongue users_disk place p (length (units_in hs)) hs user

    -- A run over such a history, and one over such a users' history; and what happened was served, each message with the next moment, by the plain session on one table.
    pub record Answered (items : List Item) (out : List ℕ) : Type 0 where
      pub walk : Walk Request Moment
      pub rest : List ℕ
      pub happened : Happens items walk.happenings rest
      pub read : IsStream (bytes_in items) (inputs_in walk.happenings) rest
      pub gave : clock_told → Gives c d walk.moments
      pub run : Run tongue place o.first.fold.table [] walk
      pub history : IsOwnHistory (length (units_in walk.happenings)) walk.history
      pub consulted : Asked walk.happenings walk.attending.user
      pub written : out ≡ walk.earlier ++ walk.latest
      pub plays : Plays tongue (LimitBehind o.first) (excused_on (length (units_in walk.happenings))) alone (opened tongue o) walk.happenings (said_in walk) (standing o.first.fold.table walk.history walk.attending)

    -- What happened before the last was served, and of the last one's messages a part was written; the look after a response may be missing.
    pub record AnsweredInPart (items : List Item) (out : List ℕ) : Type 0 where
      pub walk : Walk Request Moment
      pub rest : List ℕ
      pub front : List (Happening Request)
      pub last : Happening Request
      pub all : walk.happenings ≡ front ++ last ∷ []
      pub happened : Happens items walk.happenings rest
      pub read : IsStream (bytes_in items) (inputs_in walk.happenings) rest
      pub moments : List Moment
      pub untaken : List Moment
      pub taken : walk.moments ≡ moments ++ untaken
      pub gave : clock_told → Gives c d moments
      pub run : Run tongue place o.first.fold.table [] walk
      pub history : IsOwnHistory (length (units_in walk.happenings)) walk.history
      pub consulted : Asked walk.happenings walk.attending.user
      pub earlier : Said Moment
      pub latest : Said Moment
      pub took : walk.moments ≡ earlier.moments ++ latest.moments
      pub plays : PlaysTo tongue (LimitBehind o.first) (excused_on (length (units_in walk.happenings))) alone walk.due (opened tongue o) front last earlier latest (standing o.first.fold.table walk.history walk.attending)
      pub part : List ℕ
      pub missing : List ℕ
      pub split : latest.bytes ≡ part ++ missing
      pub written : out ≡ earlier.bytes ++ part

    -- What happened before the last was served, and a stop cut the last, INIT-SYS or a changing command, which has no response: it cut a restart,
    -- or the operation, after restarts that were due.
    pub record AnsweredToStop (items : List Item) (out : List ℕ) : Type 0 where
      pub walk : Walk Request Moment
      pub last : Request
      pub op : Op
      pub in_front : List Entry
      pub happened : Happens items (walk.happenings ++ unit last ∷ []) []
      pub read : IsStream (bytes_in items) (inputs_in walk.happenings ++ last.input ∷ []) []
      pub gave : clock_told → Gives c d walk.moments
      pub run : Run tongue place o.first.fold.table [] walk
      pub history : IsOwnHistory (length (units_in walk.happenings)) walk.history
      pub consulted : Asked (walk.happenings ++ unit last ∷ []) (user_after walk.attending.user (tongue.asks walk.attending.user last))
      pub mends : FrontOf place walk.history (tongue.asks walk.attending.user last) in_front
      pub cuts : CutsAt (walk.history ++ in_front) (tongue.asks walk.attending.user last) op
      pub legal : IsLegal (rules_of o) ((walk.history ++ in_front) ++ entry place op Cut ∷ [])
      pub written : out ≡ walk.earlier ++ walk.latest
      pub plays : Plays tongue (LimitBehind o.first) (excused_on (length (units_in walk.happenings))) alone (opened tongue o) walk.happenings (said_in walk) (standing o.first.fold.table walk.history walk.attending)
      pub under_way : IsUnderWay (table_after o.first.fold.table (walk.history ++ in_front)) op

    -- What happened before the last was served, and a stop cut the last, a command that changes users, before anything was done: it has no response, and
    -- no entry.
    pub record AnsweredToUsersStop (items : List Item) (out : List ℕ) : Type 0 where
      pub walk : Walk Request Moment
      pub last : Request
      pub op : UserOp
      pub happened : Happens items (walk.happenings ++ unit last ∷ []) []
      pub read : IsStream (bytes_in items) (inputs_in walk.happenings ++ last.input ∷ []) []
      pub gave : clock_told → Gives c d walk.moments
      pub run : Run tongue place o.first.fold.table [] walk
      pub history : IsOwnHistory (length (units_in walk.happenings)) walk.history
      pub consulted : Asked walk.happenings walk.attending.user
      pub wanted : tongue.wants walk.attending.user last ≡ to_do op
      pub changing : IsChanging op
      pub written : out ≡ walk.earlier ++ walk.latest
      pub plays : Plays tongue (LimitBehind o.first) (excused_on (length (units_in walk.happenings))) alone (opened tongue o) walk.happenings (said_in walk) (standing o.first.fold.table walk.history walk.attending)

    module _ (told : Type 0) (k l : LinkState) where
      -- all that was read was served
      pub record WroteAll : Type 0 where
        pub items : List Item
        pub out : List ℕ
        pub exchanged : Exchanged told k l items out
        pub no_fault : l.write_faults ≡ k.write_faults
        pub answered : Answered items out

      -- a write failed, and the bytes ahead, read after the last that happened, were dropped
      pub record WroteInPart : Type 0 where
        pub items : List Item
        pub ahead : List ℕ
        pub out : List ℕ
        pub exchanged : Exchanged told k l (items ++ bytes ahead) out
        pub answered : AnsweredInPart items out
        pub rose : Rose k.write_faults l.write_faults

      -- a stop came, and the bytes ahead were dropped
      pub record WroteToStop : Type 0 where
        pub items : List Item
        pub ahead : List ℕ
        pub out : List ℕ
        pub exchanged : Exchanged told k l (items ++ bytes ahead) out
        pub no_fault : l.write_faults ≡ k.write_faults
        pub answered : AnsweredToStop items out ⊎ AnsweredToUsersStop items out

      -- what was written, by the session's end
      abbrev pub IsScript : SessionEnd → Type 0
      IsScript End = WroteAll
      IsScript ReadFault = WroteAll
      IsScript Spent = WroteAll
      IsScript Unattended = WroteAll
      IsScript Idle = WroteAll
      IsScript Cancelled = WroteAll
      IsScript WriteFault = WroteInPart
      IsScript Stopped = WroteToStop
