-- How a session stands over its link, and how it ends.
use Rattle.std.specs.Prelude.{◌≡◌, ◌≢◌, ◌⊎◌, ◌≤◌, ◌<◌, ℕ, Bool, true, false, List, [], ◌∷◌, ◌++◌, Result, Ok, Err}
use base.Stored.{Gv}
use Rattle.turnstile.specs.Dating.{Stamp}
use Rattle.dxc_causes.specs.Causes.{Rose}
use Rattle.dxc_outside.specs.declared.send.Sent.{Sent}
use Rattle.dxc_outside.specs.declared.stopped.Stopped.{Stopped}
use Rattle.dxc_outside.specs.declared.send.Sent.TheVariants.{Whole}
use Rattle.dxc_outside.specs.declared.clock.Moment.{Moment}
use Rattle.dxc_outside.specs.Items.{Item, bytes}
use Rattle.dxc_outside.specs.Links.{LinkState, IsSent, Wrote, Exchanged}
use Rattle.dxc_outside.specs.Moments.{moment_now, later_moments}
use Rattle.dxc_model.specs.declared.op.Op.{Op}
use Rattle.dxc_model.specs.declared.entry.Outcome.TheVariants as outcome
use Rattle.dxc_model.specs.declared.entry.Entry.{Entry}
use Rattle.tl1_text.specs.declared.reader.UnitKind.{UnitKind}
use Rattle.tl1_text.specs.declared.reader.UnitKind.TheVariants.{More}
use Rattle.tl1_text.specs.Units.{IsRest}
use Rattle.tl1_text.specs.Reading.{Reader, Made}
use Rattle.user_admin.specs.declared.op.UserEntry.{UserEntry}
use Rattle.user_admin.specs.declared.op.UserMark.{UserMark}
use Rattle.tl1_users.specs.declared.op.UserOp.{UserOp}
use Rattle.user_admin.specs.Histories.{Opening as UsersOpening}
use Rattle.user_admin.specs.Occupants.{is_cancelled}
use Rattle.user_admin.specs.Turns.{Saw as SawUsers, codes}
use Rattle.user_admin.specs.Verdicts.{IsChanging}
use Rattle.dxc_model.specs.declared.user.SessionUser.{SessionUser}
use Rattle.dxc_model.specs.declared.user.SessionUser.TheVariants.{Nobody, User}
use Rattle.xc_core.specs.States.{Opening}
use Rattle.xc_core.specs.Seeing.{IsHistory, Saw, entry}
use Rattle.craft_session.specs.declared.attending.Attending.{Attending}
use Rattle.craft_session.specs.declared.end.SessionEnd.{SessionEnd}
use Rattle.craft_session.specs.declared.end.SessionEnd.TheVariants.{End, ReadFault, WriteFault, Stopped as Session_stopped, Spent, Unattended, Idle, Cancelled}
use Rattle.craft_session.specs.declared.end.Progress.{Progress}
use Rattle.craft_session.specs.declared.end.Progress.TheVariants.{On, Cut}
use Rattle.craft_session.specs.Asks.{Reply, Language, user_after}
use Rattle.craft_session.specs.Consulting.{Consults}
use Rattle.craft_session.specs.Doing.{AreDated, Does, Doing, HearsOn, heard_on, table_on}
use Rattle.craft_session.specs.Happenings.{Happening, Happens, Request, unit}
use Rattle.craft_session.specs.Hearing.{to_do}
use Rattle.craft_session.specs.Notices.{AreReported, Notice}
use Rattle.craft_session.specs.Runs.{Walk, Run}
use Rattle.craft_session.specs.Moments.{Gives}
use Rattle.craft_session.specs.Acting.{Stops}
use Rattle.craft_session.specs.Seats.{SeatAt, UserSeatAt}

-- where a session stands: what its seats have seen of the histories, with stamps, and who attends
pub record Now : Type 0 where
  pub seen : List Gv
  pub users : List Gv
  pub attending : Attending
  pub stamps : List Stamp
  pub users_stamps : List Stamp

abbrev pub now_of : SeatAt → UserSeatAt → Attending → Now
now_of s u a = record { seen = s.seen; users = u.seen; attending = a; stamps = s.stamps; users_stamps = u.stamps }

-- these stamps of both histories were seen, and these codes of the users', where so much was done
pub record AreSeen (stamps users_stamps : List Stamp) (users : List Gv) (x : Doing) : Type 0 where
  pub stamps_are : stamps ≡ x.stamps
  pub users_stamps_are : users_stamps ≡ x.users_stamps
  pub codes_are : users ≡ codes x.marks

abbrev pub IsDoneBy : Now → Doing → Type 0
IsDoneBy now x = AreSeen now.stamps now.users_stamps now.users x

-- where a session begins: the openings, the place's number, the histories that the place has seen, and what it has done along them
pub record Beginning : Type 0 where
  pub opening : Opening
  pub users : UsersOpening
  pub place : ℕ
  pub before : List Entry
  pub users_before : List UserEntry
  pub first : Doing

-- seats begin there
abbrev pub IsAt : Beginning → SeatAt → UserSeatAt → Type 0
IsAt b s u = (s.opening ≡ b.opening) × (s.place ≡ b.place) × (u.opening ≡ b.users) × (u.place ≡ b.place)

-- what the place has done where a session begins of which nothing counts yet
abbrev pub done_before : SeatAt → UserSeatAt → List UserMark → Doing
done_before s u marks = record { stamps = s.stamps; marks = marks; users_stamps = u.stamps; used = [] }

-- and have seen so much
abbrev pub IsFrom : Beginning → SeatAt → UserSeatAt → Type 0
IsFrom b s u = AreSeen s.stamps u.stamps u.seen b.first

-- somebody is logged in, and by the users' history others ended the sessions of who logged in at the place last
abbrev pub IsEnded : ℕ → SessionUser → List UserEntry → Type 0
IsEnded place Nobody h = ⊥
IsEnded place (User uid class) h = is_cancelled place h ≡ true

-- one message was written, or a part of it, with the next moment
pub record IsReported (told clock_told : Type 0) (k j : LinkState) (c d : List Moment) (sent : Sent) (message : Moment → List ℕ) : Type 0 where
  pub moment : Moment
  pub wrote : IsSent told k j sent (message moment)
  pub now : clock_told → moment ≡ moment_now c
  pub later : clock_told → d ≡ later_moments c

module _ (l : Language Request Moment) where
  -- what the session of a place heard of the users while this happened, where its seat has seen these codes, and who is logged in then
  pub record Consulted (b : Beginning) (seen : List Gv) (hs : List (Happening Request)) (user : SessionUser) : Type 0 where
    pub history : List UserEntry
    pub heard : Consults l b.place b.users b.users_before hs history user
    pub saw : SawUsers b.users seen history

  -- what the place did along both histories while this happened, as its seats have seen it
  pub record HasDone (b : Beginning) (now : Now) (w : Walk Request Moment) : Type 0 where
    pub doing : Doing
    pub does : Does l b.place b.opening.first.fold.table b.users b.before b.first w doing
    pub by_now : IsDoneBy now doing

  -- and of a last unit, which a stop cut at the table: it heard what it wants of the users, and this stands in front of the entry of the stop
  pub record HasDoneCut (b : Beginning) (now : Now) (w : Walk Request Moment) (last : Request) (front : List Entry) (op : Op) : Type 0 where
    pub doing : Doing
    pub does : Does l b.place b.opening.first.fold.table b.users b.before b.first w doing
    pub hears : HearsOn b.users b.place doing (l.wants w.attending.user last) (l.heard last)
    pub stamps : List Stamp
    pub dated : AreDated b.place ((heard_on doing hears).users_stamps) (front ++ entry b.place op outcome.Cut ∷ []) stamps
    pub by_now : IsDoneBy now (table_on (heard_on doing hears) stamps)

  -- one response was written, or a part of it
  pub record IsSaid (told clock_told : Type 0) (k j : LinkState) (c d : List Moment) (sent : Sent) (u : Request) (r : Reply) : Type 0 where
    pub moment : Moment
    pub wrote : IsSent told k j sent (l.response moment u r)
    pub now : clock_told → moment ≡ moment_now c
    pub later : clock_told → d ≡ later_moments c

  -- reports were written with the next moments, or a part of them: then some are missing, with moments of their own
  pub record AreTold (told clock_told : Type 0) (k j : LinkState) (c d : List Moment) (sent : Sent) (ns : List Notice) : Type 0 where
    pub taken : List Moment
    pub untaken : List Moment
    pub bytes : List ℕ
    pub reported : AreReported l.report ns (taken ++ untaken) bytes
    pub wrote : IsSent told k j sent bytes
    pub gave : clock_told → Gives c d taken
    pub whole : sent ≡ Whole → untaken ≡ []

  -- What was read has happened, but for the rest, and this was written, from the beginning to where the session stands now; a look for changes
  -- is due or not.
  pub record Past (clock_told : Type 0) (c d : List Moment) (b : Beginning) (now : Now) (due : Bool) (items : List Item) (rest out : List ℕ) : Type 0 where
    pub walk : Walk Request Moment
    pub happened : Happens items walk.happenings rest
    pub gave : clock_told → Gives c d walk.moments
    pub run : Run l b.place b.opening.first.fold.table b.before walk
    pub saw : Saw b.opening now.seen walk.history
    pub consulted : Consulted b now.users walk.happenings walk.attending.user
    pub done : HasDone b now walk
    pub attending : now.attending ≡ walk.attending
    pub looked : walk.due ≡ due
    pub written : out ≡ walk.earlier ++ walk.latest

  -- The same where of the last happening's messages a part was written: the moments that were taken are the first of those that they would take,
  -- and the look after a response may be missing. Something had happened.
  pub record CutPast (clock_told : Type 0) (c d : List Moment) (b : Beginning) (now : Now) (items : List Item) (out : List ℕ) : Type 0 where
    pub walk : Walk Request Moment
    pub rest : List ℕ
    pub happened : Happens items walk.happenings rest
    pub some : walk.happenings ≢ []
    pub no_unit : IsRest rest
    pub moments : List Moment
    pub untaken : List Moment
    pub taken : walk.moments ≡ moments ++ untaken
    pub gave : clock_told → Gives c d moments
    pub run : Run l b.place b.opening.first.fold.table b.before walk
    pub saw : Saw b.opening now.seen walk.history
    pub consulted : Consulted b now.users walk.happenings walk.attending.user
    pub done : HasDone b now walk
    pub part : List ℕ
    pub missing : List ℕ
    pub split : walk.latest ≡ part ++ missing
    pub written : out ≡ walk.earlier ++ part

  -- a stop cut the last unit's command at the table
  pub record IsStoppedAtTable (b : Beginning) (now : Now) (w : Walk Request Moment) (last : Request) : Type 0 where
    pub consulted : Consulted b now.users (w.happenings ++ unit last ∷ []) (user_after w.attending.user (l.asks w.attending.user last))
    pub stops : Stops b.opening b.place w.history w.attending (l.asks w.attending.user last) now.attending now.seen
    pub done : HasDoneCut b now w last stops.front stops.op

  -- or its command at the users, before anything was done: there is no entry of it
  pub record IsStoppedAtUsers (b : Beginning) (now : Now) (w : Walk Request Moment) (last : Request) : Type 0 where
    pub consulted : Consulted b now.users w.happenings w.attending.user
    pub done : HasDone b now w
    pub op : UserOp
    pub wanted : l.wants w.attending.user last ≡ to_do op
    pub changing : IsChanging op
    pub saw : Saw b.opening now.seen w.history
    pub attending : now.attending ≡ w.attending

  -- the same up to a changing unit that a stop cut, which has no response
  pub record StopPast (clock_told : Type 0) (c d : List Moment) (b : Beginning) (now : Now) (items : List Item) (out : List ℕ) : Type 0 where
    pub walk : Walk Request Moment
    pub last : Request
    pub happened : Happens items (walk.happenings ++ unit last ∷ []) []
    pub gave : clock_told → Gives c d walk.moments
    pub run : Run l b.place b.opening.first.fold.table b.before walk
    pub looked : walk.due ≡ false
    pub history : IsHistory b.opening walk.history
    pub stopped : IsStoppedAtTable b now walk last ⊎ IsStoppedAtUsers b now walk last
    pub written : out ≡ walk.earlier ++ walk.latest

  -- a session that goes on: what was read but for the bytes ahead has happened
  pub record Stands (told clock_told : Type 0) (k j : LinkState) (c d : List Moment) (b : Beginning) (now : Now) (due : Bool) (kind : UnitKind) (r : Reader) (ahead : List ℕ) : Type 0 where
    pub items : List Item
    pub rest : List ℕ
    pub out : List ℕ
    pub exchanged : Exchanged told k j (items ++ bytes ahead) out
    pub no_fault : j.write_faults ≡ k.write_faults
    pub made : Made rest kind r
    pub past : Past clock_told c d b now due items rest out

  -- a session whose last message was cut: the bytes ahead are dropped
  pub record Breaks (told clock_told : Type 0) (k j : LinkState) (c d : List Moment) (b : Beginning) (now : Now) : Type 0 where
    pub items : List Item
    pub ahead : List ℕ
    pub out : List ℕ
    pub exchanged : Exchanged told k j (items ++ bytes ahead) out
    pub rose : Rose k.write_faults j.write_faults
    pub past : CutPast clock_told c d b now items out

  -- a session that a stop ended: the bytes ahead are dropped
  pub record Halts (told clock_told : Type 0) (k j : LinkState) (c d : List Moment) (b : Beginning) (now : Now) : Type 0 where
    pub items : List Item
    pub ahead : List ℕ
    pub out : List ℕ
    pub exchanged : Exchanged told k j (items ++ bytes ahead) out
    pub no_fault : j.write_faults ≡ k.write_faults
    pub past : StopPast clock_told c d b now items out

  -- how a session stands after a unit, with a look for changes due or not; an error, where a stop came
  abbrev pub Goes : (told clock_told : Type 0) (k j : LinkState) (c d : List Moment) (b : Beginning) (now : Now) (how : Result Progress Stopped) (due : Bool) (r : Reader) (ahead : List ℕ) → Type 0
  Goes told clock_told k j c d b now (Ok On) due r ahead = Stands told clock_told k j c d b now due More r ahead
  Goes told clock_told k j c d b now (Ok Cut) due r ahead = Breaks told clock_told k j c d b now
  Goes told clock_told k j c d b now (Err e) due r ahead = Halts told clock_told k j c d b now

  -- what it has done
  abbrev pub walk_after : (told clock_told : Type 0) (k j : LinkState) (c d : List Moment) (b : Beginning) (now : Now) (how : Result Progress Stopped) (due : Bool) (r : Reader) (ahead : List ℕ) → Goes told clock_told k j c d b now how due r ahead → Walk Request Moment
  walk_after told clock_told k j c d b now (Ok On) due r ahead x = x.past.walk
  walk_after told clock_told k j c d b now (Ok Cut) due r ahead x = x.past.walk
  walk_after told clock_told k j c d b now (Err e) due r ahead x = x.past.walk

  -- a session that ended with no message cut: all that was read has happened, or is the rest
  pub record Served (told clock_told : Type 0) (k j : LinkState) (c d : List Moment) (b : Beginning) (now : Now) : Type 0 where
    pub items : List Item
    pub rest : List ℕ
    pub out : List ℕ
    pub exchanged : Exchanged told k j items out
    pub no_fault : j.write_faults ≡ k.write_faults
    pub no_unit : IsRest rest
    pub past : Past clock_told c d b now false items rest out

  -- the same where nobody is logged in then
  pub record ServedAlone (told clock_told : Type 0) (k j : LinkState) (c d : List Moment) (b : Beginning) (now : Now) : Type 0 where
    pub served : Served told clock_told k j c d b now
    pub nobody : now.attending.user ≡ Nobody

  -- the same where by the users' history others ended the sessions of who is logged in
  pub record ServedToItsEnd (told clock_told : Type 0) (k j : LinkState) (c d : List Moment) (b : Beginning) (now : Now) : Type 0 where
    pub served : Served told clock_told k j c d b now
    pub ended : IsEnded b.place now.attending.user served.past.consulted.history

  -- what a session did, by its end
  abbrev pub IsSession : (told clock_told : Type 0) (k j : LinkState) (c d : List Moment) (b : Beginning) (now : Now) (end : SessionEnd) → Type 0
  IsSession told clock_told k j c d b now End = Served told clock_told k j c d b now
  IsSession told clock_told k j c d b now ReadFault = Served told clock_told k j c d b now
  IsSession told clock_told k j c d b now Spent = Served told clock_told k j c d b now
  IsSession told clock_told k j c d b now Idle = Served told clock_told k j c d b now
  IsSession told clock_told k j c d b now Cancelled = ServedToItsEnd told clock_told k j c d b now
  IsSession told clock_told k j c d b now Unattended = ServedAlone told clock_told k j c d b now
  IsSession told clock_told k j c d b now WriteFault = Breaks told clock_told k j c d b now
  IsSession told clock_told k j c d b now Session_stopped = Halts told clock_told k j c d b now

  -- all that it did, but for a last unit that a stop cut
  abbrev pub walk_of : (told clock_told : Type 0) (k j : LinkState) (c d : List Moment) (b : Beginning) (now : Now) (end : SessionEnd) → IsSession told clock_told k j c d b now end → Walk Request Moment
  walk_of told clock_told k j c d b now End x = x.past.walk
  walk_of told clock_told k j c d b now ReadFault x = x.past.walk
  walk_of told clock_told k j c d b now Spent x = x.past.walk
  walk_of told clock_told k j c d b now Idle x = x.past.walk
  walk_of told clock_told k j c d b now Cancelled x = x.served.past.walk
  walk_of told clock_told k j c d b now Unattended x = x.served.past.walk
  walk_of told clock_told k j c d b now WriteFault x = x.past.walk
  walk_of told clock_told k j c d b now Session_stopped x = x.past.walk

  -- Between the histories that the seats of a place had seen at the call and have seen at the return: what the session did, whoever attends at the end.
  pub record IsServed (told clock_told : Type 0) (k j : LinkState) (c d : List Moment) (old new : SeatAt) (users then_users : UserSeatAt) (end : SessionEnd) : Type 0 where
    pub before : List Entry
    pub users_before : List UserEntry
    pub saw : Saw old.opening old.seen before
    pub users_saw : SawUsers users.opening users.seen users_before
    pub attending : Attending
    pub session : IsSession told clock_told k j c d (record { opening = old.opening; users = users.opening; place = old.place; before = before; users_before = users_before; first = done_before old users users_saw.marks }) (now_of new then_users attending) end

  -- The read of this number began where the session had served all that was read before, and written every byte for it.
  pub record ReadServed (begun : LinkState → Type 0) (told clock_told : Type 0) (k : LinkState) (c : List Moment) (b : Beginning) (number : ℕ) : Type 0 where
    pub link : LinkState
    pub begun_at : begun link
    pub number_is : link.reads ≡ number
    pub clock : List Moment
    pub now : Now
    pub served : Served told clock_told k link c clock b now

  -- Each read that was counted began so, whatever histories the seats had seen at the call: nothing that is to be written waits for what comes next.
  abbrev pub IsPrompt : (begun : LinkState → Type 0) (told clock_told : Type 0) (k j : LinkState) (c : List Moment) (old : SeatAt) (users : UserSeatAt) → Type 0
  IsPrompt begun told clock_told k j c old users =
      (b : Beginning) → IsAt b old users → Saw b.opening old.seen b.before → SawUsers b.users users.seen b.users_before → IsFrom b old users
      → (number : ℕ) → k.reads ≤ number → number < j.reads → ReadServed begun told clock_told k c b number

-- calls that only wrote
pub record Writes (told : Type 0) (k j : LinkState) : Type 0 where
  pub out : List ℕ
  pub wrote : Wrote told k j out
