-- That each byte of a session was written in its time: after the turns that its message rests on.
use Rattle.std.specs.Prelude.{◌≡◌, ◌⊎◌, ◌≤◌, ◌<◌, ◌+◌, ℕ, Bool, List, [], ◌∷◌, ◌++◌, length}
use base.Stored.{Gv}
use Rattle.dxc_outside.specs.declared.clock.Moment.{Moment}
use Rattle.dxc_outside.specs.Items.{Item, bytes}
use Rattle.dxc_outside.specs.Links.{LinkState, Exchanged}
use Rattle.dxc_outside.specs.Moments.{moment_now}
use Rattle.dxc_model.specs.declared.entry.Entry.{Entry}
use Rattle.tl1_text.specs.declared.reader.UnitKind.{UnitKind}
use Rattle.tl1_text.specs.Reading.{Reader}
use Rattle.user_admin.specs.declared.op.UserEntry.{UserEntry}
use Rattle.user_admin.specs.Turns.{Saw as SawUsers}
use Rattle.xc_core.specs.Seeing.{Saw}
use Rattle.craft_session.specs.declared.attending.Attending.{Attending}
use Rattle.craft_session.specs.declared.end.SessionEnd.{SessionEnd}
use Rattle.craft_session.specs.Asks.{Language, Reply}
use Rattle.craft_session.specs.Happenings.{Happens, Request}
use Rattle.craft_session.specs.Moments.{Gives}
use Rattle.craft_session.specs.Notices.{AreReported, Notice}
use Rattle.craft_session.specs.Runs.{Message, Run, RunsOn, Walk, message_here}
use Rattle.craft_session.specs.Sessions.{Beginning, Consulted, HasDone, IsAt, IsFrom, IsSession, now_of, walk_of}
use Rattle.craft_session.specs.Stamps.{Stamp}

-- whether link and clock tell their content, and how a session stood where it took a moment
pub record Telling : Type 1 where
  pub told : Type 0
  pub clock_told : Type 0
  pub stamped : Stamp → Type 0

abbrev pub telling : Type 0 → Type 0 → (Stamp → Type 0) → Telling
telling told clock_told stamped = record { told = told; clock_told = clock_told; stamped = stamped }

-- link and clock where a session begins, and what its place had seen
pub record Start : Type 0 where
  pub link : LinkState
  pub coming : List Moment
  pub beginning : Beginning

abbrev pub starting : LinkState → List Moment → Beginning → Start
starting link coming beginning = record { link = link; coming = coming; beginning = beginning }

-- what a link was written by then, and what both seats of the place had seen
pub record Reached : Type 0 where
  pub written : List ℕ
  pub seen : List Gv
  pub users : List Gv

abbrev pub reached : List ℕ → List Gv → List Gv → Reached
reached written seen users = record { written = written; seen = seen; users = users }

-- the seats have seen these histories, and more after them
pub record SeesOn (b : Beginning) (h : List Entry) (g : List UserEntry) (r : Reached) : Type 0 where
  pub entries : List Entry
  pub users_entries : List UserEntry
  pub saw : Saw b.opening r.seen (h ++ entries)
  pub saw_users : SawUsers b.users r.users (g ++ users_entries)

-- From the one to the other the link was written more, where it tells, and the histories that the seats had seen are beginnings of what they have seen.
pub record GoesOn (told : Type 0) (b : Beginning) (old new : Reached) : Type 0 where
  pub written : told → (more : List ℕ) × (new.written ≡ old.written ++ more)
  pub sees_on : (h : List Entry) (g : List UserEntry) → Saw b.opening old.seen h → SawUsers b.users old.users g → SeesOn b h g new

-- who attends, whether a look is due, the unit that is being read, and what stands ahead of it
pub record InHand : Type 0 where
  pub attending : Attending
  pub due : Bool
  pub kind : UnitKind
  pub reader : Reader
  pub ahead : List ℕ

abbrev pub in_hand : Attending → Bool → UnitKind → Reader → List ℕ → InHand
in_hand attending due kind reader ahead = record { attending = attending; due = due; kind = kind; reader = reader; ahead = ahead }

module _ (l : Language Request Moment) where
  -- the message is a response, with the moment that was taken there; what was taken before were the moments of the messages in front of it
  pub record IsResponseThen (clock_told : Type 0) (c coming moments : List Moment) (message : List ℕ) : Type 0 where
    pub before : List Moment
    pub moment : Moment
    pub unit : Request
    pub reply : Reply
    pub all : moments ≡ before ++ moment ∷ []
    pub gave : clock_told → Gives c coming before × (moment ≡ moment_now coming)
    pub is : message ≡ l.response moment unit reply

  -- or the reports of one look
  pub record AreReportsThen (message : List ℕ) : Type 0 where
    pub notices : List Notice
    pub moments : List Moment
    pub are : AreReported l.report notices moments message

  -- The byte of this number, of all that the link was written in the end, is one of a message that wasn't begun where the session stood so. All in
  -- front of it was written by then; and of what the link had been read and the place had seen by then, a session writes all that and then this message,
  -- its newest. From there it ran on to this walk. What the place had seen is a beginning of what it has seen in the end.
  pub record IsWrittenBehind (t : Telling) (b : Start) (s : Stamp) (e : Reached) (end : Walk Request Moment) (number : ℕ) : Type 0 where
    pub items : List Item
    pub ahead : List ℕ
    pub out : List ℕ
    pub exchanged : Exchanged t.told b.link s.link (items ++ bytes ahead) out
    pub walk : Walk Request Moment
    pub rest : List ℕ
    pub happened : Happens items walk.happenings rest
    pub run : Run l b.beginning.place b.beginning.opening.first.fold.table b.beginning.before walk
    pub ran_on : RunsOn l b.beginning.place b.beginning.opening.first.fold.table walk end
    pub at : IsAt b.beginning s.seat s.users
    pub saw : Saw b.beginning.opening s.seat.seen walk.history
    pub consulted : Consulted l b.beginning s.users.seen walk.happenings walk.attending.user
    pub done : HasDone l b.beginning (now_of s.seat s.users walk.attending) walk
    pub message : List ℕ
    pub says : IsResponseThen t.clock_told b.coming s.coming walk.moments message ⊎ AreReportsThen message
    pub written : walk.earlier ++ walk.latest ≡ out ++ message
    pub newest : (before : List Message) × (walk.messages ≡ before ++ message_here walk ∷ [])
    -- so much of the message was written
    pub sent : List ℕ
    pub unsent : List ℕ
    pub split : message ≡ sent ++ unsent
    pub goes_on : GoesOn t.told b.beginning (reached (s.link.written ++ sent) s.seat.seen s.users.seen) e
    pub follows : length s.link.written ≤ number
    pub within : number < length s.link.written + length sent

  -- each byte that was written from a state of the link to an end, where the link tells them and the session has done this
  abbrev pub IsTimely : Telling → Start → LinkState → Reached → Walk Request Moment → Type 0
  IsTimely t b i e end = t.told → (number : ℕ) → length i.written ≤ number → number < length e.written → (s : Stamp) × t.stamped s × IsWrittenBehind t b s e end number

  -- what a session did from such a beginning on to its end, and that each byte was written in its time
  pub record SessionInTime (t : Telling) (b : Start) (e : Stamp) (end : SessionEnd) : Type 0 where
    pub attending : Attending
    pub session : IsSession l t.told t.clock_told b.link e.link b.coming e.coming b.beginning (now_of e.seat e.users attending) end
    pub timely : IsTimely t b b.link (reached e.link.written e.seat.seen e.users.seen) (walk_of l t.told t.clock_told b.link e.link b.coming e.coming b.beginning (now_of e.seat e.users attending) end session)

  -- from this state on, whatever histories its seats had seen then
  abbrev pub WasTimely : Telling → (old new : Stamp) → SessionEnd → Type 0
  WasTimely t s e end =
      (b : Beginning) → IsAt b s.seat s.users → Saw b.opening s.seat.seen b.before → SawUsers b.users s.users.seen b.users_before → IsFrom b s.seat s.users → SessionInTime t (starting s.link s.coming b) e end
