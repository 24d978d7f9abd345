-- The headline: what a server's jobs did, at the moments of its turnstiles and of its fabric.
use Rattle.std.specs.Prelude.{◌≡◌, ◌≢◌, ◌+◌, ◌≤◌, ◌<◌, ℕ, Bool, IsTrue, List, [], ◌∷◌, ◌++◌, map, slice_get, Option, Some, Box}
use Rattle.std.specs.List.{AllByRecursion}
use Rattle.std.specs.declared.alloc.Global.{Global}
use base.Stored.{Gv}
use mathlib.Core.Option.{some}
use lib.ListN.{get_elem?}
use Rattle.atomic_table.specs.Table.{State as TableState}
use Rattle.turnstile.specs.declared.board.Stage.TheVariants.{Inside}
use Rattle.turnstile.specs.declared.board.View.{View}
use Rattle.turnstile.specs.declared.board.Held.{Held}
use Rattle.turnstile.specs.declared.board.Opened.{Opened}
use Rattle.turnstile.specs.Turning.{Kept, opening_in, stands_in}
use Rattle.dxc_outside.specs.declared.clock.Moment.{Moment}
use Rattle.dxc_outside.specs.Jobs.{AnyJob}
use Rattle.dxc_model.specs.declared.cause.Cause.{Cause}
use Rattle.dxc_model.specs.declared.entry.Entry.{Entry}
use Rattle.dxc_model.specs.Histories.{changes_of}
use Rattle.fabric_words.specs.declared.table.Aim.{Aim}
use Rattle.fabric_words.specs.declared.table.View.{View as FabricView}
use Rattle.fabric_words.specs.Laws.{IsCore}
use Rattle.fabric_words.specs.Tied.{Tied}
use Rattle.shelf_file.specs.Contents.{Contents}
use Rattle.user_admin.specs.declared.op.UserEntry.{UserEntry}
use Rattle.user_admin.specs.declared.op.UserMark.{UserMark}
use Rattle.user_admin.specs.declared.shared.SharedUsers.{SharedUsers}
use Rattle.user_admin.specs.Coding.{mark_coded as user_coded, opening_coded as users_coded}
use Rattle.user_admin.specs.Histories.{Opening as UsersOpening, failures, users_after}
use Rattle.user_admin.specs.Marks.{entries_of, place_of as user_place_of}
use Rattle.user_admin.specs.Shared.{SharedFor as UsersStandFor, SharedStands as UsersStand, opening_at as users_opening}
use Rattle.xc_core.specs.declared.state.State.{State}
use Rattle.xc_core.specs.Coding.{opening_coded}
use Rattle.xc_core.specs.Seeing.{entry_coded, place_of}
use Rattle.xc_core.specs.States.{LimitBehind, Opening, Stands, StandsFor, began, opening_of}
use Rattle.craft_session.specs.Doing.{AnyEntry}
use Rattle.craft_session.specs.Happenings.{Request}
use Rattle.craft_session.specs.Meanings.{language}
use Rattle.craft_session.specs.Places.{Turnstiles}
use Rattle.craft_session.specs.Seats.{PlaceAt}
use Rattle.switch_laws.specs.Element.{Element, IsPlayed, Session, Turn}
use Rattle.switch_laws.specs.Laws.{IsExcused, element}
use Rattle.switch_laws.specs.Moments.{AreBegun, AreUsersThen, IsBegun, IsMoment}
use Rattle.switch_laws.specs.Orders.{ActsAlong, ArePlayedInOrder, IsOrderOf}
use Rattle.switch_laws.specs.Users.{AreHeard, Hearing}
use Rattle.dxc_jobs.specs.declared.frames_left.FramesLeft.{FramesLeft}
use Rattle.dxc_jobs.specs.Begun.{AreRan}
use Rattle.craft_server.specs.Serving.{SiteAt}
use Rattle.serve_laws.specs.Copies.{IsBroughtHome, LeavesChanges}
use Rattle.serve_laws.specs.Frames.{AreSeatsIn, CarriedOwn}
use Rattle.serve_laws.specs.Keepers.{IsKeeperHome}
use Rattle.serve_laws.specs.Jobs.{Frames, IsServedAt, Job, Jobs, World, links_of}
use Rattle.serve_laws.specs.Passes.{IsRestOf, Seen}
use Rattle.serve_laws.specs.Timing.{MomentAt, WereWrittenThen}

-- what the seats of places have seen
abbrev pub table_seen : PlaceAt → Seen
table_seen p = record { codes = p.seat.seen; stamps = p.seat.stamps }

abbrev pub users_seen : PlaceAt → Seen
users_seen p = record { codes = p.users.seen; stamps = p.users.stamps }

abbrev pub seen_by : List PlaceAt → List Seen
seen_by = map table_seen

abbrev pub users_seen_by : List PlaceAt → List Seen
users_seen_by = map users_seen

module _ (w : World) where
  abbrev pub Lying : Type 0
  Lying = Held (Box (State w.Disk) Global) Entry

  abbrev pub UsersLying : Type 0
  UsersLying = Held (Box (SharedUsers w.Disk) Global) UserMark

  -- the rule of the state's turnstile
  abbrev pub IsAllowed : Opened (Box (State w.Disk) Global) → TableState (Option Lying) View → Type 0
  IsAllowed = Kept opening_coded.code entry_coded.code (opening_in (opening_of w.disk.state)) place_of (stands_in (Stands w.disk.told w.disk.state))

  -- A state that the rule of the state's turnstile allows, one that the rule of the users' allows, and one that the fabric's rule allows: the passes of the
  -- places have seen what the places have seen that jobs left, and the workers know what the seats know that jobs left.
  pub record IsEnd (o : Opening) (p : UsersOpening) (t : Turnstiles) (lefts : List PlaceAt) (seats : List FramesLeft) : Type 0 where
    pub key : Opened (Box (State w.Disk) Global)
    pub state : TableState (Option Lying) View
    pub of_state : IsRestOf opening_coded.code entry_coded.code (opening_in (opening_of w.disk.state)) place_of (stands_in (Stands w.disk.told w.disk.state)) t.state (seen_by lefts) key state
    pub users_key : Opened (Box (SharedUsers w.Disk) Global)
    pub users : TableState (Option UsersLying) View
    pub of_users : IsRestOf users_coded.code user_coded.code (opening_in (users_opening w.disk.state)) user_place_of (stands_in (UsersStand w.disk.told w.disk.state)) t.users (users_seen_by lefts) users_key users
    pub fabric : TableState Aim FabricView
    pub of_fabric : Tied o.site.fabric.size fabric
    pub of_seats : AreSeatsIn fabric o.site.fabric.size seats

  -- An earlier moment at which no pass has the turn: a state that the rule allows, in which the pass of each place had seen a beginning of what it has
  -- seen since.
  pub record IsEarlier (key : Opened (Box (State w.Disk) Global)) (lefts : List PlaceAt) (z : TableState (Option Lying) View) : Type 0 where
    pub allowed : IsAllowed key z
    pub no_turn : (j : ℕ) (v : View) → get_elem? z.views j ≡ some v → v.stage ≢ Inside
    pub sees_on : (k : ℕ) (q : PlaceAt) (v : View) → slice_get lefts k ≡ Some q → get_elem? z.views (k + 1) ≡ some v → (more : List Gv) × (q.seat.seen ≡ v.seen ++ more)

  -- what lies in the turnstile stands for this history, and so does what a crash then leaves, where the Provisioner is home
  pub record LiesFor (o : Opening) (history : List Entry) (z : TableState (Option Lying) View) : Type 0 where
    pub lying : Lying
    pub at_home : z.homes ≡ some (Some lying) ∷ []
    pub stands : StandsFor w.disk.told w.disk.state o lying.state.value (began o.due ++ history)
    pub leaves : LeavesChanges w.disk.told w.disk.state o (began o.due ++ history) lying.state.value.home

  abbrev pub Sessions : Type 0
  Sessions = ℕ → List (Session Request Moment)

  module _ (s : Contents) (o : Opening) where
    -- the plain element on what was opened, after this history, with these sessions of each place
    abbrev pub behind : List Entry → Sessions → Element Request Moment
    behind h sessions = element o.first.fold.table (began o.due ++ h) sessions

    abbrev pub opened : Element Request Moment
    opened = element o.first.fold.table (began o.due) (λ k. [])

    abbrev pub IsOrder : (Cause → Bool) → List (Turn Request Moment) → Element Request Moment → Type 0
    IsOrder excused = IsPlayed (language s) (LimitBehind o.first) (λ q. IsTrue (excused q)) opened

    -- At that moment the history was a beginning of this one, what lay in the turnstile stood for it, and in this order of turns the plain element had the
    -- table that lay there. Each session had done a beginning of what it did.
    pub record WasThen (excused : Cause → Bool) (ts : List (Turn Request Moment)) (history : List Entry) (sessions : Sessions) (z : TableState (Option Lying) View) : Type 0 where
      pub earlier : List Entry
      pub later : List Entry
      pub whole : earlier ++ later ≡ history
      pub lies : LiesFor o earlier z
      pub moment : IsMoment (language s) (LimitBehind o.first) (λ q. IsTrue (excused q)) opened ts (behind history sessions) (changes_of earlier) (changes_of later)
      pub same_table : moment.element.table ≡ lies.lying.state.value.table

    -- Among these turns, which lead to the sessions at the end: the moment at which the element had made this history. Each session had done a beginning of
    -- what it does by the end.
    pub record WasPlayed (excused : Cause → Bool) (ts : List (Turn Request Moment)) (end : Sessions) (history : List Entry) : Type 0 where
      pub later : List (Turn Request Moment)
      pub earlier : List (Turn Request Moment)
      pub order : ts ≡ later ++ earlier
      pub sessions : Sessions
      pub played : IsOrder excused earlier (behind history sessions)
      pub begun : (p : ℕ) → AreBegun IsBegun (sessions p) (end p)

    -- a place at a moment, where its pass had seen this, and the element had these sessions of it
    abbrev pub moment_at : (place : ℕ) → (seen : List Gv) → List (Session Request Moment) → MomentAt
    moment_at place seen ss = record { stamped = w.uses.clock.stamped; place = place; seen = seen; sessions = ss }

    -- An order of turns by which the element comes to the history, and what it was at each earlier moment.
    pub record IsOneOrder (excused : Cause → Bool) (key : Opened (Box (State w.Disk) Global)) (lefts : List PlaceAt) (history : List Entry) (sessions : Sessions) : Type 0 where
      pub turns : List (Turn Request Moment)
      pub played : IsOrder excused turns (behind history sessions)
      pub moments : (z : TableState (Option Lying) View) → IsEarlier key lefts z → WasThen excused turns history sessions z

    -- one that passes each beginning of the history
    pub record IsTimedOrder (excused : Cause → Bool) (key : Opened (Box (State w.Disk) Global)) (lefts : List PlaceAt) (history : List Entry) (sessions : Sessions) : Type 0 where
      pub one : IsOneOrder excused key lefts history sessions
      pub passes : (earlier later : List Entry) → earlier ++ later ≡ history → WasPlayed excused one.turns sessions earlier

  -- One history of the table and one of the users, for which those states stand: the plain element on what was opened comes to the one, and one list of users
  -- to the other; the links that came to each place were written what the element writes its sessions, or a first part of it where a write failed.
  pub record IsOneElement (s : Contents) (o : Opening) (p : UsersOpening) (jobs : List (Job w)) (lefts : List PlaceAt) (key : Opened (Box (State w.Disk) Global)) (state : TableState (Option Lying) View) (users : TableState (Option UsersLying) View) : Type 0 where
    pub history : List Entry
    pub lies : LiesFor o history state
    -- all have brought home what they took out
    pub home : IsBroughtHome w.disk.told w.disk.state o (began o.due ++ history) lies.lying.state.value.home
    pub users_history : List UserEntry
    pub users_lying : UsersLying
    pub users_at_home : users.homes ≡ some (Some users_lying) ∷ []
    -- the entries among what turns left with their turnstile
    pub users_left : List UserMark
    pub users_entered : entries_of users_left ≡ users_history
    pub users_stand : UsersStandFor w.disk.told w.disk.state p users_lying.state.value users_left
    pub users_home : IsKeeperHome w.disk.told w.disk.state p users_left users_lying.state.value.keeper
    -- of each place the sessions on the element, and what they heard of the users, the newest first
    pub sessions : Sessions
    pub hearings : ℕ → List (Hearing Request)
    pub each : (k : ℕ) → k < 16 → IsServedAt w jobs lefts k (sessions k) (hearings k)
    pub played : (excused : Cause → Bool) → AllByRecursion (IsExcused (λ q. IsTrue (excused q))) (began o.due ++ history) → IsTimedOrder s o excused key lefts history sessions
    -- Where links tell what they are written: in that order, cut where the element had made the history of an earlier moment, it had said what each link had been
    -- written by then.
    pub written_before : w.office.link.told → (excused : Cause → Bool) (all : AllByRecursion (IsExcused (λ q. IsTrue (excused q))) (began o.due ++ history))
        → (z : TableState (Option Lying) View) (m : IsEarlier key lefts z) → (k : ℕ) → (lt : k < 16) → (v : View) → get_elem? z.views (k + 1) ≡ some v
        → let x = each k lt in let y = played excused all in let was = y.one.moments z m in
        WereWrittenThen (moment_at s o k v.seen ((y.passes was.earlier was.later was.whole).sessions k)) w.office.link.state (links_of w x.job x.done x.left x.ran) (sessions k)
    -- of each place the entries of both that it used, as it took them
    pub used : ℕ → List AnyEntry
    -- its sessions did what took these, one after the other
    pub acted : (k : ℕ) → k < 16 → ActsAlong (language s) k o.first.fold.table p (began o.due) (began o.due ++ history) users_history (used k) (sessions k)
    -- the entries of both histories in one order, in which each place's own come as it took them
    pub order : List AnyEntry
    pub ordered : IsOrderOf history users_history 16 used order
    -- One order of turns plays both in that order, the element to the table's history, and along the same turns the list of users to theirs, and passes each
    -- beginning of it; it has the moments of `played`, too.
    pub together : (excused : Cause → Bool) → AllByRecursion (IsExcused (λ q. IsTrue (excused q))) (began o.due ++ history) → (failing : Bool) → (1 ≤ failures users_history → IsTrue failing)
        → (x : ArePlayedInOrder (language s) (LimitBehind o.first) (λ q. IsTrue (excused q)) (opened s o) p (IsTrue failing) o.first.fold.table (began o.due) order history users_history sessions)
        × (y : IsOneOrder s o excused key lefts history sessions) × (y.turns ≡ x.turns)
    pub heard : (failing : Bool) → (1 ≤ failures users_history → IsTrue failing)
        → AreHeard (language s) p.shelf.sid (IsTrue failing) (record { users = p.users; sessions = λ k. [] }) (record { users = users_after p users_history; sessions = hearings })
    -- so it was at each beginning of their history
    pub heard_before : (failing : Bool) → (1 ≤ failures users_history → IsTrue failing) → (earlier later : List UserEntry) → users_history ≡ earlier ++ later
        → AreUsersThen (language s) p (IsTrue failing) earlier hearings

  -- The fabric's state is a hitless one that the core's events reach, and so is each that the rule allows, at whatever moment; each frame that workers
  -- wrote was carried over its connections.
  pub record IsHitlessFabric (o : Opening) (workers : List (Frames w)) (seats : List FramesLeft) (fabric : TableState Aim FabricView) : Type 0 where
    pub core : IsCore o.site.fabric.size fabric
    pub always : (f : TableState Aim FabricView) → Tied o.site.fabric.size f → IsCore o.site.fabric.size f
    pub frames : AreRan (CarriedOwn w.uses.lines w.uses.gate core.core) workers seats

  module _ {P : Type 0} (handed : P → P → List AnyJob → Type 0) where
    -- Whatever jobs a server was handed, and at whatever such states
    abbrev pub IsHeadline : Type 0
    IsHeadline = (old new : P) (site : SiteAt) (s : Contents) (o : Opening) (p : UsersOpening) (j : Jobs w (handed old new) site s o p)
        → (e : IsEnd o p j.places.turnstiles j.left.left.sessions.items j.left.left.workers.items)
        → IsOneElement s o p j.sessions j.left.left.sessions.items e.key e.state e.users × IsHitlessFabric o j.workers j.left.left.workers.items e.fabric
