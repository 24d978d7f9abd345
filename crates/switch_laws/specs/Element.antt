-- The plain element: one table, one list of changes, and the sessions of its places, of which one does one thing at a time.
use Rattle.std.specs.Prelude.{◌≡◌, ◌⊎◌, ℕ, Bool, false, true, is_some, Option, Some, None, List, [], ◌∷◌, ◌++◌, length, option_to_list}
use Rattle.dxc_model.specs.declared.cause.Cause.{Cause}
use Rattle.dxc_model.specs.declared.cause.Cause.TheVariants.{DiskFault}
use Rattle.dxc_model.specs.declared.op.Op.{Op}
use Rattle.dxc_model.specs.declared.op.Op.TheVariants.{Restart}
use Rattle.dxc_model.specs.declared.op.Change.{Change}
use Rattle.dxc_model.specs.Tables.{Board}
use Rattle.dxc_model.specs.Verdicts.{Grants}
use Rattle.dxc_model.specs.Operations.{op_of}
use Rattle.dxc_model.specs.Steps.{IsFault, IsUnderWay, with_change}
use Rattle.tl1_users.specs.declared.op.UserOp.{UserOp}
use Rattle.user_admin.specs.Verdicts.{IsChanging}
use Rattle.craft_session.specs.declared.ask.Ask.{Ask}
use Rattle.craft_session.specs.declared.ask.Ask.TheVariants.{Restarts, Changes}
use Rattle.craft_session.specs.declared.attending.Attending.{Attending}
use Rattle.craft_session.specs.Asks.{Reply, completed, restarted, denied, Language}
use Rattle.craft_session.specs.Happenings.{Happening, unit, quiet}
use Rattle.craft_session.specs.Hearing.{to_do}
use Rattle.craft_session.specs.Notices.{AreReported, notices}
use Rattle.craft_session.specs.Plain.{At, Excuse, Limit, Replies, Said, joined, silence}
use Rattle.craft_session.specs.Walks.{attending_after, begun_by}
use Rattle.switch_laws.specs.Placed.{placed}

-- One session: what has happened in it, who is logged in and where its reports stand, whether reports are due, the moments that it took
-- with the bytes that it was written, and whether a stop has ended it.
pub record Session (U M : Type 0) : Type 0 where
  pub happenings : List (Happening U)
  pub attending : Attending
  pub due : Bool
  pub said : Said M
  pub ended : Bool

-- What a stop leaves: whether one stands, by which changes fail, and whether a restart is due, by a stop or by a restart that failed.
-- A restart ends both.
pub record Standing : Type 0 where
  pub stopped : Bool
  pub due : Bool

abbrev pub ready : Standing
ready = record { stopped = false; due = false }

abbrev pub halted : Standing
halted = record { stopped = true; due = true }

-- The whole element: its table, the changes that led to it, the operations that a fault or a stop left in doubt, what a stop has left,
-- and of each place its sessions, the newest first.
pub record Element (U M : Type 0) : Type 0 where
  pub table : Board
  pub changes : List Change
  pub doubted : List Op
  pub standing : Standing
  pub sessions : ℕ → List (Session U M)

-- what a session's answers go by: the table and the changes as they stand, and who is logged in
abbrev pub at : {U M : Type 0} → Element U M → Session U M → At
at e s = record { table = e.table; changes = e.changes; attending = s.attending }

-- the element with these sessions of one place
abbrev pub with_sessions : {U M : Type 0} → ℕ → List (Session U M) → Element U M → Element U M
with_sessions p ss e = record e { sessions = placed p ss e.sessions }

-- the element with the change made, if there is one, these operations in doubt, and what a stop has left
abbrev pub with_did : {U M : Type 0} → Option Change → List Op → Standing → Element U M → Element U M
with_did did ops st e =
    record e { table = with_change e.table did; changes = e.changes ++ option_to_list did; doubted = ops; standing = st }

-- A session that begins, that answers a unit, that a stop ends in the middle of one, that nothing comes to for a time, and that writes
-- its reports.
abbrev pub fresh : {U M : Type 0} → Language U M → Session U M
fresh l = record { happenings = []; attending = begun_by l.first; due = false; said = silence; ended = false }

abbrev pub answered : {U M : Type 0} → U → Said M → Attending → Session U M → Session U M
answered u x z s =
    record { happenings = s.happenings ++ unit u ∷ []; attending = z; due = is_some z.watch; said = joined s.said x; ended = s.ended }

abbrev pub unanswered : {U M : Type 0} → U → Session U M → Session U M
unanswered u s = record s { happenings = s.happenings ++ unit u ∷ []; ended = true }

abbrev pub rested : {U M : Type 0} → Session U M → Session U M
rested s = record s { happenings = s.happenings ++ quiet ∷ []; due = is_some s.attending.watch }

abbrev pub reported : {U M : Type 0} → ℕ → Said M → Session U M → Session U M
reported newest x s =
    record s { attending = record { user = s.attending.user; watch = Some newest }; due = false; said = joined s.said x; ended = s.ended }

-- an operation that the disk failed is in doubt
abbrev pub doubted_by : Cause → Op → List Op → List Op
doubted_by DiskFault op ops = op ∷ ops
doubted_by q op ops = ops

-- the operations in doubt after this was asked and so replied to: none after a change that was made, or a restart
abbrev pub doubted_after : List Op → Ask → Reply → List Op
doubted_after ops (Changes op) completed = []
doubted_after ops (Changes op) (denied q) = doubted_by q op ops
doubted_after ops Restarts restarted = []
doubted_after ops Restarts (denied q) = doubted_by q Restart ops
doubted_after ops k r = ops

-- a restart that failed is due again
abbrev pub refused_by : Op → Standing → Standing
refused_by Restart s = record s { due = true }
refused_by op s = s

-- what a stop has left after this was asked and so replied to
abbrev pub standing_after : Standing → Ask → Reply → Standing
standing_after s Restarts restarted = ready
standing_after s Restarts (denied q) = refused_by Restart s
standing_after s (Changes op) (denied q) = refused_by op s
standing_after s k r = s

-- while a stop stands a change fails, by a fault of the journal
abbrev pub MayReply : Standing → Ask → Reply → Type 0
MayReply s (Changes op) r = s.stopped ≡ true → (q : Cause) × IsFault q × (r ≡ denied q)
MayReply s k r = Unit {0}

-- the table grants the change to an operation in doubt
abbrev pub IsDoubted : List Op → Board → Change → Type 0
IsDoubted [] t c = ⊥
IsDoubted (op ∷ ops) t c = Grants t op c ⊎ IsDoubted ops t c

-- a restart takes up a change in doubt, or none
abbrev pub Recalls : List Op → Board → Option Change → Type 0
Recalls ops t None = Unit {0}
Recalls ops t (Some c) = Grants t (op_of c) c × IsDoubted ops t c

abbrev pub RecallsFor : Ask → List Op → Board → Option Change → Type 0
RecallsFor Restarts ops t did = Recalls ops t did
RecallsFor k ops t did = Unit {0}

-- what a stop may cut of what was asked: it, where no stop stands, or a restart that was due in front of it
abbrev pub MayCut : Standing → Ask → Op → Type 0
MayCut s Restarts op = op ≡ Restart
MayCut s (Changes x) op = ((op ≡ x) × (s.stopped ≡ false)) ⊎ ((op ≡ Restart) × (s.due ≡ true))
MayCut s k op = ⊥

-- One turn of a place: a caller comes; a unit is answered, at a moment; nothing comes for a time; the reports that are due are written,
-- at their moments; or a stop comes, at the table in this operation, or before the users are changed, and ends the session. Between them
-- a restart that is due, in front of a changing command, with the change that it takes up.
pub data Turn (U M : Type 0) : Type 0 where
  call : ℕ → Turn U M
  answer : ℕ → U → M → Turn U M
  rest : ℕ → Turn U M
  look : ℕ → List M → Turn U M
  mend : Option Change → Turn U M
  stop : ℕ → U → Op → Turn U M
  stop_at_users : ℕ → U → Turn U M

-- What the element comes to by a list of turns, the newest first: each session goes by the table as it stands, and nothing else is done
-- meanwhile.
module _ {U M : Type 0} (l : Language U M) (limit : Limit) (excused : Excuse) (start : Element U M) where
  pub data IsPlayed : List (Turn U M) → Element U M → Type 0 where
    opens : IsPlayed [] start
    comes : (ts : List (Turn U M)) (e : Element U M) (p : ℕ)
        → IsPlayed ts e
        → IsPlayed (call p ∷ ts) (with_sessions p (fresh l ∷ e.sessions p) e)
    answers : (ts : List (Turn U M)) (e : Element U M) (p : ℕ) (s : Session U M) (older : List (Session U M))
        (u : U) (m : M) (r : Reply) (did : Option Change)
        → e.sessions p ≡ s ∷ older → s.ended ≡ false → s.due ≡ false
        → Replies limit excused (at e s) (l.asks s.attending.user u) r did
        → RecallsFor (l.asks s.attending.user u) e.doubted e.table did
        → MayReply e.standing (l.asks s.attending.user u) r
        → IsPlayed ts e
        → IsPlayed (answer p u m ∷ ts) (with_did did (doubted_after e.doubted (l.asks s.attending.user u) r)
        (standing_after e.standing (l.asks s.attending.user u) r)
        (with_sessions p (answered u (record { moments = m ∷ []; bytes = l.response m u r })
        (attending_after s.attending (length e.changes) (l.asks s.attending.user u)) s ∷ older) e))
    rests : (ts : List (Turn U M)) (e : Element U M) (p : ℕ) (s : Session U M) (older : List (Session U M))
        → e.sessions p ≡ s ∷ older → s.ended ≡ false → s.due ≡ false
        → IsPlayed ts e
        → IsPlayed (rest p ∷ ts) (with_sessions p (rested s ∷ older) e)
    reports : (ts : List (Turn U M)) (e : Element U M) (p : ℕ) (s : Session U M) (older : List (Session U M))
        (cursor : ℕ) (ms : List M) (bytes : List ℕ)
        → e.sessions p ≡ s ∷ older → s.ended ≡ false → s.due ≡ true → s.attending.watch ≡ Some cursor
        → AreReported l.report (notices e.changes cursor) ms bytes
        → IsPlayed ts e
        → IsPlayed (look p ms ∷ ts)
        (with_sessions p (reported (length e.changes) (record { moments = ms; bytes = bytes }) s ∷ older) e)
    mends : (ts : List (Turn U M)) (e : Element U M) (did : Option Change)
        → e.standing.due ≡ true → Recalls e.doubted e.table did
        → IsPlayed ts e
        → IsPlayed (mend did ∷ ts) (with_did did [] ready e)
    stops : (ts : List (Turn U M)) (e : Element U M) (p : ℕ) (s : Session U M) (older : List (Session U M)) (u : U) (op : Op)
        → e.sessions p ≡ s ∷ older → s.ended ≡ false → s.due ≡ false
        → MayCut e.standing (l.asks s.attending.user u) op → IsUnderWay e.table op
        → IsPlayed ts e
        → IsPlayed (stop p u op ∷ ts) (with_did None (op ∷ e.doubted) halted (with_sessions p (unanswered u s ∷ older) e))
    stops_at_users : (ts : List (Turn U M)) (e : Element U M) (p : ℕ) (s : Session U M) (older : List (Session U M))
        (u : U) (op : UserOp)
        → e.sessions p ≡ s ∷ older → s.ended ≡ false → s.due ≡ false
        → l.wants s.attending.user u ≡ to_do op → IsChanging op
        → IsPlayed ts e
        → IsPlayed (stop_at_users p u ∷ ts) (with_sessions p (unanswered u s ∷ older) e)

  -- by some order of turns
  abbrev pub ComesTo : Element U M → Type 0
  ComesTo e = (ts : List (Turn U M)) × IsPlayed ts e
