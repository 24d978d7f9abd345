-- What holds of the runs of all sessions over one history.
use Rattle.std.specs.Prelude.{◌≡◌, ◌≢◌, ◌≤◌, ◌<◌, ℕ, Bool, false, List, [], ◌∷◌, ◌++◌, IsTrue}
use Rattle.std.specs.List.{AllByRecursion}
use Rattle.turnstile.specs.Turning.{Each}
use Rattle.dxc_outside.specs.declared.clock.Moment.{Moment}
use Rattle.dxc_model.specs.declared.cause.Cause.{Cause}
use Rattle.dxc_model.specs.declared.cause.Cause.TheVariants.{DiskFault}
use Rattle.dxc_model.specs.declared.op.Op.{Op}
use Rattle.dxc_model.specs.declared.entry.Outcome.{Outcome}
use Rattle.dxc_model.specs.declared.entry.Outcome.TheVariants.{Done, Denied, Failed, Restarted, Cut}
use Rattle.dxc_model.specs.declared.entry.Entry.{Entry}
use Rattle.dxc_model.specs.declared.user.SessionUser.{SessionUser}
use Rattle.dxc_model.specs.Tables.{Board}
use Rattle.dxc_model.specs.Steps.{IsFault}
use Rattle.dxc_model.specs.Histories.{IsCut, IsLegal, changes_of, table_after}
use Rattle.user_admin.specs.declared.op.UserEntry.{UserEntry}
use Rattle.tl1_users.specs.declared.op.UserOp.{UserOp}
use Rattle.user_admin.specs.Histories.{Opening as UsersOpening}
use Rattle.user_admin.specs.Verdicts.{IsChanging}
use Rattle.xc_core.specs.Seeing.{entry}
use Rattle.xc_core.specs.States.{LimitBehind, Opening, rules_of}
use Rattle.craft_session.specs.Asks.{Language}
use Rattle.craft_session.specs.Consulting.{Consults}
use Rattle.craft_session.specs.Happenings.{Happening, Request}
use Rattle.craft_session.specs.Hearing.{to_do}
use Rattle.craft_session.specs.Plain.{Excuse, said_in}
use Rattle.craft_session.specs.Runs.{Message, Run, Walk}
use Rattle.craft_session.specs.Walks.{CutsAt, FrontOf, IsUnused}
use Rattle.switch_laws.specs.Element.{ComesTo, Element, IsPlayed, Session, Standing, Turn, doubted_by, halted, ready, refused_by, unanswered}

-- the same run, where the history goes on by these entries
abbrev pub gone_on : {U M : Type 0} → List Entry → Walk U M → Walk U M
gone_on es w = record w { history = w.history ++ es }

-- A run over a beginning of a history is one over the whole, where what follows isn't its own.
abbrev pub RunsGoOn : Type 0
RunsGoOn = (l : Language Request Moment) (place : ℕ) (t : Board) (past more : List Entry) (w : Walk Request Moment)
    → Run l place t past w → Each (λ e. e.place ≢ place) more → Run l place t past (gone_on more w)

-- so it is over the users' history
abbrev pub HearingsGoOn : Type 0
HearingsGoOn = (l : Language Request Moment) (place : ℕ) (o : UsersOpening) (past h more : List UserEntry)
    (hs : List (Happening Request)) (s : SessionUser)
    → Consults l place o past hs h s → Each (λ e. e.place ≢ place) more → Consults l place o past hs (h ++ more) s

-- what a run leaves of its session
abbrev pub session_in : {U M : Type 0} → Walk U M → Session U M
session_in w = record { happenings = w.happenings; attending = w.attending; due = w.due; said = said_in w; ended = false }

-- a message of the session of a place that came after these
pub record Spoken (U M : Type 0) : Type 0 where
  pub older : List (Session U M)
  pub message : Message

abbrev pub spoken_in : {U M : Type 0} → List (Session U M) → List Message → List (Spoken U M)
spoken_in older [] = []
spoken_in older (m ∷ ms) = record { older = older; message = m } ∷ spoken_in older ms

-- What the sessions of a place did over a history, the newest first, and their messages as they came: each began where the one before it had ended, and some
-- were ended by a stop, in the middle of a command at the table or before one at the users.
pub data Lives {U M : Type 0} (l : Language U M) (place : ℕ) (t : Board) (past : List Entry)
    : List Entry → List (Spoken U M) → List (Session U M) → Type 0 where
  nobody_came : Lives l place t past past [] []
  passed_on : (h : List Entry) (said : List (Spoken U M)) (ss : List (Session U M)) (e : Entry)
      → IsUnused place e
      → Lives l place t past h said ss
      → Lives l place t past (h ++ e ∷ []) said ss
  served : (h : List Entry) (said : List (Spoken U M)) (ss : List (Session U M)) (w : Walk U M)
      → Run l place t h w
      → Lives l place t past h said ss
      → Lives l place t past w.history (said ++ spoken_in ss w.messages) (session_in w ∷ ss)
  stopped : (h : List Entry) (said : List (Spoken U M)) (ss : List (Session U M)) (w : Walk U M) (u : U) (front : List Entry) (op : Op)
      → Run l place t h w → w.due ≡ false
      → FrontOf place w.history (l.asks w.attending.user u) front
      → CutsAt (w.history ++ front) (l.asks w.attending.user u) op
      → Lives l place t past h said ss
      → Lives l place t past ((w.history ++ front) ++ entry place op Cut ∷ []) (said ++ spoken_in ss w.messages) (unanswered u (session_in w) ∷ ss)
  stopped_at_users : (h : List Entry) (said : List (Spoken U M)) (ss : List (Session U M)) (w : Walk U M) (u : U) (op : UserOp)
      → Run l place t h w → w.due ≡ false
      → l.wants w.attending.user u ≡ to_do op → IsChanging op
      → Lives l place t past h said ss
      → Lives l place t past w.history (said ++ spoken_in ss w.messages) (unanswered u (session_in w) ∷ ss)

-- the operations in doubt after an entry, and after several
abbrev pub doubted_by_entry : List Op → Op → Outcome → List Op
doubted_by_entry ops op (Done c) = []
doubted_by_entry ops op (Denied q) = doubted_by q op ops
doubted_by_entry ops op (Failed q) = doubted_by q op ops
doubted_by_entry ops op (Restarted c) = []
doubted_by_entry ops op Cut = op ∷ ops
doubted_by_entry ops op o = ops

abbrev pub doubted_in : List Op → List Entry → List Op
doubted_in ops [] = ops
doubted_in ops (e ∷ es) = doubted_in (doubted_by_entry ops e.op e.outcome) es

-- what a stop has left after an entry, and after several
abbrev pub standing_by_entry : Standing → Op → Outcome → Standing
standing_by_entry s op (Denied q) = refused_by op s
standing_by_entry s op (Failed q) = refused_by op s
standing_by_entry s op (Restarted c) = ready
standing_by_entry s op Cut = halted
standing_by_entry s op o = s

abbrev pub standing_in : Standing → List Entry → Standing
standing_in s [] = s
standing_in s (e ∷ es) = standing_in (standing_by_entry s e.op e.outcome) es

-- the element after a history, with these sessions
abbrev pub element : {U M : Type 0} → Board → List Entry → (ℕ → List (Session U M)) → Element U M
element t h sessions =
    record { table = table_after t h; changes = changes_of h; doubted = doubted_in [] h; standing = standing_in ready h; sessions = sessions }

-- each fault of the journal has an excuse, and a stop excuses one of the disk
pub record IsExcused (excused : Excuse) (e : Entry) : Type 0 where
  pub fault : (q : Cause) → e.outcome ≡ Failed q → IsFault q → excused q
  pub cut : IsCut e → excused DiskFault

-- What the sessions of so many places did over one legal history is what the plain element comes to by some order of their turns. Its
-- changes are those of the history, in its order.
abbrev pub ArePlayedTogether : Type 0
ArePlayedTogether = (l : Language Request Moment) (excused : Cause → Bool) (o : Opening) (past h : List Entry)
    (places : ℕ) (spoken : ℕ → List (Spoken Request Moment)) (sessions : ℕ → List (Session Request Moment))
    → IsLegal (rules_of o) h → AllByRecursion (IsExcused (λ q. IsTrue (excused q))) h
    → 0 < places → AllByRecursion (λ e. e.place < places) h
    → ((p : ℕ) → p < places → Lives l p o.first.fold.table past h (spoken p) (sessions p))
    → ((p : ℕ) → places ≤ p → sessions p ≡ [])
    → ComesTo l (LimitBehind o.first) (λ q. IsTrue (excused q))
    (element o.first.fold.table past (λ p. [])) (element o.first.fold.table h sessions)

-- The plain element is one where nothing has an excuse: the order of turns determines all that it writes.
abbrev pub IsOneElement : Type 0
IsOneElement = (l : Language Request Moment) (excused : Cause → Bool) (o : Opening) (start a b : Element Request Moment)
    (ts : List (Turn Request Moment))
    → ((q : Cause) → IsTrue (excused q) → ⊥)
    → IsPlayed l (LimitBehind o.first) (λ q. IsTrue (excused q)) start ts a
    → IsPlayed l (LimitBehind o.first) (λ q. IsTrue (excused q)) start ts b
    → a ≡ b
