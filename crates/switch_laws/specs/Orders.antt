-- One order for the table and the users: what a place did along both histories, and the plain element along whose turns the list of users goes.
use Rattle.std.specs.Prelude.{◌≡◌, ◌≢◌, ◌≤◌, ◌<◌, ◌⊎◌, ℕ, Bool, true, false, List, [], ◌∷◌, ◌++◌, length, filter, Some, IsTrue}
use Rattle.std.specs.List.{AllByRecursion}
use mathlib.Core.Logic.{inl, inr}
use Rattle.turnstile.specs.Orders.{TakesTurns}
use Rattle.dxc_outside.specs.declared.clock.Moment.{Moment}
use Rattle.dxc_model.specs.declared.cause.Cause.{Cause}
use Rattle.dxc_model.specs.declared.op.Op.{Op}
use Rattle.dxc_model.specs.declared.op.Op.TheVariants.{Look}
use Rattle.dxc_model.specs.declared.entry.Outcome.TheVariants.{Answered, Cut}
use Rattle.dxc_model.specs.declared.entry.Entry.{Entry}
use Rattle.dxc_model.specs.Tables.{Board}
use Rattle.dxc_model.specs.Histories.{IsLegal, changes_of}
use Rattle.shelf_file.specs.Contents.{Contents}
use Rattle.user_admin.specs.declared.op.UserEntry.{UserEntry}
use Rattle.user_admin.specs.declared.op.UserMark.{UserMark}
use Rattle.user_admin.specs.declared.op.UserMark.TheVariants.{Entered, Took}
use Rattle.tl1_users.specs.declared.op.UserOp.{UserOp}
use Rattle.user_admin.specs.Histories.{IsLegal as AreLegal, Opening as UsersOpening, failures, users_after}
use Rattle.user_admin.specs.Marks.{entries_of, entry_in}
use Rattle.user_admin.specs.States.{entry as user_entry}
use Rattle.user_admin.specs.Users.{Users}
use Rattle.user_admin.specs.Verdicts.{IsChanging}
use Rattle.xc_core.specs.Seeing.{entry}
use Rattle.xc_core.specs.States.{LimitBehind, Opening, rules_of}
use Rattle.craft_session.specs.Asks.{Language, Reply}
use Rattle.craft_session.specs.Doing.{AnyEntry, CutsOn, Does, Doing, HearsOn, at_table, at_users, cut_on, heard_on, is_used, of_users, used_of}
use Rattle.craft_session.specs.Happenings.{Request}
use Rattle.craft_session.specs.Hearing.{Hears, nothing, to_do, unasked}
use Rattle.craft_session.specs.Meanings.{language}
use Rattle.craft_session.specs.Notices.{AreReported, notices}
use Rattle.craft_session.specs.Plain.{Excuse, Limit}
use Rattle.craft_session.specs.PlainUsers.{HearsOf}
use Rattle.craft_session.specs.Runs.{Walk}
use Rattle.craft_session.specs.Walks.{CutsAt, FrontOf, IsUnused, Serves, attending_after}
use Rattle.switch_laws.specs.Element.{Element, IsPlayed, Session, Turn, answered, answers, comes, fresh, mends, opens, reported, reports, rested, rests, stops, stops_at_users, unanswered}
use Rattle.switch_laws.specs.Laws.{IsExcused, element, session_in}
use Rattle.switch_laws.specs.Moments.{AreBegun, IsBegun}

-- what a turn left at the table, or with the users
abbrev pub AnyMark : Type 0
AnyMark = Entry ⊎ UserMark

-- a place uses a mark where it uses the entry that the mark is; one that took the keeper is no entry
abbrev pub is_used_mark : ℕ → AnyMark → Bool
is_used_mark place (inl e) = is_used place (inl e)
is_used_mark place (inr (Entered n op out)) = is_used place (inr (user_entry n op.value out))
is_used_mark place (inr (Took n)) = false

abbrev pub any_entries : List AnyMark → List AnyEntry
any_entries [] = []
any_entries (inl e ∷ m) = inl e ∷ any_entries m
any_entries (inr x ∷ m) = of_users (entry_in x) ++ any_entries m

-- What the sessions of a place did along both histories, the newest first, and the entries that they used, as they took them: unit by unit, and
-- within a unit in the order of its history. Who asks the users takes no entry of the table.
pub data ActsAlong {U M : Type 0} (l : Language U M) (place : ℕ) (t : Board) (o : UsersOpening) (past : List Entry) : List Entry → List UserEntry → List AnyEntry → List (Session U M) → Type 0 where
  nobody_acts : ActsAlong l place t o past past [] [] []
  table_goes_on : (h : List Entry) (g : List UserEntry) (used : List AnyEntry) (ss : List (Session U M)) (e : Entry)
      → IsUnused place e
      → ActsAlong l place t o past h g used ss
      → ActsAlong l place t o past (h ++ e ∷ []) g used ss
  users_go_on : (h : List Entry) (g : List UserEntry) (used : List AnyEntry) (ss : List (Session U M)) (e : UserEntry)
      → e.place ≢ place
      → ActsAlong l place t o past h g used ss
      → ActsAlong l place t o past h (g ++ e ∷ []) used ss
  caller_acts : (h : List Entry) (g : List UserEntry) (used : List AnyEntry) (ss : List (Session U M))
      → ActsAlong l place t o past h g used ss
      → ActsAlong l place t o past h g used (fresh l ∷ ss)
  acts_at_table : (h : List Entry) (g : List UserEntry) (used : List AnyEntry) (ss : List (Session U M)) (s : Session U M)
      (u : U) (m : M) (es : List Entry) (r : Reply)
      → s.ended ≡ false → s.due ≡ false
      → l.wants s.attending.user u ≡ nothing → l.heard u ≡ unasked
      → Serves place t h (l.asks s.attending.user u) es r
      → ActsAlong l place t o past h g used (s ∷ ss)
      → ActsAlong l place t o past (h ++ es) g (used ++ used_of place es) (answered u (record { moments = m ∷ []; bytes = l.response m u r })
      (attending_after s.attending (length (changes_of h)) (l.asks s.attending.user u)) s ∷ ss)
  acts_at_users : (h : List Entry) (g : List UserEntry) (used : List AnyEntry) (ss : List (Session U M)) (s : Session U M)
      (u : U) (m : M) (us : List UserEntry) (r : Reply)
      → s.ended ≡ false → s.due ≡ false
      → Hears o place g (l.wants s.attending.user u) us (l.heard u)
      → Serves place t h (l.asks s.attending.user u) [] r
      → ActsAlong l place t o past h g used (s ∷ ss)
      → ActsAlong l place t o past h (g ++ us) (used ++ of_users us) (answered u (record { moments = m ∷ []; bytes = l.response m u r })
      (attending_after s.attending (length (changes_of h)) (l.asks s.attending.user u)) s ∷ ss)
  nothing_came : (h : List Entry) (g : List UserEntry) (used : List AnyEntry) (ss : List (Session U M)) (s : Session U M)
      → s.ended ≡ false → s.due ≡ false
      → ActsAlong l place t o past h g used (s ∷ ss)
      → ActsAlong l place t o past h g used (rested s ∷ ss)
  looks_on : (h : List Entry) (g : List UserEntry) (used : List AnyEntry) (ss : List (Session U M)) (s : Session U M)
      (cursor : ℕ) (ms : List M) (bytes : List ℕ)
      → s.ended ≡ false → s.due ≡ true → s.attending.watch ≡ Some cursor
      → AreReported l.report (notices (changes_of h) cursor) ms bytes
      → ActsAlong l place t o past h g used (s ∷ ss)
      → ActsAlong l place t o past (h ++ entry place (Look cursor) Answered ∷ []) g (used ++ inl (entry place (Look cursor) Answered) ∷ [])
      (reported (length (changes_of h)) (record { moments = ms; bytes = bytes }) s ∷ ss)
  stopped_short : (h : List Entry) (g : List UserEntry) (used : List AnyEntry) (ss : List (Session U M)) (s : Session U M)
      (u : U) (front : List Entry) (op : Op)
      → s.ended ≡ false → s.due ≡ false
      → l.wants s.attending.user u ≡ nothing → l.heard u ≡ unasked
      → FrontOf place h (l.asks s.attending.user u) front
      → CutsAt (h ++ front) (l.asks s.attending.user u) op
      → ActsAlong l place t o past h g used (s ∷ ss)
      → ActsAlong l place t o past ((h ++ front) ++ entry place op Cut ∷ []) g ((used ++ used_of place front) ++ inl (entry place op Cut) ∷ []) (unanswered u s ∷ ss)
  stopped_before_users : (h : List Entry) (g : List UserEntry) (used : List AnyEntry) (ss : List (Session U M)) (s : Session U M)
      (u : U) (op : UserOp)
      → s.ended ≡ false → s.due ≡ false
      → l.wants s.attending.user u ≡ to_do op → IsChanging op
      → ActsAlong l place t o past h g used (s ∷ ss)
      → ActsAlong l place t o past h g used (unanswered u s ∷ ss)

module _ {U M : Type 0} (l : Language U M) (limit : Limit) (excused : Excuse) (start : Element U M) (p : UsersOpening) (failing : Type 0) where
  -- The list of users goes along the element's own turns: each unit that is answered, or cut, hears what the users tell as they stand.
  abbrev pub AreUsersAlong : (ts : List (Turn U M)) (e : Element U M) → IsPlayed l limit excused start ts e → Users → Type 0
  AreUsersAlong _ _ opens us = us ≡ p.users
  AreUsersAlong _ _ (comes ts e k x) us = AreUsersAlong ts e x us
  AreUsersAlong _ _ (answers ts e k s older u m r did there ended due replies recalls may x) us = (before : Users) × AreUsersAlong ts e x before × HearsOf p.shelf.sid failing before (l.wants s.attending.user u) (l.heard u) us
  AreUsersAlong _ _ (rests ts e k s older there ended due x) us = AreUsersAlong ts e x us
  AreUsersAlong _ _ (reports ts e k s older cursor ms bytes there ended due watch told x) us = AreUsersAlong ts e x us
  AreUsersAlong _ _ (mends ts e did due recalls x) us = AreUsersAlong ts e x us
  AreUsersAlong _ _ (stops ts e k s older u op there ended due may under x) us = (before : Users) × AreUsersAlong ts e x before × HearsOf p.shelf.sid failing before (l.wants s.attending.user u) (l.heard u) us
  AreUsersAlong _ _ (stops_at_users ts e k s older u op there ended due wants changing x) us = AreUsersAlong ts e x us

  -- by this order of turns the element comes to this, and the users to these
  abbrev pub ArePlayedAlong : List (Turn U M) → Element U M → Users → Type 0
  ArePlayedAlong ts e us = (played : IsPlayed l limit excused start ts e) × AreUsersAlong ts e played us

  -- A moment of these turns, the newest first, by which the sessions came to those: the users were these, the element was so, and each session had done a
  -- beginning of what it did.
  pub record WasAlong (ts : List (Turn U M)) (then_sessions : ℕ → List (Session U M)) (element_with : (ℕ → List (Session U M)) → Element U M) (us : Users) : Type 0 where
    pub later : List (Turn U M)
    pub earlier : List (Turn U M)
    pub order : ts ≡ later ++ earlier
    pub sessions : ℕ → List (Session U M)
    pub come : ArePlayedAlong earlier (element_with sessions) us
    pub begun : (k : ℕ) → AreBegun IsBegun (sessions k) (then_sessions k)

  -- One order of turns plays these entries of both histories, after this past on this table, and passes each beginning of theirs.
  pub record ArePlayedInOrder (t : Board) (past : List Entry) (order : List AnyEntry) (h : List Entry) (g : List UserEntry) (sessions : ℕ → List (Session U M)) : Type 0 where
    pub turns : List (Turn U M)
    pub along : ArePlayedAlong turns (element t (past ++ h) sessions) (users_after p g)
    pub moments : (front back : List AnyEntry) → order ≡ front ++ back → WasAlong turns sessions (element t (past ++ at_table front)) (users_after p (at_users front))

-- One order of the entries of both histories, in which those that each of so many places used come as it took them.
pub record IsOrderOf (h : List Entry) (g : List UserEntry) (places : ℕ) (used : ℕ → List AnyEntry) (order : List AnyEntry) : Type 0 where
  pub table : at_table order ≡ h
  pub users : at_users order ≡ g
  pub own : (k : ℕ) → k < places → used k ≡ filter (is_used k) order

-- Whatever such an order there is: by one order of turns the plain element comes to the table's history, and along the same turns the list of users comes to
-- that of the users. Those turns pass each beginning of that order, with the table and the users as they were then.
abbrev pub ArePlayedInOneOrder : Type 0
ArePlayedInOneOrder = (l : Language Request Moment) (excused : Cause → Bool) (failing : Bool) (o : Opening) (p : UsersOpening) (past h : List Entry) (g : List UserEntry)
    (places : ℕ) (used : ℕ → List AnyEntry) (order : List AnyEntry) (sessions : ℕ → List (Session Request Moment))
    → IsLegal (rules_of o) (past ++ h) → AllByRecursion (IsExcused (λ q. IsTrue (excused q))) (past ++ h)
    → AreLegal p g → (1 ≤ failures g → IsTrue failing)
    → 0 < places → AllByRecursion (λ e. e.place < places) (past ++ h) → AllByRecursion (λ e. e.place < places) g
    → ((k : ℕ) → k < places → ActsAlong l k o.first.fold.table p past (past ++ h) g (used k) (sessions k))
    → ((k : ℕ) → places ≤ k → sessions k ≡ [])
    → IsOrderOf h g places used order
    → ArePlayedInOrder l (LimitBehind o.first) (λ q. IsTrue (excused q)) (element o.first.fold.table past (λ k. [])) p (IsTrue failing) o.first.fold.table past order h g sessions

-- By the stamps of what its seats have seen the place took its turns so: those entries that it used, in this order.
pub record TookAlong (place : ℕ) (past h : List Entry) (x : Doing) : Type 0 where
  -- what turns left at the table since that past
  pub left : List Entry
  pub whole : h ≡ past ++ left
  pub took : List AnyMark
  pub takes : TakesTurns (is_used_mark place) place x.stamps left x.users_stamps x.marks took
  pub used_are : any_entries took ≡ x.used

-- where these had been used before
abbrev pub after : List AnyEntry → Doing → Doing
after earlier x = record x { used = earlier ++ x.used }

module _ {U M : Type 0} (l : Language U M) (place : ℕ) (t : Board) (o : UsersOpening) (past : List Entry) where
  -- what the sessions of the place did along both histories, and that it took its turns so
  pub record GoneAlong (h : List Entry) (x : Doing) (ss : List (Session U M)) : Type 0 where
    pub acts : ActsAlong l place t o past h (entries_of x.marks) x.used ss
    pub turns : TookAlong place past h x

  module _ (earlier : List AnyEntry) where
    -- What a session does goes on with what its place did.
    abbrev pub GoesOnBy : Type 0
    GoesOnBy = (h : List Entry) (first : Doing) (ss : List (Session U M)) → GoneAlong h (after earlier first) ss
        → (w : Walk U M) (x : Doing) → Does l place t o h first w x → GoneAlong w.history (after earlier x) (session_in w ∷ ss)

    -- so it is where a stop cut the last unit at the table
    abbrev pub IsCutAfter : Type 0
    IsCutAfter = (h : List Entry) (first : Doing) (ss : List (Session U M)) → GoneAlong h (after earlier first) ss
        → (w : Walk U M) (x : Doing) → Does l place t o h first w x → w.due ≡ false
        → (u : U) (a : HearsOn o place x (l.wants w.attending.user u) (l.heard u)) (b : CutsOn place w.history ((heard_on x a).users_stamps) (l.asks w.attending.user u))
        → GoneAlong ((w.history ++ b.front) ++ entry place b.op Cut ∷ []) (after earlier (cut_on x a b)) (unanswered u (session_in w) ∷ ss)

    -- and where one came before the users were changed
    abbrev pub IsCutBefore : Type 0
    IsCutBefore = (h : List Entry) (first : Doing) (ss : List (Session U M)) → GoneAlong h (after earlier first) ss
        → (w : Walk U M) (x : Doing) → Does l place t o h first w x → w.due ≡ false
        → (u : U) (op : UserOp) → l.wants w.attending.user u ≡ to_do op → IsChanging op
        → GoneAlong w.history (after earlier x) (unanswered u (session_in w) ∷ ss)

-- so it is of the sessions of a controller
abbrev pub DoesAreActs : Type 0
DoesAreActs = (s : Contents) (place : ℕ) (t : Board) (o : UsersOpening) (past : List Entry) (earlier : List AnyEntry) → GoesOnBy (language s) place t o past earlier

abbrev pub CutsAreActs : Type 0
CutsAreActs = (s : Contents) (place : ℕ) (t : Board) (o : UsersOpening) (past : List Entry) (earlier : List AnyEntry) → IsCutAfter (language s) place t o past earlier

abbrev pub CutsBeforeAreActs : Type 0
CutsBeforeAreActs = (s : Contents) (place : ℕ) (t : Board) (o : UsersOpening) (past : List Entry) (earlier : List AnyEntry) → IsCutBefore (language s) place t o past earlier
