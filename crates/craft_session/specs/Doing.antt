-- What the place of a session did along both histories, in the order of its turns: a third relation on the walk, beside the run over the table's history and
-- what was heard along the users'.
use Rattle.std.specs.Prelude.{◌≡◌, ◌≢◌, ◌⊎◌, ◌==◌, ◌&&◌, ℕ, Bool, true, false, not, List, [], ◌∷◌, ◌++◌, length, filter, Some}
use mathlib.Core.Logic.{inl, inr}
use Rattle.turnstile.specs.Dating.{IsOwnAbove, Stamp}
use Rattle.turnstile.specs.Turning.{Each}
use Rattle.dxc_model.specs.declared.op.Op.{Op}
use Rattle.dxc_model.specs.declared.op.Op.TheVariants.{Look}
use Rattle.dxc_model.specs.declared.entry.Outcome.{Outcome}
use Rattle.dxc_model.specs.declared.entry.Outcome.TheVariants.{Done, Denied, Failed, Answered, Restarted, Cut, Taken}
use Rattle.dxc_model.specs.declared.entry.Entry.{Entry}
use Rattle.dxc_model.specs.Tables.{Board}
use Rattle.dxc_model.specs.Histories.{changes_of}
use Rattle.user_admin.specs.declared.op.UserEntry.{UserEntry}
use Rattle.user_admin.specs.declared.op.UserMark.{UserMark}
use Rattle.user_admin.specs.Histories.{Opening as UsersOpening}
use Rattle.user_admin.specs.Marks.{entries_of}
use Rattle.xc_core.specs.Seeing.{entry}
use Rattle.craft_session.specs.declared.ask.Ask.{Ask}
use Rattle.craft_session.specs.Asks.{Language, Reply}
use Rattle.craft_session.specs.Hearing.{Heard, Hears, Wanted}
use Rattle.craft_session.specs.Notices.{AreReported, notices}
use Rattle.craft_session.specs.Runs.{Walk, beginning, with_entries, with_look, with_quiet, with_response}
use Rattle.craft_session.specs.Walks.{CutsAt, FrontOf, IsUnused, Serves, attending_after}

-- an entry of the table's history, or one of the users'
abbrev pub AnyEntry : Type 0
AnyEntry = Entry ⊎ UserEntry

-- those of the table among the entries of both, and those of the users
abbrev pub at_table : {A B : Type 0} → List (A ⊎ B) → List A
at_table [] = []
at_table (inl e ∷ m) = e ∷ at_table m
at_table (inr e ∷ m) = at_table m

abbrev pub at_users : {A B : Type 0} → List (A ⊎ B) → List B
at_users [] = []
at_users (inl e ∷ m) = at_users m
at_users (inr e ∷ m) = e ∷ at_users m

abbrev pub of_table : List Entry → List AnyEntry
of_table [] = []
of_table (e ∷ es) = inl e ∷ of_table es

abbrev pub of_users : List UserEntry → List AnyEntry
of_users [] = []
of_users (e ∷ es) = inr e ∷ of_users es

-- an entry at which a place took the Provisioner
abbrev pub is_taking : Outcome → Bool
is_taking (Done c) = false
is_taking (Denied q) = false
is_taking (Failed q) = false
is_taking Answered = false
is_taking (Restarted c) = false
is_taking Cut = false
is_taking Taken = true

-- whether a place uses an entry: each of its own but such a one
abbrev pub is_used : ℕ → AnyEntry → Bool
is_used place (inl e) = (e.place == place) && not (is_taking e.outcome)
is_used place (inr e) = e.place == place

abbrev pub used_of : ℕ → List Entry → List AnyEntry
used_of place es = filter (is_used place) (of_table es)

-- the stamps of what the place has seen of both turnstiles, what turns left with the users, and the entries of both that it used, as it took them
pub record Doing : Type 0 where
  pub stamps : List Stamp
  pub marks : List UserMark
  pub users_stamps : List Stamp
  pub used : List AnyEntry

-- more was seen of the users, or of the table, or used
abbrev pub users_on : Doing → List UserMark → List Stamp → Doing
users_on x ms ts = record x { marks = x.marks ++ ms; users_stamps = x.users_stamps ++ ts }

abbrev pub table_on : Doing → List Stamp → Doing
table_on x ss = record x { stamps = x.stamps ++ ss }

abbrev pub using : Doing → List AnyEntry → Doing
using x es = record x { used = x.used ++ es }

-- a stamp for each of them; the place's own have higher dates than its own among those that it had seen of the other turnstile
pub record AreDated {E : Type 0} (place : ℕ) (other : List Stamp) (es : List E) (stamps : List Stamp) : Type 0 where
  pub as_many : length stamps ≡ length es
  pub above : IsOwnAbove place other stamps

-- what turns left with the users since: others' entries, and then those of what is wanted, of which this was heard
pub record HearsOn (o : UsersOpening) (place : ℕ) (x : Doing) (w : Wanted) (heard : Heard) : Type 0 where
  pub marks : List UserMark
  pub stamps : List Stamp
  pub dated : AreDated place x.stamps marks stamps
  pub passed : List UserEntry
  pub others : Each (λ e. e.place ≢ place) passed
  pub entries : List UserEntry
  pub hears : Hears o place (entries_of x.marks ++ passed) w entries heard
  pub are : entries_of marks ≡ passed ++ entries

-- what turns left at the table since, where the users had been seen to these stamps: entries that no unit uses, and then those of what is asked
pub record ServesOn (place : ℕ) (t : Board) (h : List Entry) (users_stamps : List Stamp) (a : Ask) (r : Reply) : Type 0 where
  pub passed : List Entry
  pub unused : Each (IsUnused place) passed
  pub entries : List Entry
  pub serves : Serves place t (h ++ passed) a entries r
  pub stamps : List Stamp
  pub dated : AreDated place users_stamps (passed ++ entries) stamps

-- entries that no unit uses, and then the place's look
pub record LooksOn (place : ℕ) (users_stamps : List Stamp) (cursor : ℕ) : Type 0 where
  pub passed : List Entry
  pub unused : Each (IsUnused place) passed
  pub stamps : List Stamp
  pub dated : AreDated place users_stamps (passed ++ entry place (Look cursor) Answered ∷ []) stamps

-- what stands in front of the entry at which a stop cut what was asked, and this entry
pub record CutsOn (place : ℕ) (h : List Entry) (users_stamps : List Stamp) (a : Ask) : Type 0 where
  pub front : List Entry
  pub stands : FrontOf place h a front
  pub op : Op
  pub cuts : CutsAt (h ++ front) a op
  pub stamps : List Stamp
  pub dated : AreDated place users_stamps (front ++ entry place op Cut ∷ []) stamps

module _ {o : UsersOpening} {place : ℕ} {w : Wanted} {heard : Heard} (x : Doing) (a : HearsOn o place x w heard) where
  -- after what was heard
  abbrev pub heard_on : Doing
  heard_on = using (users_on x a.marks a.stamps) (of_users a.entries)

  -- and what was asked besides
  abbrev pub done_on : {t : Board} {h : List Entry} {ask : Ask} {r : Reply} → ServesOn place t h (heard_on.users_stamps) ask r → Doing
  done_on b = using (table_on heard_on b.stamps) (used_of place b.entries)

  -- or what a stop cut
  abbrev pub cut_on : {h : List Entry} {ask : Ask} → CutsOn place h (heard_on.users_stamps) ask → Doing
  cut_on b = using (using (table_on heard_on b.stamps) (used_of place b.front)) (inl (entry place b.op Cut) ∷ [])

-- What the place of a session did that had done so much before: others' entries pass, and its own turns at which it took the users' keeper or the
-- Provisioner. What it takes of either turnstile has higher dates than what it had taken of the other: a unit hears what it wants of the users, and then
-- does what it asks at the table.
pub data Does {U M : Type 0} (l : Language U M) (place : ℕ) (t : Board) (o : UsersOpening) (h : List Entry) (first : Doing) : Walk U M → Doing → Type 0 where
  begins_doing : Does l place t o h first (beginning l h) first
  users_pass : (w : Walk U M) (x : Doing) (ms : List UserMark) (ts : List Stamp) → Each (λ e. e.place ≢ place) (entries_of ms) → AreDated place x.stamps ms ts
      → Does l place t o h first w x → Does l place t o h first w (users_on x ms ts)
  table_passes : (w : Walk U M) (x : Doing) (es : List Entry) (ss : List Stamp) → Each (IsUnused place) es → AreDated place x.users_stamps es ss
      → Does l place t o h first w x → Does l place t o h first (with_entries es w) (table_on x ss)
  does_unit : (w : Walk U M) (x : Doing) (u : U) (m : M) (r : Reply) → w.due ≡ false
      → (a : HearsOn o place x (l.wants w.attending.user u) (l.heard u)) → (b : ServesOn place t w.history ((heard_on x a).users_stamps) (l.asks w.attending.user u) r)
      → Does l place t o h first w x
      → Does l place t o h first (with_response u b.entries m (l.response m u r) (attending_after w.attending (length (changes_of (w.history ++ b.passed))) (l.asks w.attending.user u)) (with_entries b.passed w)) (done_on x a b)
  does_nothing : (w : Walk U M) (x : Doing) → w.due ≡ false → Does l place t o h first w x → Does l place t o h first (with_quiet w) x
  does_look : (w : Walk U M) (x : Doing) (cursor : ℕ) (ms : List M) (bytes : List ℕ) → w.due ≡ true → w.attending.watch ≡ Some cursor
      → (b : LooksOn place x.users_stamps cursor) → AreReported l.report (notices (changes_of (w.history ++ b.passed)) cursor) ms bytes
      → Does l place t o h first w x
      → Does l place t o h first (with_look place cursor ms bytes (with_entries b.passed w)) (using (table_on x b.stamps) (inl (entry place (Look cursor) Answered) ∷ []))
