-- At which places a session's gate was asked for the entries that it made.
use Rattle.std.specs.Prelude.{◌≡◌, ◌≢◌, ◌⊎◌, ◌<◌, ◌+◌, ℕ, Bool, true, false, List, [], ◌∷◌, ◌++◌, length, replicate, Option, Some, None}
use base.Stored.{Gv}
use Rattle.turnstile.specs.Turning.{Each}
use Rattle.dxc_outside.specs.declared.gate.GatePlace.{GatePlace}
use Rattle.dxc_outside.specs.declared.gate.GatePlace.TheVariants.{Journal, Register}
use Rattle.dxc_model.specs.declared.cause.Cause.{Cause}
use Rattle.dxc_model.specs.declared.cause.Cause.TheVariants.{DiskFault}
use Rattle.dxc_model.specs.declared.op.Change.{Change}
use Rattle.dxc_model.specs.declared.op.Op.{Op}
use Rattle.dxc_model.specs.declared.op.Op.TheVariants.{Restart}
use Rattle.dxc_model.specs.declared.entry.Entry.{Entry}
use Rattle.dxc_model.specs.declared.entry.Outcome.TheVariants.{Done, Failed, Answered, Restarted, Cut, Taken}
use Rattle.dxc_model.specs.Histories.{changes_of, holder}
use Rattle.dxc_model.specs.Verdicts.{Grants}
use Rattle.roll_plan.specs.declared.op.LegOp.{LegOp}
use Rattle.roll_plan.specs.Works.{ops_writes}
use Rattle.user_admin.specs.declared.op.UserChange.{UserChange}
use Rattle.user_admin.specs.declared.op.UserEntry.{UserEntry}
use Rattle.tl1_users.specs.declared.op.UserOp.{UserOp}
use Rattle.user_admin.specs.declared.op.UserOutcome.{UserOutcome}
use Rattle.user_admin.specs.declared.op.UserOutcome.TheVariants as user_outcome
use Rattle.user_admin.specs.Histories.{IsReading, Opening as UsersOpening}
use Rattle.user_admin.specs.Openings.{asked_before as users_asked_before}
use Rattle.user_admin.specs.States.{entry as user_entry, refused as user_refused}
use Rattle.user_admin.specs.Turns.{Saw as SawUsers}
use Rattle.xc_core.specs.Reckonings.{IsPlannedFor, Past, ReckonsTo}
use Rattle.xc_core.specs.Seeing.{Saw, entry, refused}
use Rattle.xc_core.specs.States.{Opening}
use Rattle.craft_session.specs.Askings.{asked_for}
use Rattle.craft_session.specs.Seats.{SeatAt, UserSeatAt}

-- At h the place has the Provisioner out for this operation: after the history at which it took it stand others' entries alone.
pub record IsOutFor (place : ℕ) (op : Op) (h : List Entry) : Type 0 where
  pub taken : List Entry
  pub later : List Entry
  pub all : h ≡ taken ++ later
  pub others : Each (λ e. e.place ≢ place) later
  pub held : holder None taken ≡ Some (entry place op Taken)

-- and the work that was planned there for the change that the table grants has so many writes
pub record IsWorkOf (o : Opening) (place : ℕ) (op : Op) (h : List Entry) (writes : ℕ) : Type 0 where
  pub out : IsOutFor place op h
  pub past : Past
  pub reckoned : ReckonsTo o.first (changes_of out.taken) past
  pub change : Change
  pub granted : Grants past.fold.table op change
  pub ops : List LegOp
  pub planned : IsPlannedFor past change ops
  pub writes_are : writes ≡ length (ops_writes ops)

-- the same, or it is out for a restart
abbrev pub IsOfWork : Opening → ℕ → Op → List Entry → ℕ → Type 0
IsOfWork o place op h writes = ((op ≡ Restart) × IsOutFor place Restart h) ⊎ IsWorkOf o place op h writes

-- Entries after h, and where the place asked its gate for its own, in this order. Whether it has the Provisioner out is told before them and after
-- them: all that is asked is asked while it has, before the journal is called and for the work. No turn asks. Only a restart fails before it
-- is asked, by the disk.
pub data IsGated (o : Opening) (place : ℕ) : List Entry → Bool → List Entry → List GatePlace → Bool → Type 0 where
  by_others : (h : List Entry) (out : Bool) (es : List Entry) → Each (λ e. e.place ≢ place) es → IsGated o place h out es [] out
  answers : (h : List Entry) (op : Op) → IsGated o place h false (entry place op Answered ∷ []) [] false
  denies : (h : List Entry) (op : Op) (q : Cause) → IsGated o place h false (entry place op (refused q) ∷ []) [] false
  takes : (h : List Entry) (op : Op) → IsGated o place h false (entry place op Taken ∷ []) [] true
  fails_before : (h : List Entry) (op : Op) → IsOutFor place Restart h → IsGated o place h true (entry place op (Failed DiskFault) ∷ []) [] false
  fails_behind : (h : List Entry) (op : Op) (q : Cause) → IsGated o place h true (entry place op (Failed q) ∷ []) (Journal ∷ []) false
  changes : (h : List Entry) (op : Op) (c : Change) (writes : ℕ) → IsWorkOf o place op h writes → IsGated o place h true (entry place op (Done c) ∷ []) (Journal ∷ asked_for writes) false
  restarts : (h : List Entry) (c : Option Change) (writes : ℕ) → IsOutFor place Restart h → IsGated o place h true (entry place Restart (Restarted c) ∷ []) (Journal ∷ asked_for writes) false
  stops_first : (h : List Entry) (op : Op) → IsGated o place h true (entry place op Cut ∷ []) (Journal ∷ []) false
  stops_between : (h : List Entry) (op : Op) (made writes : ℕ) → made < writes → IsOfWork o place op h writes → IsGated o place h true (entry place op Cut ∷ []) (Journal ∷ replicate (made + 1) Register) false
  stops_last : (h : List Entry) (op : Op) (writes : ℕ) → IsOfWork o place op h writes → IsGated o place h true (entry place op Cut ∷ []) (Journal ∷ asked_for writes) false
  gated_on : (h : List Entry) (before between behind : Bool) (es fs : List Entry) (ps qs : List GatePlace) → IsGated o place h before es ps between → IsGated o place (h ++ es) between fs qs behind → IsGated o place h before (es ++ fs) (ps ++ qs) behind

-- it was asked so, and at the journal before
abbrev pub after_journal : (List GatePlace → Type 0) → List GatePlace → Type 0
after_journal asked places = (behind : List GatePlace) × (places ≡ Journal ∷ behind) × asked behind

-- what one turn at the users asked; where a stop came it has no entry
pub data IsUserGated (place : ℕ) : List UserEntry → List GatePlace → Type 0 where
  users_kept : (es : List UserEntry) → Each (λ e. e.place ≢ place) es → IsUserGated place es []
  users_read : (op : UserOp) (o : UserOutcome) → IsReading op → (es : List UserEntry) → Each (λ e. e.place ≢ place) es → IsUserGated place (es ++ user_entry place op o ∷ []) []
  users_changed : (op : UserOp) (c : UserChange) (es : List UserEntry) → Each (λ e. e.place ≢ place) es → IsUserGated place (es ++ user_entry place op (user_outcome.Done c) ∷ []) (Journal ∷ [])
  users_denied : (op : UserOp) (q : Cause) (es : List UserEntry) → Each (λ e. e.place ≢ place) es → IsUserGated place (es ++ user_entry place op (user_refused q) ∷ []) (users_asked_before q)
  users_stopped : (es : List UserEntry) → Each (λ e. e.place ≢ place) es → IsUserGated place es (Journal ∷ [])

-- turn by turn, at the state, after h, and at the users
pub data AreGated (o : Opening) (place users_place : ℕ) : List Entry → List Entry → List UserEntry → List GatePlace → Type 0 where
  at_state : (h es : List Entry) (ps : List GatePlace) → IsGated o place h false es ps false → AreGated o place users_place h es [] ps
  at_users : (h : List Entry) (us : List UserEntry) (ps : List GatePlace) → IsUserGated users_place us ps → AreGated o place users_place h [] us ps
  are_gated_on : (h es fs : List Entry) (us vs : List UserEntry) (ps qs : List GatePlace) → AreGated o place users_place h es us ps → AreGated o place users_place (h ++ es) fs vs qs → AreGated o place users_place h (es ++ fs) (us ++ vs) (ps ++ qs)

abbrev pub NothingAsked : List GatePlace → Type 0
NothingAsked places = places ≡ []

-- after the history the place has seen such entries since, and its gate was asked there for them
pub record Entered (o : Opening) (place : ℕ) (asked : List GatePlace → Type 0) (out then_out : Bool) (h : List Entry) (then_seen : List Gv) : Type 0 where
  pub entries : List Entry
  pub saw : Saw o then_seen (h ++ entries)
  pub places : List GatePlace
  pub were : asked places
  pub gated : IsGated o place h out entries places then_out

pub record UsersEntered (o : UsersOpening) (place : ℕ) (asked : List GatePlace → Type 0) (h : List UserEntry) (then_seen : List Gv) : Type 0 where
  pub entries : List UserEntry
  pub saw : SawUsers o then_seen (h ++ entries)
  pub places : List GatePlace
  pub were : asked places
  pub gated : IsUserGated place entries places

pub record BothEntered (o : Opening) (users : UsersOpening) (place users_place : ℕ) (asked : List GatePlace → Type 0) (h : List Entry) (g : List UserEntry) (then_seen then_users : List Gv) : Type 0 where
  pub entries : List Entry
  pub users_entries : List UserEntry
  pub saw : Saw o then_seen (h ++ entries)
  pub saw_users : SawUsers users then_users (g ++ users_entries)
  pub places : List GatePlace
  pub were : asked places
  pub gated : AreGated o place users_place h entries users_entries places

-- after what a seat at the state had seen, whose place hasn't got the Provisioner out, before or then
abbrev pub AreStateEntered : SeatAt → (List GatePlace → Type 0) → List Gv → Type 0
AreStateEntered s asked then_seen = (h : List Entry) → Saw s.opening s.seen h → Entered s.opening s.place asked false false h then_seen

-- after what a seat at the users had seen
abbrev pub AreUsersEntered : UserSeatAt → (List GatePlace → Type 0) → List Gv → Type 0
AreUsersEntered u asked then_seen = (h : List UserEntry) → SawUsers u.opening u.seen h → UsersEntered u.opening u.place asked h then_seen

-- after what both seats of a place had seen
abbrev pub AreEntered : SeatAt → UserSeatAt → (List GatePlace → Type 0) → List Gv → List Gv → Type 0
AreEntered s u asked then_seen then_users = (h : List Entry) (g : List UserEntry) → Saw s.opening s.seen h → SawUsers u.opening u.seen g → BothEntered s.opening u.opening s.place u.place asked h g then_seen then_users
