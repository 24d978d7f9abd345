-- The users as all sessions hear of them: one list of users, one happening at a time, and how that is told of the one history of theirs.
use Rattle.std.specs.Prelude.{◌≡◌, ◌≢◌, ◌≤◌, ◌<◌, ℕ, Bool, List, [], ◌∷◌, ◌++◌, IsTrue}
use Rattle.std.specs.List.{AllByRecursion}
use Rattle.dxc_outside.specs.declared.clock.Moment.{Moment}
use Rattle.dxc_model.specs.declared.user.SessionUser.{SessionUser}
use Rattle.user_admin.specs.declared.op.UserEntry.{UserEntry}
use Rattle.user_admin.specs.Histories.{IsLegal, Opening, failures, users_after}
use Rattle.user_admin.specs.Users.{Users}
use Rattle.craft_session.specs.Asks.{Language, user_after}
use Rattle.craft_session.specs.Consulting.{Consults}
use Rattle.craft_session.specs.Happenings.{Happening, Request, unit, quiet}
use Rattle.craft_session.specs.PlainUsers.{HearsOf}
use Rattle.switch_laws.specs.Placed.{placed}

-- one session as the users know it: what has happened in it, and who is logged in
pub record Hearing (U : Type 0) : Type 0 where
  pub happenings : List (Happening U)
  pub user : SessionUser

-- the users, and of each place its sessions, the newest first
pub record Office (U : Type 0) : Type 0 where
  pub users : Users
  pub sessions : ℕ → List (Hearing U)

abbrev pub with_hearings : {U : Type 0} → ℕ → List (Hearing U) → Office U → Office U
with_hearings p ss e = record e { sessions = placed p ss e.sessions }

-- a session that begins
abbrev pub heard_nothing : {U M : Type 0} → Language U M → Hearing U
heard_nothing l = record { happenings = []; user = l.first }

abbrev pub with_happening : {U : Type 0} → Happening U → SessionUser → Hearing U → Hearing U
with_happening h user s = record { happenings = s.happenings ++ h ∷ []; user = user }

-- What the office comes to: each unit hears what the users tell as they stand, and nothing else is done meanwhile.
module _ {U M : Type 0} (l : Language U M) (sid : List ℕ) (excused : Type 0) (start : Office U) where
  pub data AreHeard : Office U → Type 0 where
    users_open : AreHeard start
    caller_comes : (e : Office U) (p : ℕ)
        → AreHeard e
        → AreHeard (with_hearings p (heard_nothing l ∷ e.sessions p) e)
    unit_asks : (e : Office U) (p : ℕ) (s : Hearing U) (older : List (Hearing U)) (u : U) (next : Users)
        → e.sessions p ≡ s ∷ older
        → HearsOf sid excused e.users (l.wants s.user u) (l.heard u) next
        → AreHeard e
        → AreHeard (with_hearings p (with_happening (unit u) (user_after s.user (l.asks s.user u)) s ∷ older)
        (record e { users = next }))
    nothing_comes : (e : Office U) (p : ℕ) (s : Hearing U) (older : List (Hearing U))
        → e.sessions p ≡ s ∷ older
        → AreHeard e
        → AreHeard (with_hearings p (with_happening quiet s.user s ∷ older) e)

-- What the sessions of a place heard along the users' history, the newest first.
pub data Listens {U M : Type 0} (l : Language U M) (place : ℕ) (o : Opening) : List UserEntry → List (Hearing U) → Type 0 where
  nobody_asked : Listens l place o [] []
  others_asked : (g : List UserEntry) (ss : List (Hearing U)) (e : UserEntry)
      → e.place ≢ place
      → Listens l place o g ss
      → Listens l place o (g ++ e ∷ []) ss
  consulted_on : (g then : List UserEntry) (ss : List (Hearing U)) (hs : List (Happening U)) (s : SessionUser)
      → Consults l place o g hs then s
      → Listens l place o g ss
      → Listens l place o then (record { happenings = hs; user = s } ∷ ss)

-- What the sessions of so many places heard along one legal history of the users is what one list of users tells, one happening at a
-- time.
abbrev pub AreHeardTogether : Type 0
AreHeardTogether = (l : Language Request Moment) (excused : Bool) (o : Opening) (h : List UserEntry)
    (places : ℕ) (sessions : ℕ → List (Hearing Request))
    → IsLegal o h → (1 ≤ failures h → IsTrue excused)
    → 0 < places → AllByRecursion (λ e. e.place < places) h
    → ((p : ℕ) → p < places → Listens l p o h (sessions p))
    → ((p : ℕ) → places ≤ p → sessions p ≡ [])
    → AreHeard l o.shelf.sid (IsTrue excused) (record { users = o.users; sessions = λ p. [] })
    (record { users = users_after o h; sessions = sessions })
