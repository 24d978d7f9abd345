-- The users as a session hears of them that is alone: one list of users, one unit after the other.
use Rattle.std.specs.Prelude.{◌≡◌, ◌≤◌, ◌<◌, ◌+◌, ◌*◌, ℕ, true, List, [], ◌∷◌}
use Rattle.std.specs.List.{AllByRecursion}
use Rattle.dxc_causes.specs.Causes.{last}
use Rattle.dxc_disk.specs.Disks.{DiskState}
use Rattle.dxc_model.specs.declared.user.SessionUser.{SessionUser}
use Rattle.user_admin.specs.declared.op.UserEntry.{UserEntry}
use Rattle.user_admin.specs.declared.op.UserOutcome.{UserOutcome}
use Rattle.user_admin.specs.declared.op.UserOutcome.TheVariants.{Done, Denied, Failed, Answered}
use Rattle.user_admin.specs.Changes.{after}
use Rattle.user_admin.specs.Histories.{IsLegal, MayCome, Opening, change_in, failures, users_after}
use Rattle.user_admin.specs.States.{most_room}
use Rattle.user_admin.specs.Users.{Users}
use Rattle.user_admin.specs.Verdicts.{login}
use Rattle.craft_session.specs.Asks.{Language, user_after}
use Rattle.craft_session.specs.Consulting.{Consults}
use Rattle.craft_session.specs.Happenings.{Happening, unit, quiet}
use Rattle.craft_session.specs.Hearing.{Heard, Wanted, unasked, found, nothing, to_look, to_do, heard_of}
use Rattle.journal_core.specs.Rooms.{opening_room}

-- a fault of the disk has an excuse
abbrev pub IsExcusedBy : Type 0 → UserOutcome → Type 0
IsExcusedBy excused (Done c) = Unit {0}
IsExcusedBy excused (Denied q) = Unit {0}
IsExcusedBy excused (Failed q) = excused
IsExcusedBy excused Answered = Unit {0}

-- What is heard of what is wanted of these users, and the users then: of an operation the first cause that holds, else the change, or a fault of the disk
-- that has an excuse.
abbrev pub HearsOf : List ℕ → Type 0 → Users → Wanted → Heard → Users → Type 0
HearsOf sid excused users nothing x next = (x ≡ unasked) × (next ≡ users)
HearsOf sid excused users (to_look vacant uid pid) x next = (x ≡ found (login uid pid users)) × (next ≡ users)
HearsOf sid excused users (to_do o) x next = (outcome : UserOutcome) × MayCome sid o users outcome × IsExcusedBy excused outcome × (x ≡ heard_of o users outcome) × (next ≡ after (change_in outcome) users)

-- what was heard while this happened, from these users and this session's user on, to those; of the program each unit was told just what it asks
abbrev pub PlaysUsers : {U M : Type 0} → Language U M → List ℕ → Type 0 → Users → SessionUser → List (Happening U) → Users → SessionUser → Type 0
PlaysUsers l sid excused users s [] then_users then_s = (then_users ≡ users) × (then_s ≡ s)
PlaysUsers l sid excused users s (unit u ∷ hs) then_users then_s = (next : Users) × HearsOf sid excused users (l.wants s u) (l.heard u) next × (l.is_told s u ≡ true) × PlaysUsers l sid excused next (user_after s (l.asks s u)) hs then_users then_s
PlaysUsers l sid excused users s (quiet ∷ hs) then_users then_s = PlaysUsers l sid excused users s hs then_users then_s

-- what opening and so many commands may take of it
abbrev pub users_room_of : ℕ → ℕ
users_room_of commands = opening_room + most_room * commands

-- a users' disk of this margin and room isn't sound for opening and so many commands
abbrev pub IsUsersUnsoundBy : (margin room commands : ℕ) → Type 0
IsUsersUnsoundBy margin room commands = margin ≡ 0 → users_room_of commands < room → ⊥

-- the opening of a users' disk: it took of the disk's room what an opening may, and each fault in it lowered the margin
pub record IsUsersOpeningOf (d : DiskState) (o : Opening) : Type 0 where
  pub later : d.faults ≤ o.faults
  pub room : opening_room ≤ d.room → d.room ≤ o.room + opening_room
  pub margin : opening_room ≤ d.room → o.faults + o.margin ≤ d.faults + d.margin
  pub counts : 0 < o.room → o.faults < last

-- Of a session that is alone, while this happened: a legal users' history of its entries alone, after so many commands; where the disk that was handed
-- out has room for them, at most as many of its operations failed by the disk as its margin was; and what was heard is what one list of users tells.
pub record ConsultsAlone {U M : Type 0} (l : Language U M) (disk : DiskState) (place : ℕ) (o : Opening) (commands : ℕ) (hs : List (Happening U)) (s : SessionUser) : Type 0 where
  pub history : List UserEntry
  pub heard : Consults l place o [] hs history s
  pub legal : IsLegal o history
  pub own : AllByRecursion (λ e. e.place ≡ place) history
  pub few : users_room_of commands < disk.room → failures history ≤ disk.margin
  pub plays : PlaysUsers l o.shelf.sid (IsUsersUnsoundBy disk.margin disk.room commands) o.users l.first hs (users_after o history) s
