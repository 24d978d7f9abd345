-- How long a session goes on where nobody logs in.
use Rattle.std.specs.Prelude.{◌≡◌, ◌≢◌, ◌⊎◌, ◌≤◌, ◌<◌, ◌+◌, ℕ, List, min}
use Rattle.dxc_causes.specs.Causes.{last}
use Rattle.dxc_outside.specs.declared.clock.Moment.{Moment}
use Rattle.dxc_outside.specs.Links.{LinkState}
use Rattle.dxc_model.specs.declared.user.SessionUser.{SessionUser}
use Rattle.dxc_model.specs.declared.user.SessionUser.TheVariants.{Nobody, User}
use Rattle.user_admin.specs.Turns.{Saw as SawUsers}
use Rattle.xc_core.specs.Seeing.{Saw}
use Rattle.craft_session.specs.declared.lent.Lent.{Ghosts as LentOf}
use Rattle.craft_session.specs.Asks.{Language}
use Rattle.craft_session.specs.Happenings.{Request}
use Rattle.craft_session.specs.Lending.{Things}
use Rattle.craft_session.specs.Meanings.{language_for}
use Rattle.craft_session.specs.Seats.{SeatAt, UserSeatAt}
use Rattle.craft_session.specs.Sessions.{Beginning, IsAt, IsFrom, ReadServed}

-- how long nobody has been logged in, after one more read, which counts so much and began with this user logged in
abbrev pub waited_after : SessionUser → (waited read : ℕ) → ℕ
waited_after Nobody waited read = min (waited + read) 65535
waited_after (User uid class) waited read = 0

-- a session from one moment of its link and its clock on, at seats of a place
module _ (l : Language Request Moment) (begun : LinkState → Type 0) (told clock_told : Type 0) (k : LinkState) (c : List Moment) (old : SeatAt) (users : UserSeatAt) where
  -- whatever histories the seats had seen then
  abbrev pub ForEach : (Beginning → Type 0) → Type 0
  ForEach P = (b : Beginning) → IsAt b old users → Saw b.opening old.seen b.before → SawUsers b.users users.seen b.users_before → IsFrom b old users → P b

  -- the read of this number began where the session had served all that was read before
  abbrev pub Read : Beginning → ℕ → Type 0
  Read b number = ReadServed l begun told clock_told k c b number

  -- a read that began with somebody logged in, and no more reads after it than these
  pub record WasAttended (j : LinkState) (many : ℕ) (b : Beginning) : Type 0 where
    pub number : ℕ
    pub since : j.reads ≤ number + 1 + many
    pub read : Read b number
    pub somebody : read.now.attending.user ≢ Nobody

  -- No more reads than these were made since its beginning, or since one that began with somebody logged in.
  abbrev pub IsLetGoBy : (j : LinkState) (many : ℕ) → Type 0
  IsLetGoBy j many = (j.reads ≤ k.reads + many) ⊎ ForEach (WasAttended j many)

  -- Each of the last reads, so many, began with nobody logged in. Where the link's count of reads stands at its last value, nothing is told.
  abbrev pub WasAlone : (j : LinkState) (many : ℕ) → Type 0
  WasAlone j many = j.reads < last → ForEach (λ b. (number : ℕ) → j.reads ≤ number + many → number < j.reads → (r : Read b number) × (r.now.attending.user ≡ Nobody))

  -- 300 reads were made, and the last of them began with nobody logged in
  pub record WasUnattended (j : LinkState) : Type 0 where
    pub reads : min (k.reads + 300) last ≤ j.reads
    pub alone : WasAlone j 300

-- of what is lent to a session that begins with this user
abbrev pub IsUnattended : {T : Type 0} (world : LentOf T) (first : SessionUser) (old : Things world.lent) → LinkState → Type 0
IsUnattended world first old j = let w = world.lent in WasUnattended (language_for first old.0.shelf) w.link.begun w.link.told w.clock.told (w.link.state old.1) (w.clock.coming old.2) old.0.seat old.0.users j

-- it doesn't go on for more than 4800 reads where nobody logs in
abbrev pub IsLetGo : {T : Type 0} (world : LentOf T) (first : SessionUser) (old : Things world.lent) → LinkState → Type 0
IsLetGo world first old j = let w = world.lent in IsLetGoBy (language_for first old.0.shelf) w.link.begun w.link.told w.clock.told (w.link.state old.1) (w.clock.coming old.2) old.0.seat old.0.users j 4800
