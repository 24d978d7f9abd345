-- How long a session goes on where somebody is logged in and nothing comes.
use Rattle.std.specs.Prelude.{◌≡◌, ◌⊎◌, ◌≤◌, ◌<◌, ◌+◌, ◌*◌, ◌==◌, if◌then◌else◌, ℕ, Option, Some, None, List, ◌∷◌, ◌++◌, replicate}
use Rattle.dxc_causes.specs.Causes.{last}
use Rattle.dxc_outside.specs.declared.clock.Moment.{Moment}
use Rattle.dxc_outside.specs.Items.{Item, byte, quiet}
use Rattle.dxc_outside.specs.Links.{LinkState}
use Rattle.dxc_model.specs.declared.user.SessionUser.{SessionUser}
use Rattle.dxc_model.specs.declared.user.SessionUser.TheVariants.{Nobody, User}
use Rattle.shelf_file.specs.declared.idle.IdleLimits.{IdleLimits}
use Rattle.shelf_file.specs.Shelves.{limit_for}
use Rattle.craft_session.specs.declared.lent.Lent.{Ghosts as LentOf}
use Rattle.craft_session.specs.Asks.{Language}
use Rattle.craft_session.specs.Happenings.{Request}
use Rattle.craft_session.specs.Lending.{Things}
use Rattle.craft_session.specs.Meanings.{language_for}
use Rattle.craft_session.specs.Seats.{SeatAt, UserSeatAt}
use Rattle.craft_session.specs.Sessions.{Beginning}
use Rattle.craft_session.specs.Waiting.{ForEach, Read}

-- how many minutes may pass in which nothing comes from one who is logged in
abbrev pub limit_of : IdleLimits → SessionUser → Option ℕ
limit_of limits Nobody = None
limit_of limits (User uid class) = limit_for limits class

-- how many reads in a row brought nothing, after one more: 16 tells that it brought nothing
abbrev pub silent_after : (silent read : ℕ) → ℕ
silent_after silent read = if read == 16 then silent + 1 else 0

-- more reads in a row brought nothing than in the minutes of the user's limit
abbrev pub IsTooLong : IdleLimits → SessionUser → ℕ → Type 0
IsTooLong limits user silent = (minutes : ℕ) × (limit_of limits user ≡ Some minutes) × (300 * minutes < silent)

-- no more than in these
abbrev pub IsInTime : IdleLimits → SessionUser → ℕ → Type 0
IsInTime limits user silent = (minutes : ℕ) → limit_of limits user ≡ Some minutes → silent ≤ 300 * minutes

-- a session from one moment of its link and its clock on, at seats of a place
module _ (l : Language Request Moment) (begun : LinkState → Type 0) (told clock_told : Type 0) (k : LinkState) (c : List Moment) (old : SeatAt) (users : UserSeatAt) where
  -- A read began with this user logged in, and from it on so many reads brought nothing. Where the link's count of reads stands at its last value,
  -- how many there were isn't told.
  pub record WasSilent (j : LinkState) (user : SessionUser) (many : ℕ) (b : Beginning) : Type 0 where
    pub number : ℕ
    pub since : j.reads < last → number + many ≡ j.reads
    pub read : Read l begun told clock_told k c old users b number
    pub logged_in : read.now.attending.user ≡ user
    pub nothing : told → read.link.left ≡ replicate many quiet ++ j.left

  -- a read that brought something, and no more reads after it than these
  pub record WasHeard (j : LinkState) (many : ℕ) (b : Beginning) : Type 0 where
    pub number : ℕ
    pub since : j.reads ≤ number + 1 + many
    pub read : Read l begun told clock_told k c old users b number
    pub something : told → (x : ℕ) × (rest : List Item) × (read.link.left ≡ byte x ∷ rest)

  -- No more reads than these were made since its beginning, or since one that brought something.
  abbrev pub IsHeardBy : (j : LinkState) (many : ℕ) → Type 0
  IsHeardBy j many = (j.reads ≤ k.reads + many) ⊎ ForEach l begun told clock_told k c old users (WasHeard j many)

  -- the last read began with this user logged in
  pub record WasLast (j : LinkState) (user : SessionUser) (b : Beginning) : Type 0 where
    pub number : ℕ
    pub since : j.reads ≤ number + 1
    pub read : Read l begun told clock_told k c old users b number
    pub logged_in : read.now.attending.user ≡ user

  -- it was silent for longer than the limit of the user who was logged in
  pub record WasIdle (limits : IdleLimits) (j : LinkState) : Type 0 where
    pub user : SessionUser
    pub many : ℕ
    pub too_long : IsTooLong limits user many
    pub silent : ForEach l begun told clock_told k c old users (WasSilent j user many)

  -- Who was logged in at the last read wasn't waited for for longer than the limit and one read more.
  abbrev pub WasAwake : (limits : IdleLimits) (j : LinkState) → Type 0
  WasAwake limits j = (j.reads ≤ k.reads) ⊎ ((user : SessionUser) × ForEach l begun told clock_told k c old users (WasLast j user) × ((minutes : ℕ) → limit_of limits user ≡ Some minutes → IsHeardBy j (300 * minutes + 1)))

-- of what is lent to a session that begins with this user
abbrev pub IsIdle : {T : Type 0} (world : LentOf T) (first : SessionUser) (old : Things world.lent) → LinkState → Type 0
IsIdle world first old j = let w = world.lent in WasIdle (language_for first old.0.shelf) w.link.begun w.link.told w.clock.told (w.link.state old.1) (w.clock.coming old.2) old.0.seat old.0.users old.0.shelf.idle j

-- who is logged in and silent is let go by the limit of the shelf
abbrev pub IsAwake : {T : Type 0} (world : LentOf T) (first : SessionUser) (old : Things world.lent) → LinkState → Type 0
IsAwake world first old j = let w = world.lent in WasAwake (language_for first old.0.shelf) w.link.begun w.link.told w.clock.told (w.link.state old.1) (w.clock.coming old.2) old.0.seat old.0.users old.0.shelf.idle j
