-- Whether the sessions of who is logged in were ended by others.
use Rattle.std.specs.Prelude.{◌≡◌, ◌≤◌, ◌<◌, ◌++◌, ℕ, Bool, true, false, List}
use base.Stored.{Gv}
use Rattle.dxc_outside.specs.declared.clock.Moment.{Moment}
use Rattle.dxc_outside.specs.Links.{LinkState}
use Rattle.dxc_model.specs.declared.user.SessionUser.{SessionUser}
use Rattle.dxc_model.specs.declared.user.SessionUser.TheVariants.{Nobody, User}
use Rattle.user_admin.specs.declared.op.UserEntry.{UserEntry}
use Rattle.user_admin.specs.Occupants.{is_cancelled}
use Rattle.user_admin.specs.Turns.{TurnedBack}
use Rattle.craft_session.specs.declared.patience.Patience.{Patience}
use Rattle.craft_session.specs.declared.patience.Patience.TheVariants.{Limited}
use Rattle.craft_session.specs.Asks.{Language}
use Rattle.craft_session.specs.Happenings.{Request}
use Rattle.craft_session.specs.Seats.{SeatAt, UserSeatAt}
use Rattle.craft_session.specs.Sessions.{IsEnded}
use Rattle.craft_session.specs.Waiting.{ForEach, Read}
use Rattle.craft_session.specs.declared.lent.Lent.{Ghosts as LentOf}
use Rattle.craft_session.specs.Lending.{Things}
use Rattle.craft_session.specs.Meanings.{language_for}

-- nobody is logged in, or by the users' history nobody ended the sessions of who logged in at the place last
abbrev pub IsUnended : ℕ → SessionUser → List UserEntry → Type 0
IsUnended place Nobody h = Unit {0}
IsUnended place (User uid class) h = is_cancelled place h ≡ false

-- who looks: whether callers come there, who is logged in, and what the seat had seen
pub record Looking : Type 0 where
  pub patience : Patience
  pub user : SessionUser
  pub seat : UserSeatAt

abbrev pub looking : Patience → SessionUser → UserSeatAt → Looking
looking patience user seat = record { patience = patience; user = user; seat = seat }

-- After what a seat had seen stand others' entries alone, and this is what they tell of the sessions of who is logged in. Where no callers come it
-- isn't asked whether they go on.
pub record Heeded (x : Looking) (h : List UserEntry) (then_seen : List Gv) (cancelled : Bool) : Type 0 where
  pub back : TurnedBack x.seat.opening x.seat.place h then_seen
  pub ended : cancelled ≡ true → IsEnded x.seat.place x.user (h ++ back.later)
  pub goes_on : cancelled ≡ false → x.patience ≡ Limited → IsUnended x.seat.place x.user (h ++ back.later)

module _ (l : Language Request Moment) (begun : LinkState → Type 0) (told clock_told : Type 0) (k : LinkState) (c : List Moment) (old : SeatAt) (users : UserSeatAt) where
  -- Each read that was counted began where the place had seen by then that nobody had ended the sessions of who was logged in.
  abbrev pub Heeds : (j : LinkState) → Type 0
  Heeds j = ForEach l begun told clock_told k c old users (λ b. (number : ℕ) → k.reads ≤ number → number < j.reads → (r : Read l begun told clock_told k c old users b number) × IsUnended b.place r.now.attending.user r.served.past.consulted.history)

-- of what is lent to a session that begins with this user
abbrev pub IsHeeding : {T : Type 0} (world : LentOf T) (first : SessionUser) (old : Things world.lent) → LinkState → Type 0
IsHeeding world first old j = let w = world.lent in Heeds (language_for first old.0.shelf) w.link.begun w.link.told w.clock.told (w.link.state old.1) (w.clock.coming old.2) old.0.seat old.0.users j
