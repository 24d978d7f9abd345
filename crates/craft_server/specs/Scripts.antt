-- What a script did: one session, alone on what the journals came to.
use Rattle.std.specs.Prelude.{◌≡◌, ◌≢◌, ◌↔◌, ◌^◌, ◌⊎◌, ℕ, List, IsTrue}
use Rattle.dxc_causes.specs.Causes.{Rose, Counted}
use Rattle.dxc_disk.specs.Disks.{DiskState}
use Rattle.dxc_outside.specs.declared.clock.Moment.{Moment}
use Rattle.dxc_outside.specs.Links.{LinkState}
use Rattle.dxc_model.specs.declared.user.SessionUser.{SessionUser}
use Rattle.dxc_leaving.specs.Values.{AnyValue, any_value}
use Rattle.shelf_file.specs.Contents.{Contents}
use Rattle.user_admin.specs.Histories.{Opening as UsersOpening}
use Rattle.xc_core.specs.States.{Opening}
use Rattle.craft_session.specs.declared.end.SessionEnd.{SessionEnd}
use Rattle.craft_session.specs.Meanings.{language_for}
use Rattle.craft_session.specs.Places.{Turnstiles, place_at}
use Rattle.craft_session.specs.Scripts.{IsScript}
use Rattle.craft_session.specs.Seats.{IsSameSeat, IsSameUserSeat, PlaceAt}
use Rattle.craft_session.specs.Sessions.{IsPrompt, IsServed}
use Rattle.dxc_args.specs.declared.status.Status.{Status}
use Rattle.dxc_args.specs.declared.status.Status.TheVariants.{Done, Link, NoMemory, Stopped, Spent}
use Rattle.craft_server.specs.Statuses.{status_of}

-- one session from the opening on that began with this user, by its end, and the status; so many stops were before and after it
pub record RanSession (disk_told told clock_told : Type 0) (begun : LinkState → Type 0) (disk users_disk : DiskState) (first : SessionUser) (s : Contents) (o : Opening) (p : UsersOpening) (k l : LinkState) (c d : List Moment) (stops later : ℕ) (status : Status) : Type 0 where
  pub turnstiles : Turnstiles
  pub alone : turnstiles.places ≡ 1
  pub end : SessionEnd
  pub status_is : status ≡ status_of end
  pub wrote : IsScript disk_told disk users_disk 0 o p clock_told c d (language_for first s) told k l end
  -- each read began where all that was read before had been answered
  pub prompt : IsPrompt (language_for first s) begun told clock_told k l c (place_at s o p turnstiles 0).seat (place_at s o p turnstiles 0).users
  pub ended : (status ≡ Done) ↔ IsTrue l.ended
  pub cause : status ≡ Link → Rose k.read_faults l.read_faults ⊎ Rose k.write_faults l.write_faults
  pub stopped : status ≡ Stopped → Rose stops later
  pub unstopped : status ≢ Stopped → later ≡ stops
  pub spent : status ≡ Spent → Counted k.reads l.reads (2 ^ 32)

-- The same, and the place was let go as its one session left it: nothing was done at the state or at the users after the session's end.
pub record RanAndLeft (disk_told told clock_told : Type 0) (begun : LinkState → Type 0) (gone : AnyValue → Type 0) (disk users_disk : DiskState) (first : SessionUser) (s : Contents) (o : Opening) (p : UsersOpening) (k l : LinkState) (c d : List Moment) (stops later : ℕ) (status : Status) : Type 0 where
  pub ran : RanSession disk_told told clock_told begun disk users_disk first s o p k l c d stops later status
  pub left : PlaceAt
  pub let_go : gone (any_value left)
  pub session : IsServed (language_for first s) told clock_told k l c d (place_at s o p ran.turnstiles 0).seat left.seat (place_at s o p ran.turnstiles 0).users left.users ran.end
  pub seat : IsSameSeat (place_at s o p ran.turnstiles 0).seat left.seat
  pub users : IsSameUserSeat (place_at s o p ran.turnstiles 0).users left.users

-- memory was wanting for the place, and nothing was read or written
pub record IsUnplaced (k l : LinkState) (c d : List Moment) (stops later : ℕ) (status : Status) : Type 0 where
  pub no_memory : status ≡ NoMemory
  pub link : l ≡ k
  pub clock : d ≡ c
  pub unstopped : later ≡ stops
