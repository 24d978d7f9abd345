-- What a session did with what it was lent, and why it ended.
use Rattle.std.specs.Prelude.{◌≡◌, ◌≢◌, ◌≤◌, ◌+◌, ◌^◌, ◌↔◌, [], IsTrue}
use Rattle.dxc_causes.specs.Causes.{Rose, Counted}
use Rattle.dxc_outside.specs.Links.{LinkState}
use Rattle.user_admin.specs.Resting.{SawRest}
use Rattle.user_admin.specs.Turns.{AreNumbered as AreUsersNumbered}
use Rattle.xc_core.specs.Turns.{AreNumbered, SawNoneAstray}
use Rattle.dxc_model.specs.declared.user.SessionUser.{SessionUser}
use Rattle.dxc_model.specs.declared.user.SessionUser.TheVariants.{Nobody}
use Rattle.craft_session.specs.declared.end.SessionEnd.{SessionEnd}
use Rattle.craft_session.specs.declared.end.SessionEnd.TheVariants.{End, ReadFault, WriteFault, Stopped, Spent, Unattended, Idle}
use Rattle.craft_session.specs.declared.lent.Lent.{Ghosts as LentOf}
use Rattle.craft_session.specs.Gated.{AreEntered}
use Rattle.craft_session.specs.Lending.{Things}
use Rattle.craft_session.specs.Meanings.{language_for}
use Rattle.craft_session.specs.Seats.{IsSameSeat, IsSameUserSeat, PlaceAt}
use Rattle.craft_session.specs.Sessions.{IsPrompt, IsServed}
use Rattle.craft_session.specs.Stamps.{stamp_at}
use Rattle.craft_session.specs.Timely.{WasTimely, telling}
use Rattle.craft_session.specs.Idling.{IsIdle}
use Rattle.craft_session.specs.Waiting.{IsUnattended}

-- the same place, and what it has seen are histories
pub record StaysPlace (disk_told : Type 0) (old new : PlaceAt) : Type 0 where
  pub shelf : new.shelf ≡ old.shelf
  pub seat : IsSameSeat old.seat new.seat
  pub users : IsSameUserSeat old.users new.users
  pub numbers : AreNumbered new.seat.places new.seat.seen
  pub users_numbers : AreUsersNumbered new.users.places new.users.seen
  -- it has brought the users' keeper home
  pub users_rest : SawRest new.users.place new.users.seen
  pub astray : SawNoneAstray disk_told new.seat.seen

-- why a session over a link ended, by the link before and after it, whose content is told or not
pub record EndedFor (told : Type 0) (k l : LinkState) (end : SessionEnd) : Type 0 where
  pub ended : (end ≡ End) ↔ IsTrue l.ended
  pub all_read : told → end ≡ End → l.left ≡ []
  pub read_fault : end ≡ ReadFault → Rose k.read_faults l.read_faults
  pub no_read_fault : end ≢ ReadFault → l.read_faults ≡ k.read_faults
  pub write_fault : end ≡ WriteFault → Rose k.write_faults l.write_faults
  pub no_write_fault : end ≢ WriteFault → l.write_faults ≡ k.write_faults
  pub spent : end ≡ Spent → Counted k.reads l.reads (2 ^ 32)
  pub few : l.reads ≤ k.reads + 2 ^ 32

-- what a session did that began with this user, from one moment of what it was lent to the other, and why it ended
pub record ServedFor {T : Type 0} (world : LentOf T) (first : SessionUser) (old new : Things world.lent) (end : SessionEnd) : Type 0 where
  pub place : StaysPlace world.lent.disk.told old.0 new.0
  pub session : let w = world.lent in IsServed (language_for first old.0.shelf) w.link.told w.clock.told (w.link.state old.1) (w.link.state new.1) (w.clock.coming old.2) (w.clock.coming new.2) old.0.seat new.0.seat old.0.users new.0.users end
  pub prompt : let w = world.lent in IsPrompt (language_for first old.0.shelf) w.link.begun w.link.told w.clock.told (w.link.state old.1) (w.link.state new.1) (w.clock.coming old.2) old.0.seat old.0.users
  pub timely : let w = world.lent in WasTimely (language_for first old.0.shelf) (telling w.link.told w.clock.told w.clock.stamped) (stamp_at (w.clock.coming old.2) (w.link.state old.1) old.0.seat old.0.users) (stamp_at (w.clock.coming new.2) (w.link.state new.1) new.0.seat new.0.users) end
  pub asked : AreEntered old.0.seat old.0.users (world.lent.gate.asked old.3 new.3) new.0.seat.seen new.0.users.seen
  pub unattended : end ≡ Unattended → IsUnattended world first old (world.lent.link.state new.1)
  pub idle : end ≡ Idle → IsIdle world first old (world.lent.link.state new.1)
  pub why : EndedFor world.lent.link.told (world.lent.link.state old.1) (world.lent.link.state new.1) end
  pub hung_up : world.lent.link.hung_up new.1 ≡ world.lent.link.hung_up old.1
  pub stopped : end ≡ Stopped → Rose (world.lent.gate.stops old.3) (world.lent.gate.stops new.3)
  pub unstopped : end ≢ Stopped → world.lent.gate.stops new.3 ≡ world.lent.gate.stops old.3
  pub later : world.lent.gate.stops old.3 ≤ world.lent.gate.stops new.3

-- the same of one that began with nobody
abbrev pub Served : {T : Type 0} (world : LentOf T) (old new : Things world.lent) → SessionEnd → Type 0
Served world old new end = ServedFor world Nobody old new end
