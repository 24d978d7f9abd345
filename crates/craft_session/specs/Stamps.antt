-- How a session stands where it takes a moment from its clock for a message.
use Rattle.std.specs.Prelude.{◌≡◌, ◌⊎◌, List}
use Rattle.dxc_outside.specs.declared.clock.Moment.{Moment}
use Rattle.dxc_outside.specs.Links.{LinkState}
use Rattle.craft_session.specs.Seats.{SeatAt, UserSeatAt}

-- the moments that were to come, the link, and what both seats of the place had seen
pub record Stamp : Type 0 where
  pub coming : List Moment
  pub link : LinkState
  pub seat : SeatAt
  pub users : UserSeatAt

abbrev pub stamp_at : List Moment → LinkState → SeatAt → UserSeatAt → Stamp
stamp_at coming link seat users = record { coming = coming; link = link; seat = seat; users = users }

-- either nothing was written and no moment was taken, or the first moment was taken so
abbrev pub AreStamped : (Stamp → Type 0) → Stamp → LinkState → List Moment → Type 0
AreStamped stamped s link coming = ((link ≡ s.link) × (coming ≡ s.coming)) ⊎ stamped s
