-- The places of one state, before any of them took a turn.
use Rattle.std.specs.Prelude.{◌≡◌, ℕ, ◌+◌, true, List, [], ◌∷◌}
use base.Stored.{Gv}
use Rattle.turnstile.specs.Passing.{TurnstileView, Ident, Token}
use Rattle.fabric_words.specs.Seats.{FabricId}
use Rattle.shelf_file.specs.Contents.{Contents}
use Rattle.user_admin.specs.Coding.{opening_coded as users_coded}
use Rattle.user_admin.specs.Histories.{Opening as UsersOpening}
use Rattle.xc_core.specs.Coding.{opening_coded}
use Rattle.xc_core.specs.States.{Opening}
use Rattle.craft_session.specs.Seats.{PlaceAt}

-- a pass of a turnstile that has seen nothing
abbrev pub fresh_pass : Ident → ℕ → Token
fresh_pass id n = record { number = n; free = true; id = id; seen = []; stamps = []; heard = 0 }

-- such passes from this number on
abbrev pub AreFresh : Ident → ℕ → List Token → Type 0
AreFresh id n [] = Unit {0}
AreFresh id n (p ∷ ps) = (p ≡ fresh_pass id n) × AreFresh id (n + 1) ps

-- a turnstile that was made with a state of the opening with this code, for so many passes
abbrev pub IsMadeFor : Gv → ℕ → Ident → Type 0
IsMadeFor opening passes id = (id.first ≡ opening) × (id.passes ≡ passes)

-- the opening is on this fabric, and of the shelf's shape
pub record IsAtOpening (o : Opening) (s : Contents) (i : FabricId) : Type 0 where
  pub fabric : o.site.fabric ≡ i
  pub shape : o.first.fold.table.shape ≡ s.shape

-- the turnstiles that places are of, that of the state and that of the users, and how many places there are
pub record Turnstiles : Type 0 where
  pub state : Ident
  pub users : Ident
  pub places : ℕ

abbrev pub turnstiles_of : {X Y : Type 0} → TurnstileView X → TurnstileView Y → Turnstiles
turnstiles_of t u = record { state = t.id; users = u.id; places = t.passes }

-- the place of this number at these turnstiles, which has seen nothing of the histories
abbrev pub place_at : Contents → Opening → UsersOpening → Turnstiles → ℕ → PlaceAt
place_at s o p t n = record { shelf = s; seat = record { opening = o; turnstile = t.state; place = n; places = t.places; seen = []; stamps = []; heard = 0 }; users = record { opening = p; turnstile = t.users; place = n; places = t.places; seen = []; stamps = []; heard = 0 } }

-- such places from this number on
abbrev pub ArePlaces : Contents → Opening → UsersOpening → Turnstiles → ℕ → List PlaceAt → Type 0
ArePlaces s o u t n [] = Unit {0}
ArePlaces s o u t n (p ∷ ps) = (p ≡ place_at s o u t n) × ArePlaces s o u t (n + 1) ps

-- so many places from number 0 on, all of one turnstile of the state and of one of the users, which were made for them with these openings
pub record HasPlaces (s : Contents) (o : Opening) (u : UsersOpening) (places : ℕ) (ps : List PlaceAt) : Type 0 where
  pub turnstiles : Turnstiles
  pub count : turnstiles.places ≡ places
  pub each : ArePlaces s o u turnstiles 0 ps
  pub state_made : IsMadeFor (opening_coded.code o) places turnstiles.state
  pub users_made : IsMadeFor (users_coded.code u) places turnstiles.users

-- the one place of its turnstiles
pub record IsLonePlace (s : Contents) (o : Opening) (u : UsersOpening) (p : PlaceAt) : Type 0 where
  pub turnstiles : Turnstiles
  pub count : turnstiles.places ≡ 1
  pub place : p ≡ place_at s o u turnstiles 0
