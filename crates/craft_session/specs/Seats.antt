-- What a seat at the state is, a seat at the users, and a place.
use Rattle.std.specs.Prelude.{◌≡◌, ℕ, List, ◌++◌, length, refl}
use Rattle.std.specs.Coded.{Coded, code_by, coded×, coded_ℕ}
use base.Stored.{Gv}
use Rattle.turnstile.specs.Dating.{GoOn, Stamp, newest, stamps_code}
use Rattle.turnstile.specs.Passing.{TurnstileView, Ident, Token, ident_code, seen_code}
use Rattle.dxc_disk.specs.Disks.{DiskState}
use Rattle.dxc_model.specs.declared.entry.Entry.{Entry}
use Rattle.fabric_words.specs.Seats.{FabricId}
use Rattle.shelf_file.specs.Contents.{Contents}
use Rattle.shelf_file.specs.contracts.shelf.Shelf as shelf_row
use Rattle.user_admin.specs.declared.op.UserEntry.{UserEntry}
use Rattle.user_admin.specs.declared.shared.SharedUsers.{SharedUsers}
use Rattle.user_admin.specs.Coding.{opening_coded as users_coded}
use Rattle.user_admin.specs.Histories.{Opening as UsersOpening}
use Rattle.user_admin.specs.Resting.{IsAtRest}
use Rattle.user_admin.specs.Shared.{opening_at as users_opening}
use Rattle.user_admin.specs.Turns.{HasPass as HasUsersPass, Saw as SawUsers}
use Rattle.xc_core.specs.declared.state.State.{State}
use Rattle.xc_core.specs.Coding.{opening_coded}
use Rattle.xc_core.specs.Seeing.{Rests, Saw}
use Rattle.xc_core.specs.States.{Opening, opening_of}
use Rattle.xc_core.specs.Turns.{HasPass, SawNoneAstray}

-- where the history began, which turnstile it is of, the number of the place, how many places there are, the codes of what it has seen of the history and
-- their stamps, and the highest date that it had heard of at the users
pub record SeatAt : Type 0 where
  pub opening : Opening
  pub turnstile : Ident
  pub place : ℕ
  pub places : ℕ
  pub seen : List Gv
  pub stamps : List Stamp
  pub heard : ℕ

abbrev pub seat_coded : Coded SeatAt
seat_coded = code_by (Opening × (Ident × (ℕ × (ℕ × (List Gv × (List Stamp × ℕ)))))) (coded× opening_coded (coded× ident_code (coded× coded_ℕ (coded× coded_ℕ (coded× seen_code (coded× stamps_code coded_ℕ)))))) (λ s. (s.opening, (s.turnstile, (s.place, (s.places, (s.seen, (s.stamps, s.heard))))))) (λ p. record { opening = p.0; turnstile = p.1.0; place = p.1.1.0; places = p.1.1.1.0; seen = p.1.1.1.1.0; stamps = p.1.1.1.1.1.0; heard = p.1.1.1.1.1.1 }) (λ _. refl)

abbrev pub seat_at : {D : Type 0} → (D → DiskState) → Token → TurnstileView (State D) → SeatAt
seat_at state p t = record { opening = opening_of state t.first; turnstile = t.id; place = p.number; places = t.passes; seen = p.seen; stamps = p.stamps; heard = p.heard }

-- the seat of the same place
abbrev pub IsSameSeat : SeatAt → SeatAt → Type 0
IsSameSeat old new = (new.opening ≡ old.opening) × (new.place ≡ old.place) × (new.places ≡ old.places) × (new.turnstile ≡ old.turnstile)

-- what it has heard of the users' dates
abbrev pub hearing : SeatAt → ℕ → SeatAt
hearing s d = record s { heard = d }

-- At a later time it had heard what it had heard, its own entries since have higher dates than that, and there is a stamp of each entry where there was.
pub record SeatGoesOn (old new : SeatAt) : Type 0 where
  pub heard : new.heard ≡ old.heard
  pub dates : GoOn old.place old.heard old.stamps new.stamps
  pub as_many : length old.stamps ≡ length old.seen → length new.stamps ≡ length new.seen

-- The pass is the turnstile's and no turn of it is out; the fabric is that of the turnstile's opening; what the pass has seen is a history in which
-- the place hasn't got the Provisioner out; and where the disk tells its content, the journal never read otherwise than it was written.
abbrev pub IsSeated : {D : Type 0} → Type 0 → (D → DiskState) → Token → TurnstileView (State D) → FabricId → Type 0
IsSeated told state p t i = HasPass t p × ((opening_of state t.first).site.fabric ≡ i) × ((h : List Entry) × Saw (opening_of state t.first) p.seen h × Rests p.number h) × SawNoneAstray told p.seen

-- the same of the users, with the highest date that it had heard of at the state
pub record UserSeatAt : Type 0 where
  pub opening : UsersOpening
  pub turnstile : Ident
  pub place : ℕ
  pub places : ℕ
  pub seen : List Gv
  pub stamps : List Stamp
  pub heard : ℕ

abbrev pub user_seat_coded : Coded UserSeatAt
user_seat_coded = code_by (UsersOpening × (Ident × (ℕ × (ℕ × (List Gv × (List Stamp × ℕ)))))) (coded× users_coded (coded× ident_code (coded× coded_ℕ (coded× coded_ℕ (coded× seen_code (coded× stamps_code coded_ℕ)))))) (λ s. (s.opening, (s.turnstile, (s.place, (s.places, (s.seen, (s.stamps, s.heard))))))) (λ p. record { opening = p.0; turnstile = p.1.0; place = p.1.1.0; places = p.1.1.1.0; seen = p.1.1.1.1.0; stamps = p.1.1.1.1.1.0; heard = p.1.1.1.1.1.1 }) (λ _. refl)

abbrev pub user_seat_at : {U : Type 0} → (U → DiskState) → Token → TurnstileView (SharedUsers U) → UserSeatAt
user_seat_at state p t = record { opening = users_opening state t.first; turnstile = t.id; place = p.number; places = t.passes; seen = p.seen; stamps = p.stamps; heard = p.heard }

abbrev pub IsSameUserSeat : UserSeatAt → UserSeatAt → Type 0
IsSameUserSeat old new = (new.opening ≡ old.opening) × (new.place ≡ old.place) × (new.places ≡ old.places) × (new.turnstile ≡ old.turnstile)

abbrev pub users_hearing : UserSeatAt → ℕ → UserSeatAt
users_hearing s d = record s { heard = d }

-- The same of a seat at the users; what it had seen is a beginning of what it has seen then.
pub record UserSeatGoesOn (old new : UserSeatAt) : Type 0 where
  pub heard : new.heard ≡ old.heard
  pub dates : GoOn old.place old.heard old.stamps new.stamps
  pub as_many : length old.stamps ≡ length old.seen → length new.stamps ≡ length new.seen
  pub sees : (more : List Gv) × (new.seen ≡ old.seen ++ more)

-- the pass is the turnstile's, no turn of it is out, and what it has seen is a history in which the place hasn't got the users' keeper out
abbrev pub IsUserSeated : {U : Type 0} → (U → DiskState) → Token → TurnstileView (SharedUsers U) → Type 0
IsUserSeated state p t = HasUsersPass t p × ((h : List UserEntry) × SawUsers (users_opening state t.first) p.seen h) × IsAtRest p

-- Turns with the users that come after all that the place had seen at the state: its own entries have higher dates than that.
-- Each entry has a stamp.
pub record UsersInTurn (seat : SeatAt) (old new : UserSeatAt) : Type 0 where
  pub dates : GoOn old.place (newest seat.stamps) old.stamps new.stamps
  pub as_many : (length old.stamps ≡ length old.seen) × (length new.stamps ≡ length new.seen)
  pub sees : (more : List Gv) × (new.seen ≡ old.seen ++ more)

-- and turns with the state that come after all that it had seen at the users
pub record TableInTurn (users : UserSeatAt) (old new : SeatAt) : Type 0 where
  pub dates : GoOn old.place (newest users.stamps) old.stamps new.stamps
  pub as_many : (length old.stamps ≡ length old.seen) × (length new.stamps ≡ length new.seen)

-- a shelf, and the seats of one place
pub record PlaceAt : Type 0 where
  pub shelf : Contents
  pub seat : SeatAt
  pub users : UserSeatAt

abbrev pub place_coded : Coded PlaceAt
place_coded = code_by (Contents × (SeatAt × UserSeatAt)) (coded× shelf_row.the_row.coded (coded× seat_coded user_seat_coded)) (λ p. (p.shelf, (p.seat, p.users))) (λ w. record { shelf = w.0; seat = w.1.0; users = w.1.1 }) (λ _. refl)
