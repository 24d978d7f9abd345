-- A place's pass, and its seat, over turns.
use Rattle.std.proofs.Common.{◌≡◌, ℕ, Option, Result, Ok, Err, List, [], append-nil, length, refl, sym, subst}
use base.Stored.{Gv}
use Rattle.turnstile.specs.Dating.{newest}
use Rattle.turnstile.specs.Passing.{Token, TurnstileView}
use Rattle.turnstile.proofs.Places.{keeps_more, kept_pass}
use Rattle.dxc_disk.specs.Disks.{DiskState}
use Rattle.dxc_outside.specs.declared.gate.GatePlace.{GatePlace}
use Rattle.dxc_outside.specs.declared.stopped.Stopped.{Stopped}
use Rattle.dxc_model.specs.declared.user.SessionUser.{SessionUser}
use Rattle.shelf_file.specs.Contents.{Contents}
use Rattle.tl1_text.specs.Units.{Input}
use Rattle.user_admin.specs.declared.op.UserRow.{UserRow}
use Rattle.user_admin.specs.declared.shared.SharedUsers.{SharedUsers}
use Rattle.user_admin.specs.Turns.{KeepsPass as KeepsUsersPass}
use Rattle.xc_core.specs.declared.state.State.{State}
use Rattle.xc_core.specs.Seeing.{codes, place_of}
use Rattle.xc_core.specs.Turns.{HasPass, KeepsPass}
use Rattle.craft_session.specs.declared.ask.Ask.{Ask}
use Rattle.craft_session.specs.Desks.{ConsultedIs}
use Rattle.craft_session.specs.Seats.{SeatAt, SeatGoesOn, TableInTurn, UserSeatAt, UserSeatGoesOn, UsersInTurn, hearing, seat_at, user_seat_at, users_hearing}

module _ {X : Type 0} (t : TurnstileView X) where
  -- without a turn, and over turns after others
  pub keeps_none : (p : Token) → HasPass t p → KeepsPass t p p
  keeps_none p has = kept_pass codes place_of t p has

  pub keeps_on : (p q r : Token) → KeepsPass t p q → KeepsPass t q r → KeepsPass t p r
  keeps_on p q r first next = keeps_more codes place_of t p q r first next

-- a seat without a turn
pub seat_stays : (s : SeatAt) → SeatGoesOn s s
seat_stays s = record { heard = refl; dates = record { more = []; whole = sym (append-nil s.stamps); higher = tt }; as_many = λ l. l }

pub user_seat_stays : (s : UserSeatAt) → UserSeatGoesOn s s
user_seat_stays s = record { heard = refl; dates = record { more = []; whole = sym (append-nil s.stamps); higher = tt }; as_many = λ l. l; sees = ([], sym (append-nil s.seen)) }

-- turns that a seat took after it had heard of the other one
pub in_turn : (old heard new : SeatAt) (users : UserSeatAt) → heard ≡ hearing old (newest users.stamps) → length heard.stamps ≡ length heard.seen → SeatGoesOn heard new → TableInTurn users old new
in_turn old heard new users is many goes =
    let there = subst (λ (s : SeatAt). SeatGoesOn s new) is goes in
    let counted = subst (λ (s : SeatAt). length s.stamps ≡ length s.seen) is many in record { dates = there.dates; as_many = (counted, there.as_many counted) }

pub users_in_turn : (old heard new : UserSeatAt) (seat : SeatAt) → heard ≡ users_hearing old (newest seat.stamps) → length heard.stamps ≡ length heard.seen → UserSeatGoesOn heard new → UsersInTurn seat old new
users_in_turn old heard new seat is many goes =
    let there = subst (λ (s : UserSeatAt). UserSeatGoesOn s new) is goes in
    let counted = subst (λ (s : UserSeatAt). length s.stamps ≡ length s.seen) is many in record { dates = there.dates; as_many = (counted, there.as_many counted); sees = there.sees }

-- no turn with the state
pub table_still : (seat : SeatAt) (users : UserSeatAt) → length seat.stamps ≡ length seat.seen → TableInTurn users seat seat
table_still seat users many = record { dates = record { more = []; whole = sym (append-nil seat.stamps); higher = tt }; as_many = (many, many) }

-- what was heard of the users was heard from what the seat had seen before it heard of the table's dates
pub consulted_from : (s : Contents) (user : SessionUser) (u : Input) (old heard : UserSeatAt) (d : ℕ) → heard ≡ users_hearing old d → (rows : List UserRow) (then_seen : List Gv) (gate : List GatePlace → Type 0) (tag : Option (List ℕ)) (a : Ask) (how : Result (Unit {0}) Stopped)
    → ConsultedIs s user u heard rows then_seen gate tag a how → ConsultedIs s user u old rows then_seen gate tag a how
consulted_from s user u old heard d is rows then_seen gate tag a (Ok x) y =
    let z = subst (λ (v : UserSeatAt). ConsultedIs s user u v rows then_seen gate tag a (Ok x)) is y in
    (z.0, record { heard = z.1.heard; behind = z.1.behind; ask_is = z.1.ask_is; rows_are = z.1.rows_are; entered = z.1.entered })
consulted_from s user u old heard d is rows then_seen gate tag a (Err e) y =
    let z = subst (λ (v : UserSeatAt). ConsultedIs s user u v rows then_seen gate tag a (Err e)) is y in
    (record { op = z.0.op; wanted = z.0.wanted; changing = z.0.changing; behind = z.0.behind }, z.1)

-- a seat goes on as its pass does
pub seat_goes : {D : Type 0} (state : D → DiskState) (p q : Token) (t u : TurnstileView (State D)) → KeepsPass u p q → SeatGoesOn (seat_at state p u) (seat_at state q t)
seat_goes state p q t u keeps = record { heard = keeps.goes.same.1; dates = keeps.goes.dates; as_many = λ _. keeps.has.4 }

pub user_seat_goes : {U : Type 0} (state : U → DiskState) (p q : Token) (t u : TurnstileView (SharedUsers U)) → KeepsUsersPass u p q → UserSeatGoesOn (user_seat_at state p u) (user_seat_at state q t)
user_seat_goes state p q t u keeps = record { heard = keeps.goes.same.1; dates = keeps.goes.dates; as_many = λ _. keeps.has.4; sees = keeps.sees }
