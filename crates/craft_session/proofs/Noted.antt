-- What a session noted, one step longer.
use Rattle.std.specs.Prelude.{nat_lt, if◌then◌else◌}
use Rattle.std.proofs.Common.{◌≡◌, ℕ, Bool, true, false, List, [], ◌++◌, length, append-nil, append_assoc, Option, Some, Result, Ok, Err, refl, sym, ◌∙◌, ap, subst, inl, inr}
use Rattle.dxc_num.specs.Dimensions.{Dimensions}
use Rattle.dxc_model.specs.declared.cause.Cause.{Cause}
use Rattle.dxc_model.specs.declared.cause.Cause.TheVariants.{BadIdentity}
use Rattle.dxc_model.specs.declared.entry.Entry.{Entry}
use Rattle.dxc_model.specs.declared.user.SessionUser.{SessionUser}
use Rattle.dxc_notes.specs.declared.command.Outcome.{Outcome}
use Rattle.dxc_notes.specs.declared.command.UserChange.{UserChange}
use Rattle.dxc_notes.specs.declared.note.Note.{Note}
use Rattle.dxc_notes.specs.declared.standing.Standing.{Standing}
use Rattle.dxc_outside.specs.declared.clock.Moment.{Moment}
use Rattle.dxc_outside.specs.declared.gate.GatePlace.{GatePlace}
use Rattle.dxc_outside.specs.declared.link.Got.{Got}
use Rattle.dxc_outside.specs.Links.{IsRead, LinkState}
use Rattle.dxc_outside.specs.declared.send.Sent.{Sent}
use Rattle.dxc_outside.specs.declared.send.Sent.TheVariants.{Whole as Sent_whole, Cut as Sent_cut}
use Rattle.dxc_outside.specs.declared.stopped.Stopped.{Stopped}
use Rattle.tl1_text.specs.Units.{Input}
use Rattle.shelf_file.specs.Contents.{Contents}
use Rattle.tl1_command.specs.Meanings.{Asked, acts, cancels, header, allows, inhibits, shows, asks_table}
use Rattle.tl1_users.specs.declared.op.UserOp.{UserOp}
use Rattle.user_admin.specs.declared.op.UserRow.{UserRow}
use Rattle.tl1_users.specs.Commands.{is_not_logged_in}
use Rattle.xc_core.specs.Seeing.{Saw}
use Rattle.craft_session.specs.declared.ask.Ask.{Ask}
use Rattle.craft_session.specs.declared.ask.Ask.TheVariants.{Refused, LogsIn, LogsOut, Completes, Allows, Inhibits, Lists, Shows, Restarts, Changes}
use Rattle.craft_session.specs.declared.attending.Attending.{Attending}
use Rattle.craft_session.specs.declared.end.Progress.{Progress}
use Rattle.craft_session.specs.declared.end.Progress.TheVariants.{On, Cut}
use Rattle.craft_session.specs.Acting.{Acts, Stops}
use Rattle.craft_session.specs.Asks.{Reply, user_after}
use Rattle.craft_session.specs.Desks.{IsReplied, IsSaidOf, IsStoppedBefore}
use Rattle.craft_session.specs.Hearing.{IsAsked, IsHeard, Wanted, nothing, to_look}
use Rattle.craft_session.specs.Meanings.{asks, session_wants, tag_of, wants}
use Rattle.craft_session.specs.Noted.{HasLooked, HasNoted, IsBeside, IsUnit, Notes, Stood, UsersNoted, change_notes, changes_user, no_notes, notes_beside, notes_of, notes_on, now_in, refusal_notes, said_notes, stood, unit_notes, users_command_notes, users_notes}
use Rattle.craft_session.specs.Responses.{beside}
use Rattle.craft_session.specs.Seats.{IsSameSeat, IsSameUserSeat, SeatAt, UserSeatAt}
use Rattle.craft_session.specs.Sessions.{Now, Writes}
use Rattle.craft_session.specs.Timely.{Telling}

-- a refusal for any other cause
pub refusal_none : (q : Cause) → (q ≡ BadIdentity → ⊥) → refusal_notes q ≡ []
refusal_none BadIdentity other = absurd (other refl)
refusal_none _ other = refl

-- who is logged in after a unit is noted as who gave it
pub notes_behind : (d : Dimensions) (user : SessionUser) (tag : Option (List ℕ)) (a : Ask) (r : Reply) → notes_of d (user_after user a) tag a r ≡ notes_of d user tag a r
notes_behind d user tag (Refused q) r = refl
notes_behind d user tag (LogsIn u) r = refl
notes_behind d user tag LogsOut r = refl
notes_behind d user tag Completes r = refl
notes_behind d user tag Allows r = refl
notes_behind d user tag Inhibits r = refl
notes_behind d user tag (Lists which) r = refl
notes_behind d user tag (Shows what) r = refl
notes_behind d user tag Restarts r = refl
notes_behind d user tag (Changes op) r = refl

module _ (s : Contents) (t : Telling) where
  joined : (a b c : Stood) (ms ns : List Note) → Notes s t a ms b → Notes s t b ns c → Notes s t a (ms ++ ns) c
  joined a b _ ms _ x (no_notes _) = subst (λ (l : List Note). Notes s t a l b) (sym (append-nil ms)) x
  joined a b c ms ns x (notes_beside _ d _ _ y z) = notes_beside a d c (ms ++ ns) (joined a b d ms ns x y) z
  joined a b c ms _ x (notes_on _ d _ ns u how y z) = subst (λ (l : List Note). Notes s t a l c) (append_assoc ms ns (unit_notes s t how d u c z)) (notes_on a d c (ms ++ ns) u how (joined a b d ms ns x y) z)

  module _ (b c : Stood) (noted : List Note → Type 0) where
    -- one unit
    pub noted_unit : (u : Input) (how : Result Progress Stopped) (x : IsUnit s t b u how c) → noted (unit_notes s t how b u c x) → HasNoted s t b c noted
    noted_unit u how x were = record { notes = unit_notes s t how b u c x; are = notes_on b b c [] u how (no_notes b) x; were = were }

    -- of which a response was written, or a part of it
    pub noted_said : (u : Input) (sent : Sent) (seat : IsSameSeat b.seat c.seat) (users : IsSameUserSeat b.users c.users) (x : IsSaidOf s t.told t.clock_told b.link c.link b.coming c.coming sent u b.seat b.users (now_in b) (now_in c)) → noted (said_notes s t sent b u c x) → HasNoted s t b c noted
    noted_said u Sent_whole seat users x were = noted_unit u (Ok On) (record { seat = seat; users = users; answered = x }) were
    noted_said u Sent_cut seat users x were = noted_unit u (Ok Cut) (record { seat = seat; users = users; answered = x }) were

    -- which a stop cut at the users
    pub noted_stop : (e : Stopped) (u : Input) (seat : IsSameSeat b.seat c.seat) (users : IsSameUserSeat b.users c.users) → c.link ≡ b.link → c.coming ≡ b.coming → IsStoppedBefore s u b.users (now_in b) (now_in c) → noted [] → HasNoted s t b c noted
    noted_stop e u seat users link clock x were = noted_unit u (Err e) (record { seat = seat; users = users; answered = record { link = link; clock = clock; stopped = inr x } }) were

  -- a part in which nothing is noted
  pub noted_beside : (a b c : Stood) (noted : List Note → Type 0) → HasNoted s t a b noted → IsBeside t.told b c → HasNoted s t a c noted
  noted_beside a b c noted x y = record { notes = x.notes; are = notes_beside a b c x.notes x.are y; were = x.were }

  pub noted_none : (a : Stood) (noted : List Note → Type 0) → noted [] → HasNoted s t a a noted
  noted_none a noted none = record { notes = []; are = no_notes a; were = none }

  -- notes between two moments, and on from there
  pub noted_more : {X : Type 0} (noted : X → X → List Note → Type 0) (on : (p q r : X) (ms ns : List Note) → noted p q ms → noted q r ns → noted p r (ms ++ ns)) (p q r : X) (a b c : Stood) → HasNoted s t a b (noted p q) → HasNoted s t b c (noted q r) → HasNoted s t a c (noted p r)
  noted_more noted on p q r a b c x y = record { notes = x.notes ++ y.notes; are = joined a b c x.notes y.notes x.are y.are; were = on p q r x.notes y.notes x.were y.were }

-- reports were written, or a part of them
pub beside_reports : (told : Type 0) (b c : Stood) → Writes told b.link c.link → IsSameSeat b.seat c.seat → c.users ≡ b.users → HasLooked b.seat c.seat.seen → c.attending.user ≡ b.attending.user → IsBeside told b c
beside_reports told b c w seat users looked user = record {
  wrote = λ t. (w.out, w.wrote.written t);
  seat = seat;
  same = (ap (λ (u : UserSeatAt). u.opening) users, ap (λ (u : UserSeatAt). u.place) users, ap (λ (u : UserSeatAt). u.places) users, ap (λ (u : UserSeatAt). u.turnstile) users);
  looked = looked;
  users = inl (ap (λ (u : UserSeatAt). u.seen) users);
  user = user;
}

-- a read
pub noted_read : (s : Contents) (t : Telling) (a : Stood) (k j : LinkState) (coming : List Moment) (seat : SeatAt) (users : UserSeatAt) (attending : Attending) (noted : List Note → Type 0) (got : Got) (buffer : List ℕ) → HasNoted s t a (stood k coming seat users attending) noted → IsRead t.told k j got buffer → HasNoted s t a (stood j coming seat users attending) noted
noted_read s t a k j coming seat users attending noted got buffer x read =
    noted_beside s t a (stood k coming seat users attending) (stood j coming seat users attending) noted x (record {
      wrote = λ told. ([], read.written told ∙ sym (append-nil k.written));
      seat = (refl, refl, refl, refl);
      same = (refl, refl, refl, refl);
      looked = inl refl;
      users = inl refl;
      user = refl;
    })

-- on the shelf that it was before
pub noted_moved : {Shelf : Type 0} (value : Shelf → Contents) (t : Telling) (b c : Stood) (noted : List Note → Type 0) (old new : Shelf) → new ≡ old → HasNoted (value new) t b c noted → HasNoted (value old) t b c noted
noted_moved value t b c noted old new same x = subst (λ (y : Contents). HasNoted y t b c noted) (ap value same) x

-- what was noted by what was found out of a unit is as what the unit is noted
pub noted_so : (noted : List Note → Type 0) (w : Wanted) (d e : Dimensions) (now user : SessionUser) (tag own : Option (List ℕ)) (a b : Ask) (r : Reply) → d ≡ e → now ≡ user_after user a → tag ≡ own → a ≡ b → noted (users_notes user tag w a ++ notes_of d now tag a r) → noted (users_notes user own w b ++ notes_of e user own b r)
noted_so noted w d e now user tag own a b r shape_is now_is tag_is ask_is x =
    let first : users_notes user tag w a ++ notes_of d now tag a r ≡ users_notes user own w a ++ notes_of e (user_after user a) own a r = λ i. users_notes user (tag_is i) w a ++ notes_of (shape_is i) (now_is i) (tag_is i) a r in
    subst noted (first ∙ ap (λ (l : List Note). users_notes user own w a ++ l) (notes_behind e user own a r) ∙ ap (λ (y : Ask). users_notes user own w y ++ notes_of e user own y r) ask_is) x

-- a unit that wants nothing of the users
pub noted_nothing : (noted : List Note → Type 0) (user : SessionUser) (tag : Option (List ℕ)) (w : Wanted) (a : Ask) → w ≡ nothing → noted [] → UsersNoted noted user tag w (Ok a)
noted_nothing noted user tag w a is none = subst (λ (x : Wanted). UsersNoted noted user tag x (Ok a)) (sym is) none

-- one of the session's commands changes no users
login_none : (user : SessionUser) (tag : Option (List ℕ)) (vacant : Bool) (uid pid : List ℕ) (a : Ask) (long : Bool) → users_notes user tag (if long then nothing else to_look vacant uid pid) a ≡ []
login_none user tag vacant uid pid a true = refl
login_none user tag vacant uid pid a false = refl

session_none : (user : SessionUser) (tag : Option (List ℕ)) (x : Asked) (a : Ask) → users_notes user tag (session_wants user x) a ≡ []
session_none user tag (acts uid pid) a = login_none user tag (is_not_logged_in user) uid pid a (nat_lt 10 (length uid))
session_none user tag (cancels uid) a = refl
session_none user tag header a = refl
session_none user tag allows a = refl
session_none user tag inhibits a = refl
session_none user tag (shows subject) a = refl
session_none user tag (asks_table o) a = refl

pub noted_session : (noted : List Note → Type 0) (user : SessionUser) (tag : Option (List ℕ)) (x : Asked) (a : Ask) → noted [] → UsersNoted noted user tag (session_wants user x) (Ok a)
noted_session noted user tag x a none = subst noted (sym (session_none user tag x a)) none

-- what came of an operation on the users
pub noted_change : (noted : List Note → Type 0) (user : SessionUser) (tag : Option (List ℕ)) (o : UserOp) (c : Option (UserChange × List ℕ)) (x : Outcome) → c ≡ changes_user o → noted (users_command_notes user tag c x) → noted (change_notes user tag o x)
noted_change noted user tag o c x is were = subst (λ (y : Option (UserChange × List ℕ)). noted (users_command_notes user tag y x)) is were

-- a response to what was asked, after what was heard, and what was noted of it
module _ (s : Contents) (t : Telling) (b c : Stood) (noted : List Note → Type 0) (u : Input) (sent : Sent) (after : Now) (there : after ≡ now_in c) (seat : IsSameSeat b.seat c.seat) (users : IsSameUserSeat b.users c.users) where
  pub noted_reply : (a : Ask) (rows : List UserRow) (gate : List GatePlace → Type 0) (y : IsAsked b.users (wants s b.attending.user u) (λ h. asks s b.attending.user h u) a rows after.users gate) (tag : Option (List ℕ)) (r : Reply) (standing : Standing) → tag ≡ tag_of u → IsReplied s t.told t.clock_told b.link c.link b.coming c.coming sent tag (beside rows (Some standing)) r
      → ((h : List Entry) → Saw b.seat.opening b.seat.seen h → Acts b.seat.opening b.seat.place h b.attending a r after.attending after.seen) → (d : Dimensions) (now : SessionUser) → d ≡ s.shape → now ≡ user_after b.attending.user a → noted (users_notes b.attending.user tag (wants s b.attending.user u) a ++ notes_of d now tag a r) → HasNoted s t b c noted
  noted_reply a rows gate y tag r standing tag_is replied made d now shape_is now_is were =
      noted_said s t b c noted u sent seat users (record {
        heard = y.heard;
        behind = subst (λ (n : Now). IsHeard b.users (wants s b.attending.user u) y.heard n.users) there y.behind;
        reply = r;
        standing = standing;
        said = subst (λ (w : Option (List ℕ) × List UserRow). IsReplied s t.told t.clock_told b.link c.link b.coming c.coming sent w.0 (beside w.1 (Some standing)) r) (λ i. (tag_is i, y.rows_are i)) replied;
        acts = subst (λ (n : Now). (h : List Entry) → Saw b.seat.opening b.seat.seen h → Acts b.seat.opening b.seat.place h b.attending (asks s b.attending.user y.heard u) r n.attending n.seen) there
            (subst (λ (x : Ask). (h : List Entry) → Saw b.seat.opening b.seat.seen h → Acts b.seat.opening b.seat.place h b.attending x r after.attending after.seen) y.ask_is made);
      })
      (noted_so noted (wants s b.attending.user u) d s.shape now b.attending.user tag (tag_of u) a (asks s b.attending.user y.heard u) r shape_is now_is tag_is y.ask_is were)

  -- one that a stop cut at the table
  pub noted_cut : (e : Stopped) (a : Ask) (rows : List UserRow) (gate : List GatePlace → Type 0) (y : IsAsked b.users (wants s b.attending.user u) (λ h. asks s b.attending.user h u) a rows after.users gate) (tag : Option (List ℕ)) → tag ≡ tag_of u → c.link ≡ b.link → c.coming ≡ b.coming
      → ((h : List Entry) → Saw b.seat.opening b.seat.seen h → Stops b.seat.opening b.seat.place h b.attending a after.attending after.seen) → noted (users_notes b.attending.user tag (wants s b.attending.user u) a) → HasNoted s t b c noted
  noted_cut e a rows gate y tag tag_is link clock stops were =
      noted_unit s t b c noted u (Err e) (record {
        seat = seat;
        users = users;
        answered = record {
          link = link;
          clock = clock;
          stopped = inl (record {
            heard = y.heard;
            behind = subst (λ (n : Now). IsHeard b.users (wants s b.attending.user u) y.heard n.users) there y.behind;
            stops = subst (λ (n : Now). (h : List Entry) → Saw b.seat.opening b.seat.seen h → Stops b.seat.opening b.seat.place h b.attending (asks s b.attending.user y.heard u) n.attending n.seen) there
                (subst (λ (x : Ask). (h : List Entry) → Saw b.seat.opening b.seat.seen h → Stops b.seat.opening b.seat.place h b.attending x after.attending after.seen) y.ask_is stops);
          });
        };
      })
      (subst (λ (w : Option (List ℕ) × Ask). noted (users_notes b.attending.user w.0 (wants s b.attending.user u) w.1)) (λ i. (tag_is i, y.ask_is i)) were)
