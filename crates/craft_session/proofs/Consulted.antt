-- What a session heard of the users, one case longer.
use Rattle.std.proofs.Common.{◌≡◌, ◌≢◌, ℕ, true, Option, Result, Ok, Err, List, [], ◌∷◌, ◌++◌, append-nil, append_assoc, refl, sym, ◌∙◌, subst}
use base.Stored.{Gv}
use Rattle.turnstile.specs.Turning.{Each}
use Rattle.dxc_outside.specs.declared.clock.Moment.{Moment}
use Rattle.dxc_outside.specs.declared.gate.GatePlace.{GatePlace}
use Rattle.dxc_outside.specs.declared.stopped.Stopped.{Stopped}
use Rattle.dxc_num.specs.Dimensions.{Dimensions}
use Rattle.dxc_model.specs.declared.user.SessionUser.{SessionUser}
use Rattle.dxc_notes.specs.declared.note.Note.{Note}
use Rattle.shelf_file.specs.Contents.{Contents}
use Rattle.tl1_text.specs.Units.{Input}
use Rattle.user_admin.specs.declared.op.UserEntry.{UserEntry}
use Rattle.user_admin.specs.declared.op.UserRow.{UserRow}
use Rattle.user_admin.specs.Histories.{Opening}
use Rattle.user_admin.specs.Turns.{Saw, TurnedBack}
use Rattle.craft_session.specs.declared.ask.Ask.{Ask}
use Rattle.craft_session.specs.Asks.{Language, user_after}
use Rattle.craft_session.specs.Consulting.{Consults, others_pass, unit_hears, quiet_passes}
use Rattle.craft_session.specs.Gated.{users_kept}
use Rattle.craft_session.specs.Happenings.{Happening, Request, unit, quiet}
use Rattle.craft_session.specs.Desks.{ConsultedIs, put_down}
use Rattle.craft_session.specs.Hearing.{AskedIs, Heard, HeardBehind, IsAsked, Wanted, nothing, unasked}
use Rattle.craft_session.specs.Meanings.{asks, tag_of, wants}
use Rattle.craft_session.specs.Noted.{UsersNoted}
use Rattle.craft_session.specs.Readings.{IsReadAs, Read, asked_after, wanted_by}
use Rattle.craft_session.specs.Seats.{UserSeatAt}
use Rattle.craft_session.specs.Sessions.{Beginning, Consulted}

-- others' entries
pub consults_past : {U M : Type 0} (l : Language U M) (place : ℕ) (o : Opening) (h : List UserEntry) (hs : List (Happening U)) (g : List UserEntry) (s : SessionUser) (es : List UserEntry) → Each (λ e. e.place ≢ place) es → Consults l place o h hs g s → Consults l place o h hs (g ++ es) s
consults_past l place o h hs g s [] others c = subst (λ (x : List UserEntry). Consults l place o h hs x s) (sym (append-nil g)) c
consults_past l place o h hs g s (e ∷ es) others c = subst (λ (x : List UserEntry). Consults l place o h hs x s) (append_assoc g (e ∷ []) es) (consults_past l place o h hs (g ++ e ∷ []) s es others.1 (others_pass hs g s e others.0 c))

-- what a unit of this user learns after what a seat at the users had seen: of the program just what it asks, and what it wants of the users
abbrev pub Learns : Language Request Moment → Beginning → (seen : List Gv) → SessionUser → Request → (then_seen : List Gv) → Type 0
Learns l b seen s u then_seen = (l.is_told s u ≡ true) × ((h : List UserEntry) → Saw b.users seen h → HeardBehind b.users b.place h (l.wants s u) (l.heard u) then_seen)

module _ (l : Language Request Moment) (b : Beginning) (seen then_seen : List Gv) (hs : List (Happening Request)) (s : SessionUser) (c : Consulted l b seen hs s) where
  pub consulted_quiet : Consulted l b seen (hs ++ quiet ∷ []) s
  consulted_quiet = record { history = c.history; heard = quiet_passes hs c.history s c.heard; saw = c.saw }

  -- a unit heard what it wanted
  pub consulted_on : (u : Request) → Learns l b seen s u then_seen → Consulted l b then_seen (hs ++ unit u ∷ []) (user_after s (l.asks s u))
  consulted_on u learns =
      let x = learns.1 c.history c.saw in
      record {
        history = (c.history ++ x.passed) ++ x.entries;
        heard = unit_hears hs (c.history ++ x.passed) s u x.entries x.hears learns.0 (consults_past l b.place b.users b.users_before hs c.history s x.passed x.others c.heard);
        saw = x.saw;
      }

  -- a turn was given back
  abbrev pub consulted_back : ((h : List UserEntry) → Saw b.users seen h → TurnedBack b.users b.place h then_seen) → Consulted l b then_seen hs s
  consulted_back back =
      let x = back c.history c.saw in
      record { history = c.history ++ x.later; heard = consults_past l b.place b.users b.users_before hs c.history s x.later x.others c.heard; saw = x.saw }

-- nothing was wanted
pub asked_nothing : (seat : UserSeatAt) (w : Wanted) (by : Heard → Ask) (a : Ask) (rows : List UserRow) (gate : List GatePlace → Type 0) → gate [] → w ≡ nothing → a ≡ by unasked → rows ≡ [] → IsAsked seat w by a rows seat.seen gate
asked_nothing seat w by a rows gate unasked_gate none is no_rows = record {
  heard = unasked;
  behind = λ h saw. record {
    passed = [];
    others = tt;
    entries = [];
    hears = rw none (refl, refl);
    saw = subst (λ (x : List UserEntry). Saw seat.opening seat.seen x) (sym (append-nil h) ∙ sym (append-nil (h ++ []))) saw;
  };
  ask_is = is;
  rows_are = no_rows;
  entered = λ h saw. record { entries = []; saw = subst (λ (x : List UserEntry). Saw seat.opening seat.seen x) (sym (append-nil h)) saw; places = []; were = unasked_gate; gated = users_kept [] tt };
}

-- what was heard, with the tag of the unit that asked it
pub consulted_by : (s : Contents) (user : SessionUser) (u : Input) (seat : UserSeatAt) (rows : List UserRow) (then_seen : List Gv) (gate : List GatePlace → Type 0) (tag : Option (List ℕ)) (a : Ask) (how : Result (Unit {0}) Stopped)
    → tag ≡ tag_of u → AskedIs seat (wants s user u) (λ x. asks s user x u) rows then_seen gate (put_down how a) → ConsultedIs s user u seat rows then_seen gate tag a how
consulted_by s user u seat rows then_seen gate tag a (Ok x) is asked = (is, asked)
consulted_by s user u seat rows then_seen gate tag a (Err e) is asked = asked

-- what was read is asked and noted as the unit
module _ (d : Dimensions) (user : SessionUser) (w : Wanted) (by : Heard → Ask) (r : Read) (is : IsReadAs d user w by r) where
  pub asked_as_read : (seat : UserSeatAt) (rows : List UserRow) (then_seen : List Gv) (gate : List GatePlace → Type 0) (o : Result Ask Stopped) → AskedIs seat (wanted_by user r) (asked_after user r) rows then_seen gate o → AskedIs seat w by rows then_seen gate o
  asked_as_read seat rows then_seen gate (Ok a) x =
      let y = subst (λ (v : Wanted). IsAsked seat v (asked_after user r) a rows then_seen gate) is.wanted x in
      record { heard = y.heard; behind = y.behind; ask_is = y.ask_is ∙ is.asked y.heard; rows_are = y.rows_are; entered = y.entered }
  asked_as_read seat rows then_seen gate (Err e) x = subst (λ (v : Wanted). AskedIs seat v by rows then_seen gate (Err e)) is.wanted x

  pub noted_as_read : (noted : List Note → Type 0) (tag : Option (List ℕ)) (o : Result Ask Stopped) → UsersNoted noted user tag (wanted_by user r) o → UsersNoted noted user tag w o
  noted_as_read noted tag o x = subst (λ (v : Wanted). UsersNoted noted user tag v o) is.wanted x
