-- That each byte was written in its time, one call after the other.
use Rattle.std.proofs.Common.{◌≡◌, ◌⊎◌, ◌≤◌, ◌<◌, ◌+◌, ℕ, zero, suc, false, List, [], ◌++◌, Result, append-nil, append_assoc, length, length-append, inl, inr, sym, ◌∙◌, ap, subst, arith}
use base.Stored.{Gv}
use Rattle.dxc_outside.specs.declared.clock.Moment.{Moment}
use Rattle.dxc_outside.specs.declared.gate.GatePlace.{GatePlace}
use Rattle.dxc_outside.specs.declared.link.Got.{Got}
use Rattle.dxc_outside.specs.declared.stopped.Stopped.{Stopped}
use Rattle.dxc_outside.specs.Links.{LinkState, IsRead, Wrote}
use Rattle.dxc_model.specs.declared.entry.Entry.{Entry}
use Rattle.dxc_model.specs.declared.user.SessionUser.{SessionUser}
use Rattle.tl1_text.specs.Reading.{Reader}
use Rattle.shelf_file.specs.Contents.{Contents}
use Rattle.user_admin.specs.declared.op.UserEntry.{UserEntry}
use Rattle.user_admin.specs.Histories.{Opening as UsersOpening}
use Rattle.user_admin.specs.Turns.{Saw as SawUsers}
use Rattle.xc_core.specs.Seeing.{Saw}
use Rattle.xc_core.specs.States.{Opening}
use Rattle.craft_session.specs.declared.end.Progress.{Progress}
use Rattle.craft_session.specs.Asks.{Language}
use Rattle.craft_session.specs.Gated.{AreEntered, Entered, NothingAsked}
use Rattle.craft_session.specs.Gathered.{DeskAt, GoesInTime, GoesTo, now_at, reached_at}
use Rattle.craft_session.specs.Happenings.{Request}
use Rattle.craft_session.specs.Meanings.{language_for}
use Rattle.craft_session.specs.Seats.{IsSameSeat, IsSameUserSeat, SeatAt, UserSeatAt}
use Rattle.craft_session.specs.Runs.{RunsOn, Walk}
use Rattle.craft_session.specs.Sessions.{Beginning, Goes, IsAt, Stands, Writes, walk_after}
use Rattle.craft_session.specs.Stamps.{AreStamped, Stamp, stamp_at}
use Rattle.craft_session.specs.Timely.{GoesOn, InHand, IsTimely, IsWrittenBehind, Reached, SeesOn, Start, Telling, reached, starting}
use Rattle.craft_session.proofs.Walking.{run_more}

less_or_not : (n m : ℕ) → (n < m) ⊎ (m ≤ n)
less_or_not n zero = inr (omega arith)
less_or_not zero (suc m) = inl (omega arith)
less_or_not (suc n) (suc m) = elim (less_or_not n m) [ inl lt ↦ inl (omega (arith, lt)) | inr le ↦ inr (omega (arith, le)) ]

-- a byte of what was written of a message
pub in_message : (told : Type 0) (j m : LinkState) (part : List ℕ) → Wrote told j m part → told → (n : ℕ) → n < length m.written → n < length j.written + length part
in_message told j m part wrote t n below =
    let a = ap length (wrote.written t) ∙ length-append j.written part in
    omega (arith, a, below)

-- what link and seats come to
module _ (told : Type 0) (b : Beginning) where
  pub sees_no_more : (h : List Entry) (g : List UserEntry) (r : Reached) → Saw b.opening r.seen h → SawUsers b.users r.users g → SeesOn b h g r
  sees_no_more h g r saw users = record {
    entries = [];
    users_entries = [];
    saw = subst (λ (l : List Entry). Saw b.opening r.seen l) (sym (append-nil h)) saw;
    saw_users = subst (λ (l : List UserEntry). SawUsers b.users r.users l) (sym (append-nil g)) users;
  }

  pub goes_nowhere : (r : Reached) → GoesOn told b r r
  goes_nowhere r = record { written = λ t. ([], sym (append-nil r.written)); sees_on = λ h g saw saw_users. sees_no_more h g r saw saw_users }

  pub goes_further : (x y z : Reached) → GoesOn told b x y → GoesOn told b y z → GoesOn told b x z
  goes_further x y z first next = record {
    written = λ t. (let f = first.written t in let n = next.written t in (f.0 ++ n.0, n.1 ∙ ap (λ (l : List ℕ). l ++ n.0) f.1 ∙ append_assoc x.written f.0 n.0));
    sees_on = λ h g saw users.
        let f = first.sees_on h g saw users in
        let n = next.sees_on (h ++ f.entries) (g ++ f.users_entries) f.saw f.saw_users in
        record {
          entries = f.entries ++ n.entries;
          users_entries = f.users_entries ++ n.users_entries;
          saw = subst (λ (l : List Entry). Saw b.opening z.seen l) (append_assoc h f.entries n.entries) n.saw;
          saw_users = subst (λ (l : List UserEntry). SawUsers b.users z.users l) (append_assoc g f.users_entries n.users_entries) n.saw_users;
        };
  }

  -- a part of a message was written
  pub sent_to : (j m : LinkState) (seen users : List Gv) (part : List ℕ) → Wrote told j m part → GoesOn told b (reached (j.written ++ part) seen users) (reached m.written seen users)
  sent_to j m seen users part wrote = record {
    written = λ t. ([], wrote.written t ∙ sym (append-nil (j.written ++ part)));
    sees_on = λ h g saw saw_users. sees_no_more h g (reached m.written seen users) saw saw_users;
  }

  -- the link was read
  pub read_to : (j m : LinkState) (seen users : List Gv) (got : Got) (buffer : List ℕ) → IsRead told j m got buffer → GoesOn told b (reached j.written seen users) (reached m.written seen users)
  read_to j m seen users got buffer read = record {
    written = λ t. ([], read.written t ∙ sym (append-nil j.written));
    sees_on = λ h g saw saw_users. sees_no_more h g (reached m.written seen users) saw saw_users;
  }

  module _ (j m : LinkState) (s : SeatAt) (u : UserSeatAt) (at : IsAt b s u) (writes : Writes told j m) where
    -- turns were taken at both seats, and the link was written
    pub went_to : (asked : List GatePlace → Type 0) (seen users : List Gv) → AreEntered s u asked seen users → GoesOn told b (reached j.written s.seen u.seen) (reached m.written seen users)
    went_to asked seen users entered = record {
      written = λ t. (writes.out, writes.wrote.written t);
      sees_on = λ h g saw saw_users.
          let x = entered h g (subst (λ (o : Opening). Saw o s.seen h) (sym at.0) saw) (subst (λ (o : UsersOpening). SawUsers o u.seen g) (sym at.2) saw_users) in
          record {
            entries = x.entries;
            users_entries = x.users_entries;
            saw = subst (λ (o : Opening). Saw o seen (h ++ x.entries)) at.0 x.saw;
            saw_users = subst (λ (o : UsersOpening). SawUsers o users (g ++ x.users_entries)) at.2 x.saw_users;
          };
    }

    -- a look at what changed, and the link was written
    pub looked_to : (seen users : List Gv) → users ≡ u.seen → ((h : List Entry) → Saw s.opening s.seen h → Entered s.opening s.place NothingAsked false false h seen) → GoesOn told b (reached j.written s.seen u.seen) (reached m.written seen users)
    looked_to seen users same entered = record {
      written = λ t. (writes.out, writes.wrote.written t);
      sees_on = λ h g saw saw_users.
          let x = entered h (subst (λ (o : Opening). Saw o s.seen h) (sym at.0) saw) in
          record {
            entries = x.entries;
            users_entries = [];
            saw = subst (λ (o : Opening). Saw o seen (h ++ x.entries)) at.0 x.saw;
            saw_users = subst (λ (y : List Gv × List UserEntry). SawUsers b.users y.0 y.1) (λ i. (sym same i, sym (append-nil g) i)) saw_users;
          };
    }

module _ (l : Language Request Moment) (t : Telling) (s : Start) where
  pub timely_none : (i : LinkState) (e : Reached) (w : Walk Request Moment) → e.written ≡ i.written → IsTimely l t s i e w
  timely_none i e w same told n from below = absurd (let k = ap length same in omega (arith, k, from, below))

  abbrev Runs : Walk Request Moment → Walk Request Moment → Type 0
  Runs = RunsOn l s.beginning.place s.beginning.opening.first.fold.table

  -- of a later end, to which the session ran on
  behind_on : (p : Stamp) (e f : Reached) (v w : Walk Request Moment) (n : ℕ) → IsWrittenBehind l t s p e v n → GoesOn t.told s.beginning e f → Runs v w → IsWrittenBehind l t s p f w n
  behind_on p e f v w n x on ran = record {
    items = x.items;
    ahead = x.ahead;
    out = x.out;
    exchanged = x.exchanged;
    walk = x.walk;
    rest = x.rest;
    happened = x.happened;
    run = x.run;
    ran_on = run_more l s.beginning.place s.beginning.opening.first.fold.table x.walk v w x.ran_on ran;
    at = x.at;
    saw = x.saw;
    consulted = x.consulted;
    done = x.done;
    message = x.message;
    says = x.says;
    written = x.written;
    newest = x.newest;
    sent = x.sent;
    unsent = x.unsent;
    split = x.split;
    goes_on = goes_further t.told s.beginning (reached (p.link.written ++ x.sent) p.seat.seen p.users.seen) e f x.goes_on on;
    follows = x.follows;
    within = x.within;
  }

  module _ (i j : LinkState) (seen users : List Gv) (v : Walk Request Moment) (so_far : IsTimely l t s i (reached j.written seen users) v) (f : Reached) (w : Walk Request Moment) (ran : Runs v w) where
    -- more was written
    pub timely_more : IsTimely l t s j f w → GoesOn t.told s.beginning (reached j.written seen users) f → IsTimely l t s i f w
    timely_more next on told n from below = elim (less_or_not n (length j.written)) [
      | inl lt ↦ (let x = so_far told n from lt in (x.0, x.1, behind_on x.0 (reached j.written seen users) f v w n x.2 on ran))
      | inr le ↦ next told n le below
    ]

    -- a read, and more after it
    pub timely_read : (m : LinkState) (got : Got) (buffer : List ℕ) → IsRead t.told j m got buffer → IsTimely l t s m f w → GoesOn t.told s.beginning (reached m.written seen users) f → IsTimely l t s i f w
    timely_read m got buffer read next on =
        timely_more (λ told n from below. next told n (let e = ap length (read.written told) in omega (arith, e, from)) below)
        (goes_further t.told s.beginning (reached j.written seen users) (reached m.written seen users) f (read_to t.told s.beginning j m seen users got buffer read) on)

-- a call goes on with what went before
module _ (t : Telling) (x y z : DeskAt) where
  pub goes_then : (l : Language Request Moment) (b : Start) (v w : Walk Request Moment) (how : Result Progress Stopped) (reader : Reader) (ahead : List ℕ) → RunsOn l b.beginning.place b.beginning.opening.first.fold.table v w → IsTimely l t b x.link (reached_at y) w
      → GoesInTime t y z l b w how reader ahead → GoesOn t.told b.beginning (reached_at y) (reached_at z) → GoesInTime t x z l b v how reader ahead
  goes_then l b v w how reader ahead ran so_far next on =
      let after = walk_after l t.told t.clock_told b.link z.link b.coming z.coming b.beginning (now_at z) how false reader ahead next.goes in
      record {
        goes = next.goes;
        ran_on = run_more l b.beginning.place b.beginning.opening.first.fold.table v w after ran next.ran_on;
        timely = timely_more l t b x.link y.link y.seat.seen y.users.seen w so_far (reached_at z) after next.ran_on next.timely on;
      }

-- what a call does to a session is so for the language and the seats that the session began with
module _ (t : Telling) (x y : DeskAt) (h : InHand) (reader : Reader) (ahead : List ℕ) (how : Result Progress Stopped) (shelf : Contents) (seat : SeatAt) (users : UserSeatAt) where
  pub moved_goes : x.shelf ≡ shelf → IsSameSeat seat x.seat → IsSameUserSeat users x.users → GoesTo t x y h reader ahead how
      → (first : SessionUser) (k : LinkState) (c : List Moment) (b : Beginning) → IsAt b seat users
      → (s : Stands (language_for first shelf) t.told t.clock_told k x.link c x.coming b (now_at x) h.due h.kind h.reader h.ahead) → GoesInTime t x y (language_for first shelf) (starting k c b) s.past.walk how reader ahead
  moved_goes shelf_is seat_is users_are goes first k c b at stands =
      let there = subst (λ (z : Contents). (k : LinkState) (c : List Moment) (b : Beginning) → IsAt b x.seat x.users → (s : Stands (language_for first z) t.told t.clock_told k x.link c x.coming b (now_at x) h.due h.kind h.reader h.ahead) → GoesInTime t x y (language_for first z) (starting k c b) s.past.walk how reader ahead) shelf_is (goes first) in
      there k c b (seat_is.0 ∙ at.0, seat_is.1 ∙ at.1, users_are.0 ∙ at.2, users_are.1 ∙ at.3) stands

-- a call behind a read, in a session that had stood so before it
module _ (t : Telling) (x y : DeskAt) (h : InHand) (reader : Reader) (ahead : List ℕ) (how : Result Progress Stopped) (shelf : Contents) (seat : SeatAt) (users : UserSeatAt) (user : SessionUser) (k j : LinkState) (c : List Moment) where
  abbrev l : Language Request Moment
  l = language_for user shelf

  pub record ReadOn (b : Beginning) (after : Result Progress Stopped) : Type 0 where
    pub goes : Goes l t.told t.clock_told k y.link c y.coming b (now_at y) after false reader ahead
    pub timely : IsTimely l t (starting k c b) k (reached_at y) (walk_after l t.told t.clock_told k y.link c y.coming b (now_at y) after false reader ahead goes)

  pub read_goes : x.shelf ≡ shelf → IsSameSeat seat x.seat → IsSameUserSeat users x.users → GoesTo t x y h reader ahead how → (got : Got) (buffer : List ℕ) → IsRead t.told j x.link got buffer → (after : Result Progress Stopped) → how ≡ after
      → (b : Beginning) → IsAt b seat users → (v : Walk Request Moment) → IsTimely l t (starting k c b) k (reached j.written x.seat.seen x.users.seen) v → GoesOn t.told b (reached_at x) (reached_at y)
      → (s : Stands l t.told t.clock_told k x.link c x.coming b (now_at x) h.due h.kind h.reader h.ahead) → RunsOn l b.place b.opening.first.fold.table v s.past.walk → ReadOn b after
  read_goes shelf_is seat_is users_are call got buffer read after is b at v so_far on s ran =
      let next = subst (λ (z : Result Progress Stopped). GoesInTime t x y l (starting k c b) s.past.walk z reader ahead) is (moved_goes t x y h reader ahead how shelf seat users shelf_is seat_is users_are call user k c b at s) in
      let end = walk_after l t.told t.clock_told k y.link c y.coming b (now_at y) after false reader ahead next.goes in
      record {
        goes = next.goes;
        timely = timely_read l t (starting k c b) k j x.seat.seen x.users.seen v so_far (reached_at y) end (run_more l b.place b.opening.first.fold.table v s.past.walk end ran next.ran_on) x.link got buffer read next.timely on;
      }

-- messages after one another, of which the first was begun so
pub stamped_more : (stamped : Stamp → Type 0) (s : Stamp) (seat : SeatAt) (users : UserSeatAt) (j m : LinkState) (c d : List Moment) → seat ≡ s.seat → users ≡ s.users → AreStamped stamped s j c → AreStamped stamped (stamp_at c j seat users) m d → AreStamped stamped s m d
stamped_more stamped s seat users j m c d seat_is users_is first next = elim first [
  | inl none ↦ subst (λ (w : (LinkState × List Moment) × (SeatAt × UserSeatAt)). AreStamped stamped (stamp_at w.0.1 w.0.0 w.1.0 w.1.1) m d) (λ i. ((none.0 i, none.1 i), (seat_is i, users_is i))) next
  | inr there ↦ inr there
]
