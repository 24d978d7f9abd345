-- How a session stands that looked whether its user's sessions were ended.
use Rattle.std.proofs.Common.{◌≡◌, ◌≤◌, ◌<◌, ◌++◌, ℕ, zero, suc, Bool, true, false, List, [], append-nil, inl, inr, refl, sym, ◌∙◌, ap, subst, arith}
use Rattle.std.proofs.Math.Nat.{eq-or-lt_of_le}
use base.Stored.{Gv}
use Rattle.turnstile.specs.Dating.{Stamp as DateStamp}
use Rattle.dxc_causes.specs.Causes.{Counted}
use Rattle.dxc_outside.specs.declared.clock.Moment.{Moment}
use Rattle.dxc_outside.specs.declared.gate.GatePlace.{GatePlace}
use Rattle.dxc_outside.specs.Links.{LinkState}
use Rattle.dxc_model.specs.declared.entry.Entry.{Entry}
use Rattle.dxc_model.specs.declared.user.SessionUser.{SessionUser}
use Rattle.dxc_model.specs.declared.user.SessionUser.TheVariants.{Nobody, User}
use Rattle.tl1_text.specs.declared.reader.UnitKind.TheVariants.{More}
use Rattle.tl1_text.specs.Reading.{Reader}
use Rattle.user_admin.specs.declared.op.UserEntry.{UserEntry}
use Rattle.user_admin.specs.Histories.{Opening as UsersOpening}
use Rattle.user_admin.specs.Occupants.{is_cancelled}
use Rattle.user_admin.specs.Turns.{Saw as SawUsers}
use Rattle.xc_core.specs.Seeing.{Saw}
use Rattle.craft_session.specs.declared.attending.Attending.{Attending}
use Rattle.craft_session.specs.declared.patience.Patience.{Patience}
use Rattle.craft_session.specs.declared.patience.Patience.TheVariants.{Limited}
use Rattle.craft_session.specs.Asks.{Language}
use Rattle.craft_session.specs.Cancelling.{Heeded, Heeds, IsUnended, looking}
use Rattle.craft_session.specs.Gated.{AreEntered, at_users, users_kept}
use Rattle.craft_session.specs.Happenings.{Request}
use Rattle.craft_session.specs.Noted.{IsBeside, stood}
use Rattle.craft_session.specs.Seats.{IsSameSeat, IsSameUserSeat, SeatAt, UserSeatAt, UsersInTurn}
use Rattle.craft_session.specs.Sessions.{Beginning, IsAt, IsEnded, IsFrom, Now, Stands, now_of}
use Rattle.craft_session.specs.Runs.{begins}
use Rattle.craft_session.specs.Timely.{GoesOn, IsTimely, Telling, reached, starting}
use Rattle.craft_session.proofs.Consulted.{consulted_back}
use Rattle.craft_session.proofs.Done.{UsersTurned, done_back, users_turned}
use Rattle.craft_session.proofs.Gated.{are_entered_on}
use Rattle.craft_session.proofs.SessionSteps.{served_here}
use Rattle.craft_session.proofs.Timely.{timely_more, timely_none}

-- a look that was made after what a seat had seen
abbrev pub HeededBy : Patience → SessionUser → UserSeatAt → List Gv → Bool → Type 0
HeededBy patience user seat then_seen cancelled = (h : List UserEntry) → SawUsers seat.opening seat.seen h → Heeded (looking patience user seat) h then_seen cancelled

module _ (patience : Patience) (user : SessionUser) (was : SeatAt) (seat : UserSeatAt) (then_seen : List Gv) (cancelled : Bool) (heeded : HeededBy patience user seat then_seen cancelled) where
  -- of a beginning whose openings and place are the seat's
  module _ (b : Beginning) (at : IsAt b was seat) where
    pub heeded_at : (h : List UserEntry) → SawUsers b.users seat.seen h → Heeded (looking patience user (record seat { opening = b.users; place = b.place })) h then_seen cancelled
    heeded_at = subst (λ (w : UsersOpening × ℕ). (h : List UserEntry) → SawUsers w.0 seat.seen h → Heeded (looking patience user (record seat { opening = w.0; place = w.1 })) h then_seen cancelled) (λ i. (at.2 i, at.3 i)) heeded

    module _ (l : Language Request Moment) (told clock_told : Type 0) (k j : LinkState) (c d : List Moment) (now : Now) (seen_is : now.users ≡ seat.seen) (r : Reader) (stamps : List DateStamp) (turned : UsersTurned b.place now (record now { users = then_seen; users_stamps = stamps })) where
      abbrev pub looked_stands : Stands l told clock_told k j c d b now false More r [] → Stands l told clock_told k j c d b (record now { users = then_seen; users_stamps = stamps }) false More r []
      looked_stands s = let p = s.past in record {
        items = s.items;
        rest = s.rest;
        out = s.out;
        exchanged = s.exchanged;
        no_fault = s.no_fault;
        made = s.made;
        past = record {
          walk = p.walk;
          happened = p.happened;
          gave = p.gave;
          run = p.run;
          saw = p.saw;
          consulted = consulted_back l b now.users then_seen p.walk.happenings p.walk.attending.user p.consulted (λ h saw. (heeded_at h (subst (λ (v : List Gv). SawUsers b.users v h) seen_is saw)).back);
          done = done_back l b now p.walk p.done (record now { users = then_seen; users_stamps = stamps }) turned p.consulted.history p.consulted.saw (heeded_at p.consulted.history (subst (λ (v : List Gv). SawUsers b.users v p.consulted.history) seen_is p.consulted.saw)).back refl;
          attending = p.attending;
          looked = p.looked;
          written = p.written;
        };
      }

      told_of : (s : Stands l told clock_told k j c d b now false More r []) → Heeded (looking patience user (record seat { opening = b.users; place = b.place })) s.past.consulted.history then_seen cancelled
      told_of s = heeded_at s.past.consulted.history (subst (λ (v : List Gv). SawUsers b.users v s.past.consulted.history) seen_is s.past.consulted.saw)

      -- its user's sessions were ended
      pub ended_stands : cancelled ≡ true → (s : Stands l told clock_told k j c d b now false More r []) → IsEnded b.place user (looked_stands s).past.consulted.history
      unfolding heeded_at told_of
      ended_stands is s = (told_of s).ended is

      -- or go on
      pub unended_stands : cancelled ≡ false → patience ≡ Limited → (s : Stands l told clock_told k j c d b now false More r []) → IsUnended b.place user (looked_stands s).past.consulted.history
      unfolding heeded_at told_of
      unended_stands is limits s = (told_of s).goes_on is limits

    pub looked_on : (told : Type 0) (written : List ℕ) (seen : List Gv) → GoesOn told b (reached written seen seat.seen) (reached written seen then_seen)
    looked_on told written seen = record {
      written = λ t. ([], sym (append-nil written));
      sees_on = λ h g saw saw_users.
          let x = (heeded_at g saw_users).back in
          record { entries = []; users_entries = x.later; saw = subst (λ (l : List Entry). Saw b.opening seen l) (sym (append-nil h)) saw; saw_users = x.saw };
    }

  pub looked_entered : (asked : List GatePlace → Type 0) → asked [] → AreEntered was seat asked was.seen then_seen
  looked_entered asked none = λ h g saw saw_users.
      let x = (heeded g saw_users).back in
      record {
        entries = [];
        users_entries = x.later;
        saw = subst (λ (l : List Entry). Saw was.opening was.seen l) (sym (append-nil h)) saw;
        saw_users = x.saw;
        places = [];
        were = none;
        gated = at_users h x.later [] (users_kept x.later x.others);
      }

-- a look is beside what is noted
pub beside_look : (told : Type 0) (link : LinkState) (coming : List Moment) (patience : Patience) (cancelled : Bool) (seat seat_then : SeatAt) (users then : UserSeatAt) (attending attends : Attending) → seat_then ≡ seat → IsSameUserSeat users then → HeededBy patience attending.user users then.seen cancelled → attends ≡ attending
    → IsBeside told (stood link coming seat users attending) (stood link coming seat_then then attends)
beside_look told link coming patience cancelled seat seat_then users then attending attends seat_is same heeded attends_is = record {
  wrote = λ t. ([], sym (append-nil link.written));
  seat = (ap (λ (s : SeatAt). s.opening) seat_is, ap (λ (s : SeatAt). s.place) seat_is, ap (λ (s : SeatAt). s.places) seat_is, ap (λ (s : SeatAt). s.turnstile) seat_is);
  same = same;
  looked = inl (ap (λ (s : SeatAt). s.seen) seat_is);
  users = inr (λ h saw. (heeded h saw).back);
  user = ap (λ (a : Attending). a.user) attends_is;
}

-- what a look tells of who is logged in
pub never_ended : {X : Type 0} → false ≡ true → X
never_ended is = absurd cc

pub nobody_unended : (place : ℕ) (user : SessionUser) (h : List UserEntry) → user ≡ Nobody → IsUnended place user h
nobody_unended place user h is = subst (λ (u : SessionUser). IsUnended place u h) (sym is) tt

pub ended_by : (place : ℕ) (user : SessionUser) (h : List UserEntry) → (user ≡ Nobody → ⊥) → is_cancelled place h ≡ true → IsEnded place user h
ended_by place Nobody h some is = absurd (some refl)
ended_by place (User uid class) h some is = is

pub unended_by : (place : ℕ) (user : SessionUser) (h : List UserEntry) → is_cancelled place h ≡ false → IsUnended place user h
unended_by place Nobody h is = tt
unended_by place (User uid class) h is = is

-- somebody was logged in
pub somebody_ended : (place : ℕ) (user : SessionUser) (h : List UserEntry) → IsEnded place user h → user ≡ Nobody → ⊥
somebody_ended place user h ended is = subst (λ (u : SessionUser). IsEnded place u h) is ended

-- and so some read was made
pub made_one : {X : Type 0} (n : ℕ) → (n ≡ 0 → ⊥) → (0 < n → X) → X
made_one zero none some = absurd (none refl)
made_one (suc n) none some = some (omega arith)

-- how a session stands in its loop, after the look, that began at these seats
module _ (l : Language Request Moment) (t : Telling) {X : Type 0} (asked : X → X → List GatePlace → Type 0) (on : (a b c : X) (ps qs : List GatePlace) → asked a b ps → asked b c qs → asked a c (ps ++ qs)) (unasked : (x : X) → asked x x []) (k j : LinkState) (c d : List Moment) (began : SeatAt) (users_began : UserSeatAt) (a z : X) where
  -- what holds before the look, too
  pub record InLoop (seat : SeatAt) (users : UserSeatAt) (attending : Attending) (reader : Reader) : Type 0 where
    pub seat_is : IsSameSeat began seat
    pub users_are : IsSameUserSeat users_began users
    pub stands : (b : Beginning) → IsAt b began users_began → Saw b.opening began.seen b.before → SawUsers b.users users_began.seen b.users_before → IsFrom b began users_began → Stands l t.told t.clock_told k j c d b (now_of seat users attending) false More reader []
    pub timely : (b : Beginning) (at : IsAt b began users_began) (saw : Saw b.opening began.seen b.before) (users_saw : SawUsers b.users users_began.seen b.users_before) (first : IsFrom b began users_began) → IsTimely l t (starting k c b) k (reached j.written seat.seen users.seen) (stands b at saw users_saw first).past.walk
    pub entered : AreEntered began users_began (asked a z) seat.seen users.seen

  pub record Looked (patience : Patience) (cancelled : Bool) (seat : SeatAt) (users : UserSeatAt) (attending : Attending) (reader : Reader) : Type 0 where
    pub here : InLoop seat users attending reader
    pub ended : cancelled ≡ true → (b : Beginning) (at : IsAt b began users_began) (saw : Saw b.opening began.seen b.before) (users_saw : SawUsers b.users users_began.seen b.users_before) (first : IsFrom b began users_began) → IsEnded b.place attending.user (here.stands b at saw users_saw first).past.consulted.history
    pub unended : cancelled ≡ false → patience ≡ Limited → (b : Beginning) (at : IsAt b began users_began) (saw : Saw b.opening began.seen b.before) (users_saw : SawUsers b.users users_began.seen b.users_before) (first : IsFrom b began users_began) → IsUnended b.place attending.user (here.stands b at saw users_saw first).past.consulted.history

  module _ (patience : Patience) (cancelled : Bool) (seat : SeatAt) (users then : UserSeatAt) (attending : Attending) (reader : Reader) (i : InLoop seat users attending reader) (same : IsSameUserSeat users then) (in_turn : UsersInTurn seat users then) (heeded : HeededBy patience attending.user users then.seen cancelled) where
    abbrev at_here : (b : Beginning) → IsAt b began users_began → IsAt b seat users
    at_here b at = (i.seat_is.0 ∙ at.0, i.seat_is.1 ∙ at.1, i.users_are.0 ∙ at.2, i.users_are.1 ∙ at.3)

    abbrev was : Now
    was = now_of seat users attending

    turned_here : (b : Beginning) → IsAt b began users_began → UsersTurned b.place was (now_of seat then attending)
    turned_here b at = users_turned b seat seat users then (at_here b at) was (now_of seat then attending) refl refl refl refl refl in_turn

    looked_here : Looked patience cancelled seat then attending reader
    looked_here = record {
      here = record {
        seat_is = i.seat_is;
        users_are = (same.0 ∙ i.users_are.0, same.1 ∙ i.users_are.1, same.2 ∙ i.users_are.2, same.3 ∙ i.users_are.3);
        stands = λ b at saw users_saw first. looked_stands patience attending.user seat users then.seen cancelled heeded b (at_here b at) l t.told t.clock_told k j c d was refl reader then.stamps (turned_here b at) (i.stands b at saw users_saw first);
        timely = λ b at saw users_saw first.
            let v = (i.stands b at saw users_saw first).past.walk in
            timely_more l t (starting k c b) k j seat.seen users.seen v (i.timely b at saw users_saw first) (reached j.written seat.seen then.seen) v begins (timely_none l t (starting k c b) j (reached j.written seat.seen then.seen) v refl) (looked_on patience attending.user seat users then.seen cancelled heeded b (at_here b at) t.told j.written seat.seen);
        entered = are_entered_on asked on began seat users_began users a z z seat.seen then.seen i.entered i.seat_is i.users_are (looked_entered patience attending.user seat users then.seen cancelled heeded (asked z z) (unasked z));
      };
      ended = λ is b at saw users_saw first. ended_stands patience attending.user seat users then.seen cancelled heeded b (at_here b at) l t.told t.clock_told k j c d was refl reader then.stamps (turned_here b at) is (i.stands b at saw users_saw first);
      unended = λ is limits b at saw users_saw first. unended_stands patience attending.user seat users then.seen cancelled heeded b (at_here b at) l t.told t.clock_told k j c d was refl reader then.stamps (turned_here b at) is limits (i.stands b at saw users_saw first);
    }

    -- what else a desk has stays
    pub looked : (seat_then : SeatAt) (attends : Attending) (reads : Reader) → seat_then ≡ seat → attends ≡ attending → reads ≡ reader → Looked patience cancelled seat_then then attends reads
    looked seat_then attends reads seat_is attends_is reads_is = subst (λ (w : SeatAt × (Attending × Reader)). Looked patience cancelled w.0 then w.1.0 w.1.1) (λ i. (sym seat_is i, (sym attends_is i, sym reads_is i))) looked_here

module _ (l : Language Request Moment) (begun : LinkState → Type 0) (told clock_told : Type 0) (k : LinkState) (c : List Moment) (old : SeatAt) (users : UserSeatAt) where
  pub heeds_none : Heeds l begun told clock_told k c old users k
  heeds_none b at saw users_saw first n from below = absurd (omega (arith, from, below))

  -- it stands so, and goes on
  abbrev pub StandsOn : LinkState → List Moment → Now → Reader → Beginning → Type 0
  StandsOn j d now r b = (s : Stands l told clock_told k j c d b now false More r []) × IsUnended b.place now.attending.user s.past.consulted.history

  -- a read, and writes after it
  pub heeds_more : (j m : LinkState) (reads : ℕ) (d : List Moment) (now : Now) (r : Reader) → Heeds l begun told clock_told k c old users j → begun j
      → ((b : Beginning) → IsAt b old users → Saw b.opening old.seen b.before → SawUsers b.users users.seen b.users_before → IsFrom b old users → StandsOn j d now r b)
      → Counted j.reads reads 1 → m.reads ≡ reads → Heeds l begun told clock_told k c old users m
  heeds_more j m reads d now r so_far begun_j stands one same b at saw users_saw first n from below =
      let within : n ≤ j.reads = omega (arith, below, same, one.no_more) in
      elim (eq-or-lt_of_le within) [
        | inl is ↦ (let s = stands b at saw users_saw first in (record { link = j; begun_at = begun_j; number_is = sym is; clock = d; now = now; served = served_here _ _ _ _ _ _ _ _ _ _ s.0 }, s.1))
        | inr less ↦ so_far b at saw users_saw first n from less
      ]
