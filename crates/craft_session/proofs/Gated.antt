-- Where the gate was asked for entries, one turn longer.
use Rattle.std.specs.Prelude.{replicate}
use Rattle.std.proofs.Common.{◌≡◌, ◌≢◌, ℕ, ◌+◌, Bool, true, false, length, drop, List, [], ◌∷◌, ◌++◌, append-nil, append_assoc, ◌⊎◌, None, Some, refl, sym, ap, subst, inl, inr}
use base.Stored.{Gv}
use Rattle.turnstile.specs.Turning.{Each}
use Rattle.dxc_disk.specs.Disks.{DiskState}
use Rattle.dxc_outside.specs.declared.gate.GatePlace.{GatePlace}
use Rattle.dxc_outside.specs.declared.gate.GatePlace.TheVariants.{Journal, Register}
use Rattle.dxc_model.specs.declared.cause.Cause.{Cause}
use Rattle.dxc_model.specs.declared.cause.Cause.TheVariants.{DiskFault}
use Rattle.dxc_model.specs.Histories.{holder}
use Rattle.roll_plan.specs.Works.{writes_of}
use Rattle.roll_engine.specs.Rollings.{RollingAt, rest_of}
use Rattle.dxc_model.specs.declared.entry.Entry.{Entry}
use Rattle.dxc_model.specs.declared.entry.Outcome.TheVariants.{Done, Failed, Restarted, Cut, Taken}
use Rattle.dxc_model.specs.declared.op.Op.{Op}
use Rattle.dxc_model.specs.declared.op.Op.TheVariants.{Restart}
use Rattle.user_admin.specs.declared.op.UserEntry.{UserEntry}
use Rattle.user_admin.specs.Histories.{Opening as UsersOpening}
use Rattle.user_admin.specs.Turns.{Saw as SawUsers, Turned as UsersTurned}
use Rattle.xc_core.specs.declared.restarts.Held.{Held}
use Rattle.xc_core.specs.declared.restarts.Held.TheVariants as held
use Rattle.xc_core.specs.declared.turns.Took.{Took}
use Rattle.xc_core.specs.declared.turns.Took.TheVariants as took
use Rattle.xc_core.specs.declared.provisioner.Provisioner.{Provisioner}
use Rattle.xc_core.specs.Seeing.{HasTaken, Saw, Turned, TurnedBack, entry, refused}
use Rattle.xc_core.specs.States.{Opening}
use Rattle.xc_core.specs.Turns.{DoneIs, HoldIs, RestartedIs, TookIs}
use Rattle.craft_session.specs.Askings.{AskedToStop, asked_for}
use Rattle.craft_session.specs.Gated.{AreEntered, AreUsersEntered, BothEntered, Entered, IsGated, IsOfWork, IsOutFor, IsUserGated, IsWorkOf, NothingAsked, UsersEntered, after_journal, are_gated_on, at_state, at_users, by_others, changes, denies, fails_before, fails_behind, gated_on, restarts, stops_between, stops_first, stops_last, takes}
use Rattle.craft_session.specs.Seats.{IsSameSeat, IsSameUserSeat, SeatAt, UserSeatAt}
use Rattle.xc_core.proofs.Turning.{saw_once}

-- whether the place has the Provisioner out after the turn
abbrev pub takes_out : {D : Type 0} → Took D → Bool
takes_out (took.Rolling d bytes) = true
takes_out _ = false

abbrev pub holds_out : {D : Type 0} → Held D → Bool
holds_out (held.Held d) = true
holds_out held.Waits = false

module _ (o : Opening) (place : ℕ) (seen : List Gv) (h k later : List Entry) (saw_h : Saw o seen h) (saw_k : Saw o seen k) (others : Each (λ e. e.place ≢ place) later) where
  -- the Provisioner is out, whatever others entered since
  abbrev pub still_out : (op : Op) → holder None k ≡ Some (entry place op Taken) → IsOutFor place op (h ++ later)
  still_out op held = record { taken = k; later = later; all = ap (λ (l : List Entry). l ++ later) (saw_once o seen h k saw_h saw_k); others = others; held = held }

  -- and the work that a place has in hand, of which no write is made
  pub work_in_hand : {D : Type 0} (told : Type 0) (state : D → DiskState) (op : Op) (p : Provisioner D) (r : RollingAt) → HasTaken told state o place op k p r → r.step ≡ 0 → IsWorkOf o place op (h ++ later) (length (rest_of r))
  work_in_hand told state op p r t unmade = record {
    out = still_out op t.out.held;
    past = t.out.now;
    reckoned = t.out.reckoned;
    change = t.change;
    granted = t.rolls.granted;
    ops = r.work.ops.items;
    planned = t.rolls.planned;
    writes_are = ap (λ (n : ℕ). length (drop n (writes_of r.work))) unmade;
  }

module _ (o : Opening) (place : ℕ) (asked : List GatePlace → Type 0) (h : List Entry) (seen : List Gv) where
  pub entered_none : asked [] → Saw o seen h → Entered o place asked false false h seen
  entered_none none saw = record { entries = []; saw = subst (λ (l : List Entry). Saw o seen l) (sym (append-nil h)) saw; places = []; were = none; gated = by_others h false [] tt }

  -- others entered alone
  pub entered_back : asked [] → TurnedBack o place h seen → Entered o place asked false false h seen
  entered_back none t = record { entries = t.later; saw = t.saw; places = []; were = none; gated = by_others h false t.later t.others }

  -- others, and then the place
  pub entered_by : (out then_out : Bool) (e : Entry) (ps : List GatePlace) (t : Turned o place h e seen) → IsGated o place (h ++ t.later) out (e ∷ []) ps then_out → asked ps → Entered o place asked out then_out h seen
  entered_by out then_out e ps t gated were = record {
    entries = t.later ++ e ∷ [];
    saw = subst (λ (l : List Entry). Saw o seen l) (append_assoc h t.later (e ∷ [])) t.saw;
    places = ps;
    were = were;
    gated = gated_on h out out then_out t.later (e ∷ []) [] ps (by_others h out t.later t.others) gated;
  }

  pub entered_at : (out then_out : Bool) (e : Entry) (ps : List GatePlace) → ((k : List Entry) → IsGated o place k out (e ∷ []) ps then_out) → asked ps → Turned o place h e seen → Entered o place asked out then_out h seen
  entered_at out then_out e ps gated were t = entered_by out then_out e ps t (gated (h ++ t.later)) were

  module _ {D : Type 0} (told : Type 0) (state : D → DiskState) (op : Op) where
    take_by : (t : Took D) → asked [] → TookIs told state o place h op seen t → Entered o place asked false (takes_out t) h seen
    take_by (took.Rolling d bytes) were x = entered_at false true (entry place op Taken) [] (λ k. takes k op) were x.0
    take_by (took.Denied q) were x = entered_at false false (entry place op (refused q)) [] (λ k. denies k op q) were x.0
    take_by took.Halted were x = entered_back were x.0
    take_by took.Waits were x = entered_back were x.0

    -- the turn in which a change was to begin
    pub entered_take : (t : Took D) (out : Bool) → takes_out t ≡ out → asked [] → TookIs told state o place h op seen t → Entered o place asked false out h seen
    entered_take t out is were x = subst (λ (b : Bool). Entered o place asked false b h seen) is (take_by t were x)

    hold_by : (t : Held D) → asked [] → HoldIs told state o place h op seen t → Entered o place asked false (holds_out t) h seen
    hold_by (held.Held d) were x = entered_at false true (entry place Restart Taken) [] (λ k. takes k Restart) were x.0
    hold_by held.Waits were x = entered_back were x.0

    -- that in which a restart was
    pub entered_hold : (t : Held D) (out : Bool) → holds_out t ≡ out → asked [] → HoldIs told state o place h op seen t → Entered o place asked false out h seen
    entered_hold t out is were x = subst (λ (b : Bool). Entered o place asked false b h seen) is (hold_by t were x)

-- the journal was called outside of any turn
module _ (o : Opening) (place : ℕ) (asked : List GatePlace → Type 0) (h : List Entry) (seen : List Gv) where
  -- whatever others entered since
  abbrev pub Stays : (List Entry → Type 0) → Type 0
  Stays P = (later : List Entry) → Each (λ e. e.place ≢ place) later → P (h ++ later)

  -- a work was driven to its end, or to a stop
  pub entered_change : (op : Op) (writes : ℕ) → Stays (λ k. IsWorkOf o place op k writes) → asked (asked_for writes) → DoneIs o place h op seen → Entered o place (after_journal asked) true false h seen
  entered_change op writes work were x = entered_by o place (after_journal asked) h seen true false (entry place op (Done x.0)) (Journal ∷ asked_for writes) x.1 (changes (h ++ x.1.later) op x.0 writes (work x.1.later x.1.others)) (asked_for writes, refl, were)

  pub entered_restart : (op : Op) (writes : ℕ) → Stays (IsOutFor place Restart) → asked (asked_for writes) → RestartedIs o place h op seen → Entered o place (after_journal asked) true false h seen
  entered_restart op writes out were x = entered_by o place (after_journal asked) h seen true false (entry place Restart (Restarted x.0)) (Journal ∷ asked_for writes) x.1 (restarts (h ++ x.1.later) x.0 writes (out x.1.later x.1.others)) (asked_for writes, refl, were)

  pub entered_stop : (op : Op) (writes : ℕ) → Stays (λ k. IsOfWork o place op k writes) → AskedToStop asked writes → Turned o place h (entry place op Cut) seen → Entered o place (after_journal asked) true false h seen
  entered_stop op writes work were t = elim were [
    | inl y ↦ entered_by o place (after_journal asked) h seen true false (entry place op Cut) (Journal ∷ replicate (y.0 + 1) Register) t (stops_between (h ++ t.later) op y.0 writes y.1 (work t.later t.others)) (replicate (y.0 + 1) Register, refl, y.2)
    | inr y ↦ entered_by o place (after_journal asked) h seen true false (entry place op Cut) (Journal ∷ asked_for writes) t (stops_last (h ++ t.later) op writes (work t.later t.others)) (asked_for writes, refl, y)
  ]

  -- it failed, or the gate stopped there
  pub entered_fault : (op : Op) (q : Cause) → ((q ≡ DiskFault) × asked [] × Stays (IsOutFor place Restart)) ⊎ asked (Journal ∷ []) → Turned o place h (entry place op (Failed q)) seen → Entered o place asked true false h seen
  entered_fault op q were t = elim were [
    | inl none ↦ entered_by o place asked h seen true false (entry place op (Failed q)) [] t (subst (λ (c : Cause). IsGated o place (h ++ t.later) true (entry place op (Failed c) ∷ []) [] false) (sym none.0) (fails_before (h ++ t.later) op (none.2 t.later t.others))) none.1
    | inr one ↦ entered_at o place asked h seen true false (entry place op (Failed q)) (Journal ∷ []) (λ k. fails_behind k op q) one t
  ]

  pub entered_unnoted : (op : Op) → asked (Journal ∷ []) → Turned o place h (entry place op Cut) seen → Entered o place asked true false h seen
  entered_unnoted op were t = entered_at o place asked h seen true false (entry place op Cut) (Journal ∷ []) (λ k. stops_first k op) were t

-- a turn at the users
pub users_entered_at : (o : UsersOpening) (place : ℕ) (asked : List GatePlace → Type 0) (h : List UserEntry) (seen : List Gv) (e : UserEntry) (ps : List GatePlace) → ((es : List UserEntry) → Each (λ x. x.place ≢ place) es → IsUserGated place (es ++ e ∷ []) ps) → asked ps → UsersTurned o place h e seen → UsersEntered o place asked h seen
users_entered_at o place asked h seen e ps gated were t = record {
  entries = t.later ++ e ∷ [];
  saw = subst (λ (l : List UserEntry). SawUsers o seen l) (append_assoc h t.later (e ∷ [])) t.saw;
  places = ps;
  were = were;
  gated = gated t.later t.others;
}

-- a part in which nothing was asked, at a gate
pub entered_beside : (o : Opening) (place : ℕ) (asked : List GatePlace → Type 0) (h : List Entry) (seen : List Gv) → asked [] → Entered o place NothingAsked false false h seen → Entered o place asked false false h seen
entered_beside o place asked h seen none x = record { entries = x.entries; saw = x.saw; places = x.places; were = subst asked (sym x.were) none; gated = x.gated }

pub users_entered_beside : (u : UserSeatAt) (asked : List GatePlace → Type 0) (seen : List Gv) → asked [] → AreUsersEntered u NothingAsked seen → AreUsersEntered u asked seen
users_entered_beside u asked seen none entered = λ h saw.
    let x = entered h saw in
    record { entries = x.entries; saw = x.saw; places = x.places; were = subst asked (sym x.were) none; gated = x.gated }

module _ (s : SeatAt) (u : UserSeatAt) (asked : List GatePlace → Type 0) where
  pub are_entered_none : asked [] → AreEntered s u asked s.seen u.seen
  are_entered_none none = λ h g saw saw_users. record {
    entries = [];
    users_entries = [];
    saw = subst (λ (l : List Entry). Saw s.opening s.seen l) (sym (append-nil h)) saw;
    saw_users = subst (λ (l : List UserEntry). SawUsers u.opening u.seen l) (sym (append-nil g)) saw_users;
    places = [];
    were = none;
    gated = at_state h [] [] (by_others h false [] tt);
  }

  -- at the users alone
  pub are_entered_users : (seen users_seen : List Gv) → seen ≡ s.seen → AreUsersEntered u asked users_seen → AreEntered s u asked seen users_seen
  are_entered_users seen users_seen same entered = λ h g saw saw_users.
      let x = entered g saw_users in
      record {
        entries = [];
        users_entries = x.entries;
        saw = subst (λ (w : List Gv × List Entry). Saw s.opening w.0 w.1) (λ i. (sym same i, sym (append-nil h) i)) saw;
        saw_users = x.saw;
        places = x.places;
        were = x.were;
        gated = at_users h x.entries x.places x.gated;
      }

-- a gate between two moments, and on from there
module _ {X : Type 0} (asked : X → X → List GatePlace → Type 0) (on : (a b c : X) (xs ys : List GatePlace) → asked a b xs → asked b c ys → asked a c (xs ++ ys)) where
  pub entered_on : (a b c : X) (o : Opening) (place n : ℕ) (first between last : Bool) (h : List Entry) (mid seen : List Gv) → n ≡ place → Entered o place (asked a b) first between h mid
      → ((k : List Entry) → Saw o mid k → Entered o n (asked b c) between last k seen) → Entered o place (asked a c) first last h seen
  entered_on a b c o place n first between last h mid seen same x more =
      let y = subst (λ (m : ℕ). Entered o m (asked b c) between last (h ++ x.entries) seen) same (more (h ++ x.entries) x.saw) in
      record {
        entries = x.entries ++ y.entries;
        saw = subst (λ (l : List Entry). Saw o seen l) (append_assoc h x.entries y.entries) y.saw;
        places = x.places ++ y.places;
        were = on a b c x.places y.places x.were y.were;
        gated = gated_on h first between last x.entries y.entries x.places y.places x.gated y.gated;
      }

  -- the work after the journal
  pub entered_noted : (a b c : X) (o : Opening) (place : ℕ) (h : List Entry) (seen : List Gv) → asked a b (Journal ∷ []) → Entered o place (after_journal (asked b c)) true false h seen → Entered o place (asked a c) true false h seen
  entered_noted a b c o place h seen first x = record {
    entries = x.entries;
    saw = x.saw;
    places = x.places;
    were = subst (λ (ps : List GatePlace). asked a c ps) (sym x.were.1) (on a b c (Journal ∷ []) x.were.0 first x.were.2);
    gated = x.gated;
  }

  -- after other turns that in which a change was to begin
  pub entered_take_on : (a b c : X) (o : Opening) (place n : ℕ) (h : List Entry) (mid seen : List Gv) {D : Type 0} (told : Type 0) (state : D → DiskState) (op : Op) (t : Took D) (out : Bool) → takes_out t ≡ out → n ≡ place → Entered o place (asked a b) false false h mid
      → asked b c [] → ((k : List Entry) → Saw o mid k → TookIs told state o n k op seen t) → Entered o place (asked a c) false out h seen
  entered_take_on a b c o place n h mid seen told state op t out is same x were turn = entered_on a b c o place n false false out h mid seen same x (λ k saw. entered_take o n (asked b c) k seen told state op t out is were (turn k saw))

  -- turns of one seat after those of both
  pub are_entered_at : (s t : SeatAt) (u : UserSeatAt) (a b c : X) (mid seen users_mid users_seen : List Gv) → AreEntered s u (asked a b) mid users_mid → t.seen ≡ mid → IsSameSeat s t → users_seen ≡ users_mid
      → ((k : List Entry) → Saw t.opening t.seen k → Entered t.opening t.place (asked b c) false false k seen) → AreEntered s u (asked a c) seen users_seen
  are_entered_at s t u a b c mid seen users_mid users_seen first is same users_is more = λ h g saw saw_users.
      let x = first h g saw saw_users in
      let next : (k : List Entry) → Saw s.opening mid k → Entered s.opening s.place (asked b c) false false k seen = subst (λ (w : Opening × (ℕ × List Gv)). (k : List Entry) → Saw w.0 w.1.1 k → Entered w.0 w.1.0 (asked b c) false false k seen) (λ i. (same.0 i, (same.1 i, is i))) more in
      let y = next (h ++ x.entries) x.saw in
      record {
        entries = x.entries ++ y.entries;
        users_entries = x.users_entries ++ [];
        saw = subst (λ (l : List Entry). Saw s.opening seen l) (append_assoc h x.entries y.entries) y.saw;
        saw_users = subst (λ (w : List Gv × List UserEntry). SawUsers u.opening w.0 (g ++ w.1)) (λ i. (sym users_is i, sym (append-nil x.users_entries) i)) x.saw_users;
        places = x.places ++ y.places;
        were = on a b c x.places y.places x.were y.were;
        gated = are_gated_on h x.entries y.entries x.users_entries [] x.places y.places x.gated (at_state (h ++ x.entries) y.entries y.places y.gated);
      }

  -- turns of both after those of both
  pub are_entered_on : (s t : SeatAt) (u v : UserSeatAt) (a b c : X) (seen users_seen : List Gv) → AreEntered s u (asked a b) t.seen v.seen → IsSameSeat s t → IsSameUserSeat u v → AreEntered t v (asked b c) seen users_seen → AreEntered s u (asked a c) seen users_seen
  are_entered_on s t u v a b c seen users_seen first same users_same more = λ h g saw saw_users.
      let x = first h g saw saw_users in
      let next : (k : List Entry) (l : List UserEntry) → Saw s.opening t.seen k → SawUsers u.opening v.seen l → BothEntered s.opening u.opening s.place u.place (asked b c) k l seen users_seen = subst (λ (w : (Opening × ℕ) × (UsersOpening × ℕ)). (k : List Entry) (l : List UserEntry) → Saw w.0.0 t.seen k → SawUsers w.1.0 v.seen l → BothEntered w.0.0 w.1.0 w.0.1 w.1.1 (asked b c) k l seen users_seen) (λ i. ((same.0 i, same.1 i), (users_same.0 i, users_same.1 i))) more in
      let y = next (h ++ x.entries) (g ++ x.users_entries) x.saw x.saw_users in
      record {
        entries = x.entries ++ y.entries;
        users_entries = x.users_entries ++ y.users_entries;
        saw = subst (λ (l : List Entry). Saw s.opening seen l) (append_assoc h x.entries y.entries) y.saw;
        saw_users = subst (λ (l : List UserEntry). SawUsers u.opening users_seen l) (append_assoc g x.users_entries y.users_entries) y.saw_users;
        places = x.places ++ y.places;
        were = on a b c x.places y.places x.were y.were;
        gated = are_gated_on h x.entries y.entries x.users_entries y.users_entries x.places y.places x.gated y.gated;
      }

  -- turns of one seat in which nothing was asked
  pub are_entered_beside : ((x : X) → asked x x []) → (s t : SeatAt) (u : UserSeatAt) (a b : X) (mid seen users_mid users_seen : List Gv) → AreEntered s u (asked a b) mid users_mid → t.seen ≡ mid → IsSameSeat s t → users_seen ≡ users_mid
      → ((k : List Entry) → Saw t.opening t.seen k → Entered t.opening t.place NothingAsked false false k seen) → AreEntered s u (asked a b) seen users_seen
  are_entered_beside unasked s t u a b mid seen users_mid users_seen first is same users_is more =
      are_entered_at s t u a b b mid seen users_mid users_seen first is same users_is (λ k saw. entered_beside t.opening t.place (asked b b) k seen (unasked b) (more k saw))
