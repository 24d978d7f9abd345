-- When the users that places share stand for one mark more.
use Rattle.std.proofs.Common.{◌≡◌, ◌≢◌, ℕ, arith, Option, Some, None, List, [], ◌∷◌, ◌++◌, append-nil, append_assoc, refl, sym, ◌∙◌, ap, subst}
use Rattle.std.specs.declared.snapshot.Snapshot.{Snapshot}
use Rattle.turnstile.specs.Turning.{Each}
use Rattle.dxc_disk.specs.Disks.{CountsOn, DiskState, IsDisk}
use Rattle.dxc_model.specs.declared.cause.Cause.{Cause}
use Rattle.dxc_model.specs.declared.cause.Cause.TheVariants.{DiskFault}
use Rattle.user_admin.specs.declared.op.UserChange.{UserChange}
use Rattle.user_admin.specs.declared.op.UserEntry.{UserEntry}
use Rattle.user_admin.specs.declared.op.UserMark.{UserMark}
use Rattle.user_admin.specs.declared.op.UserMark.TheVariants.{Entered, Took}
use Rattle.tl1_users.specs.declared.op.UserOp.{UserOp}
use Rattle.user_admin.specs.declared.op.UserOutcome.{UserOutcome}
use Rattle.user_admin.specs.declared.op.UserOutcome.TheVariants.{Answered, Denied, Done, Failed}
use Rattle.user_admin.specs.declared.shared.SharedUsers.{SharedUsers}
use Rattle.user_admin.specs.declared.state.UserState.{UserState}
use Rattle.user_admin.specs.Users.{Users}
use Rattle.user_admin.specs.Changes.{Fits, after}
use Rattle.user_admin.specs.Verdicts.{Grants, Refuses, refusal}
use Rattle.user_admin.specs.Histories.{IsLegal, IsLegalFrom, IsReading, MayCome, Opening, change_in, changes_of, users_after}
use Rattle.tl1_users.specs.Commands.{NamesUid}
use Rattle.user_admin.specs.States.{IsGranted, IsPaid, StandsFor, entry, refused}
use Rattle.user_admin.specs.declared.occupants.Occupant.{Occupant}
use Rattle.user_admin.specs.Occupants.{answered, nobody_yet, occupants_after, occupied_by}
use Rattle.user_admin.specs.Marks.{ArePassing, KeepsTurns, MayEnter, PassesBy, entries_of, holder, place_of}
use Rattle.user_admin.specs.Shared.{Boxed, HasKeeper, HasKept, KeeperIs, SharedFor}
use Rattle.user_admin.proofs.Always.{users_named}
use Rattle.user_admin.proofs.Granted.{granted_fits}
use Rattle.user_admin.proofs.Leading.{after-append}
use Rattle.user_admin.proofs.Marking.{entries_append, entries_one, entries_took, free_by, holder_append, may_own, may_pass, no_failure_by, nothing_by, passing, passing_append, stays_by, turns_append, turns_behind}
use Rattle.user_admin.proofs.Occupying.{occupants_more, still_by}
use Rattle.user_admin.proofs.Standing.{failures_more, legal_more, not_by_disk, passed, passed_one, room_more, users_more}

-- the end of a legal history is one, from the users that it finds
legal_behind : (sid : List ℕ) (m : Users) (g es : List UserEntry) → IsLegalFrom sid m (g ++ es) → IsLegalFrom sid (after (changes_of g) m) es
legal_behind sid m [] es legal = legal
legal_behind sid m (e ∷ g) es legal = subst (λ (k : Users). IsLegalFrom sid k es) (sym (after-append (change_in e.outcome) (changes_of g) m)) (legal_behind sid (after (change_in e.outcome) m) g es legal.1)

paid_more : (o : Opening) (h : List UserEntry) (e : UserEntry) → PassesBy e.outcome → IsPaid o h → IsPaid o (h ++ e ∷ [])
paid_more o h e passes paid = λ enough.
    let room = room_more h e in
    let failed = failures_more h e in
    let free = free_by e.outcome passes in
    let sound = no_failure_by e.outcome passes in
    let fell = paid (omega (arith, enough, room, free)) in
    omega (arith, fell, failed, sound)

module _ {D : Type 0} (told : Type 0) (state : D → DiskState) (disks : (d : D) → told → IsDisk (state d)) (counts : (d : D) → CountsOn (state d)) where
  module _ (o : Opening) (ms : List UserMark) where
    -- the keeper, after an entry that passes by
    keeper_more : (n : ℕ) (op : Snapshot UserOp) (out : UserOutcome) → PassesBy out → MayCome o.shelf.sid op.value (users_after o (entries_of ms)) out → (x : Option (Boxed D)) → KeeperIs told state o ms x → KeeperIs told state o (ms ++ Entered n op out ∷ []) x
    keeper_more n op out passes may (Some k) home = (
      holder_append None ms (Entered n op out ∷ []) ∙ stays_by (holder None ms) out passes ∙ home.0,
      subst (λ (g : List UserEntry). StandsFor told state o k.value g) (sym (entries_one ms (Entered n op out))) (passed_one told state o k.value (disks k.value.journal.0) (counts k.value.journal.0) (entries_of ms) (entry n op.value out) passes home.1 may),
    )
    keeper_more n op out passes may None lent = (lent.0, holder_append None ms (Entered n op out ∷ []) ∙ stays_by (holder None ms) out passes ∙ lent.1)

    -- an entry that passes by
    pub shared_more : (s : SharedUsers D) (n : ℕ) (op : Snapshot UserOp) (out : UserOutcome) (os : List Occupant) → os ≡ occupied_by n op.value out s.occupants → PassesBy out → MayCome o.shelf.sid op.value (users_after o (entries_of ms)) out → SharedFor told state o s ms → SharedFor told state o (record s { occupants = os }) (ms ++ Entered n op out ∷ [])
    shared_more s n op out os os_are passes may st =
        let h = entries_of ms in
        let e = entry n op.value out in
        let m = Entered n op out in
        let one = entries_one ms m in
        record {
          list = st.list ∙ ap (λ (cs : List UserChange). after cs (users_after o h)) (sym (nothing_by out passes)) ∙ sym (users_more o h e) ∙ ap (users_after o) (sym one);
          sid = st.sid;
          legal = subst (λ (g : List UserEntry). IsLegal o g) (sym one) (legal_more o h e st.legal may);
          paid = subst (λ (g : List UserEntry). IsPaid o g) (sym one) (paid_more o h e passes st.paid);
          turns = turns_append None ms (m ∷ []) st.turns (may_pass (holder None ms) n out passes, tt);
          keeper = keeper_more n op out passes may s.keeper st.keeper;
          occupants = os_are ∙ ap (occupied_by n op.value out) st.occupants ∙ sym (occupants_more h e) ∙ ap occupants_after (sym one);
        }

    -- what the users deny
    pub shared_denied : (s : SharedUsers D) (n : ℕ) (op : Snapshot UserOp) (q : Cause) → Refuses op.value s.list q → SharedFor told state o s ms → SharedFor told state o s (ms ++ Entered n op (refused q) ∷ [])
    shared_denied s n op q is st =
        let denial = subst (λ (m : Users). Refuses op.value m q) st.list is in
        subst (λ (out : UserOutcome). SharedFor told state o s (ms ++ Entered n op out ∷ [])) (sym (not_by_disk op.value (users_after o (entries_of ms)) q denial)) (shared_more s n op (Denied q) s.occupants refl tt denial st)

    -- what only reads
    pub shared_read : (s : SharedUsers D) (n : ℕ) (op : Snapshot UserOp) → s.occupants ≡ answered n op.value s.occupants → IsReading op.value → refusal op.value s.list ≡ None → SharedFor told state o s ms → SharedFor told state o s (ms ++ Entered n op Answered ∷ [])
    shared_read s n op still reads allowed st = shared_more s n op Answered s.occupants still tt (reads, ap (refusal op.value) (sym st.list) ∙ allowed) st

    -- what is answered, and tells who is where
    pub shared_answered : (s t : SharedUsers D) (n : ℕ) (op : Snapshot UserOp) (what : UserOp) → op.value ≡ what → t ≡ record s { occupants = answered n what s.occupants } → IsReading what → ((users : Users) → refusal what users ≡ None) → SharedFor told state o s ms → SharedFor told state o t (ms ++ Entered n op Answered ∷ [])
    shared_answered s t n op what is t_is reads allowed st = subst (λ (x : SharedUsers D). SharedFor told state o x (ms ++ Entered n op Answered ∷ [])) (sym t_is)
        (shared_more s n op Answered (answered n what s.occupants) (ap (λ (x : UserOp). answered n x s.occupants) (sym is)) tt (subst IsReading (sym is) reads, subst (λ (x : UserOp). refusal x (users_after o (entries_of ms)) ≡ None) (sym is) (allowed (users_after o (entries_of ms)))) st)

    module _ (s : SharedUsers D) (st : SharedFor told state o s ms) (k : Boxed D) (is : s.keeper ≡ Some k) where
      home_of : KeeperIs told state o ms (Some k)
      home_of = subst (λ (x : Option (Boxed D)). KeeperIs told state o ms x) is st.keeper

      -- the place takes the keeper out
      pub shared_taken : (own : ℕ) → SharedFor told state o (record s { keeper = None }) (ms ++ Took own ∷ [])
      shared_taken own =
          let same = entries_took ms own in
          record {
            list = st.list ∙ ap (users_after o) (sym same);
            sid = st.sid;
            legal = subst (λ (g : List UserEntry). IsLegal o g) (sym same) st.legal;
            paid = subst (λ (g : List UserEntry). IsPaid o g) (sym same) st.paid;
            turns = turns_append None ms (Took own ∷ []) st.turns (home_of.0, tt);
            keeper = (own, holder_append None ms (Took own ∷ []));
            occupants = st.occupants ∙ ap occupants_after (sym same);
          }

      -- and has it for an operation that is granted
      pub keeper_taken : (own : ℕ) (op : UserOp) (c : UserChange) → Grants s.sid op s.list c → HasKeeper told state o own op (ms ++ Took own ∷ []) k.value c
      keeper_taken own op c granted = record {
        held = holder_append None ms (Took own ∷ []);
        granted = subst (λ (w : List ℕ × Users). Grants w.0 op w.1 c) (λ i. ((st.sid ∙ sym home_of.1.of_shelf.sid) i, (st.list ∙ sym home_of.1.users) i)) granted;
        stands = subst (λ (g : List UserEntry). StandsFor told state o k.value g) (sym (entries_took ms own)) home_of.1;
      }

  -- what the keeper kept, whatever others entered meanwhile
  module _ (o : Opening) (own : ℕ) (op : UserOp) (ms : List UserMark) (k l : UserState D) (c : UserChange) (t : HasKeeper told state o own op ms k c) (names : NamesUid op) where
    still_granted : (es : List UserEntry) → ArePassing es → IsLegal o (entries_of ms ++ es) → IsGranted told state o (entries_of ms ++ es) op k c
    still_granted es passes legal = record {
      stands = passed told state o k (disks k.journal.0) (counts k.journal.0) (entries_of ms) es passes t.stands (legal_behind o.shelf.sid o.users (entries_of ms) es legal.entries);
      names = names;
      granted = t.granted;
    }

    pub kept_done : ((h : List UserEntry) (n : ℕ) (op : UserOp) → IsGranted told state o h op k c → StandsFor told state o l (h ++ entry n op (Done c) ∷ [])) → HasKept told state o own op ms l (Done c)
    kept_done noted = record { held = t.held; homing = λ who. refl; stands = λ es passes legal. noted (entries_of ms ++ es) own op (still_granted es passes legal) }

    pub kept_failed : ((h : List UserEntry) (n : ℕ) (op : UserOp) → IsGranted told state o h op k c → StandsFor told state o l (h ++ entry n op (Failed DiskFault) ∷ [])) → HasKept told state o own op ms l (Failed DiskFault)
    kept_failed noted = record { held = t.held; homing = λ who. refl; stands = λ es passes legal. noted (entries_of ms ++ es) own op (still_granted es passes legal) }

  -- in a later turn
  pub kept_later : (o : Opening) (own : ℕ) (op : UserOp) (ms later : List UserMark) (k : UserState D) (out : UserOutcome) → Each (λ m. place_of m ≢ own) later → KeepsTurns None (ms ++ later) → HasKept told state o own op ms k out → HasKept told state o own op (ms ++ later) k out
  kept_later o own op ms later k out others turns t =
      let r = passing own later others (subst (λ (who : Option ℕ). KeepsTurns who later) t.held (turns_behind None ms later turns)) in
      let all : (es : List UserEntry) → entries_of (ms ++ later) ++ es ≡ entries_of ms ++ (entries_of later ++ es) = λ es. ap (λ (g : List UserEntry). g ++ es) (entries_append ms later) ∙ append_assoc (entries_of ms) (entries_of later) es in
      record {
        held = holder_append None ms later ∙ ap (λ (who : Option ℕ). holder who later) t.held ∙ r.1;
        homing = t.homing;
        stands = λ es passes legal. subst (λ (g : List UserEntry). StandsFor told state o k (g ++ entry own op out ∷ [])) (sym (all es))
            (t.stands (entries_of later ++ es) (passing_append (entries_of later) es r.0 passes) (subst (λ (g : List UserEntry). IsLegal o g) (all es) legal));
      }

  -- the place brings it home
  module _ (o : Opening) (own : ℕ) (op : Snapshot UserOp) (ms : List UserMark) (s : SharedUsers D) (k : Boxed D) (out : UserOutcome) (st : SharedFor told state o s ms) (t : HasKept told state o own op.value ms k.value out) where
    abbrev last : UserMark
    last = Entered own op out

    now_stands : StandsFor told state o k.value (entries_of (ms ++ last ∷ []))
    now_stands =
        let h = entries_of ms in
        subst (λ (g : List UserEntry). StandsFor told state o k.value g) (ap (λ (g : List UserEntry). g ++ entry own op.value out ∷ []) (append-nil h) ∙ sym (entries_one ms last))
        (t.stands [] tt (subst (λ (g : List UserEntry). IsLegal o g) (sym (append-nil h)) st.legal))

    pub shared_brought : (list : Users) → list ≡ after (change_in out) s.list → SharedFor told state o (record s { list = list; keeper = Some k }) (ms ++ last ∷ [])
    shared_brought list is = record {
      list = is ∙ ap (λ (m : Users). after (change_in out) m) st.list ∙ sym (users_more o (entries_of ms) (entry own op.value out)) ∙ ap (users_after o) (sym (entries_one ms last));
      sid = st.sid;
      legal = now_stands.legal;
      paid = now_stands.paid;
      turns = turns_append None ms (last ∷ []) st.turns (subst (λ (who : Option ℕ). MayEnter who own out) (sym t.held) (may_own own out), tt);
      keeper = (holder_append None ms (last ∷ []) ∙ t.homing (holder None ms), now_stands);
      occupants = st.occupants ∙ sym (still_by own op.value out (occupants_after (entries_of ms)) t.homing) ∙ sym (occupants_more (entries_of ms) (entry own op.value out)) ∙ ap occupants_after (sym (entries_one ms last));
    }

    -- what was done fits
    pub fits_brought : (c : UserChange) → out ≡ Done c → Fits c s.list
    fits_brought c done =
        let h = entries_of ms in
        let legal = subst (λ (g : List UserEntry). IsLegal o g) (entries_one ms last) now_stands.legal in
        let came = (legal_behind o.shelf.sid o.users h (entry own op.value out ∷ []) legal.entries).0 in
        let granted = subst (λ (x : UserOutcome). MayCome o.shelf.sid op.value (users_after o h) x) done came in
        subst (λ (m : Users). Fits c m) (sym st.list) (granted_fits o.shelf.sid op.value (users_after o h) c (users_named o h st.legal) granted)

-- what isn't done changes nothing
pub nothing_done : (out : UserOutcome) → ((c : UserChange) → out ≡ Done c → ⊥) → change_in out ≡ []
nothing_done (Done c) other = absurd (other c refl)
nothing_done (Denied q) other = refl
nothing_done (Failed q) other = refl
nothing_done Answered other = refl

-- users who are nobody's yet
pub shared_first : {D : Type 0} (told : Type 0) (state : D → DiskState) (o : Opening) (first : UserState D) (s : SharedUsers D) (k : Boxed D) → StandsFor told state o first [] → s.list ≡ first.lists.value.users → s.sid ≡ first.sid → s.keeper ≡ Some k → k.value ≡ first → s.occupants ≡ nobody_yet → SharedFor told state o s []
shared_first {D} told state o first s k st list sid keeper is occupants = record {
  list = list ∙ st.users;
  sid = sid ∙ st.of_shelf.sid;
  legal = st.legal;
  paid = st.paid;
  turns = tt;
  keeper = subst (λ (x : Option (Boxed D)). KeeperIs told state o [] x) (sym keeper) (refl, subst (λ (x : UserState D). StandsFor told state o x []) (sym is) st);
  occupants = occupants;
}
