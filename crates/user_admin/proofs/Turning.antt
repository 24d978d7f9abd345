-- What a place sees in a turn, and after it.
use Rattle.std.proofs.Common.{◌≡◌, ◌≢◌, ◌<◌, ℕ, Bool, true, false, Option, None, Some, Result, Ok, Err, List, [], ◌∷◌, ◌++◌, append-nil, append_assoc, refl, sym, ◌∙◌, ap, subst}
use Rattle.std.proofs.lemmas.List.{map-append}
use Rattle.std.specs.Prelude.{slice_get}
use Rattle.std.specs.declared.snapshot.Snapshot.{Snapshot}
use base.Stored.{Gv}
use Rattle.turnstile.specs.Turning.{Each, Found}
use Rattle.turnstile.proofs.Lists.{each_append, map_once}
use Rattle.dxc_causes.specs.Stops.{RoseOnlyFor}
use Rattle.dxc_disk.specs.Disks.{DiskState}
use Rattle.dxc_outside.specs.declared.stopped.Stopped.{Stopped}
use Rattle.user_admin.specs.declared.op.UserChange.{UserChange}
use Rattle.user_admin.specs.declared.op.UserEntry.{UserEntry}
use Rattle.user_admin.specs.declared.op.UserMark.{UserMark}
use Rattle.user_admin.specs.declared.op.UserMark.TheVariants.{Entered, Took}
use Rattle.tl1_users.specs.declared.op.UserOp.{UserOp}
use Rattle.user_admin.specs.declared.op.UserOutcome.{UserOutcome}
use Rattle.user_admin.specs.declared.shared.Planned.{Planned}
use Rattle.user_admin.specs.declared.shared.Planned.TheVariants as planned
use Rattle.user_admin.specs.declared.shared.SharedUsers.{SharedUsers}
use Rattle.user_admin.specs.declared.state.UserState.{UserState}
use Rattle.user_admin.specs.declared.turns.UserTook.{UserTook}
use Rattle.user_admin.specs.declared.turns.UserTook.TheVariants as took
use Rattle.user_admin.specs.Coding.{mark_coded}
use Rattle.user_admin.specs.Histories.{Opening, users_after}
use Rattle.user_admin.specs.States.{entry, opening_of, refused}
use Rattle.user_admin.specs.Marks.{entered, entries_of, entry_in, mark_for, place_of}
use Rattle.user_admin.specs.Shared.{HasKeeper, PlannedIs, SharedFor, SharedStands, opening_at}
use Rattle.user_admin.specs.declared.occupants.Occupant.{Occupant}
use Rattle.user_admin.specs.Occupants.{is_out, occupants_after}
use Rattle.user_admin.specs.Turns.{AreNumbered, IsHistory, IsTaken, LookedAt, Saw, TakenIs, TookIs, TriedIs, Turned, TurnedBack, codes}
use Rattle.journal_core.proofs.HeaderSteps.{never}
use Rattle.user_admin.proofs.Marking.{each_entries, entries_append, entries_one, entries_took, no_mark, others_entries, same_mark}

pub same_marks : (seen : List Gv) (ms ns : List UserMark) → seen ≡ codes ms → seen ≡ codes ns → ms ≡ ns
same_marks seen ms ns first then = map_once mark_coded.code mark_coded.inj ms ns (sym first ∙ then)

-- nothing was seen after it
pub turned_none : (o : Opening) (own : ℕ) (h : List UserEntry) (seen : List Gv) → Saw o seen h → TurnedBack o own h seen
turned_none o own h seen saw = record { later = []; others = tt; saw = subst (λ (g : List UserEntry). Saw o seen g) (sym (append-nil h)) saw }

some_not_none : (m : UserMark) → Some m ≡ None → ⊥
some_not_none m e = cc

module _ {D : Type 0} (told : Type 0) (state : D → DiskState) where
  module _ (o : Opening) (by passes : ℕ) (seen in_turn : List Gv) (x : SharedUsers D) (f : Found mark_coded.code (opening_at state) place_of (SharedStands told state) by passes o seen x in_turn) where
    -- what a turn finds carries the numbers of the turnstile's passes
    pub numbered_back : (then_seen : List Gv) → then_seen ≡ in_turn → AreNumbered passes then_seen
    numbered_back then_seen is = λ ms codes_are. subst (λ (l : List UserMark). Each (λ m. place_of m < passes) l) (sym (map_once mark_coded.code mark_coded.inj ms (f.begun ++ f.later) (sym codes_are ∙ is ∙ f.after))) f.numbers

    -- and so does what the turn leaves
    pub numbered_own : (own : ℕ) (m : UserMark) (then_seen : List Gv) → place_of m ≡ own → own < passes → then_seen ≡ in_turn ++ mark_coded.code m ∷ [] → AreNumbered passes then_seen
    numbered_own own m then_seen is less saw = λ ms codes_are.
        let l = f.begun ++ f.later in
        let same : ms ≡ l ++ m ∷ [] = map_once mark_coded.code mark_coded.inj ms (l ++ m ∷ []) (sym codes_are ∙ saw ∙ ap (λ (s : List Gv). s ++ mark_coded.code m ∷ []) f.after ∙ sym (map-append mark_coded.code l (m ∷ []))) in
        subst (λ (g : List UserMark). Each (λ y. place_of y < passes) g) (sym same) (each_append (λ (y : UserMark). place_of y < passes) l (m ∷ []) f.numbers (subst (λ (k : ℕ). k < passes) (sym is) less, tt))

  pub history_of : (o : Opening) (s : SharedUsers D) (ms : List UserMark) → SharedFor told state o s ms → IsHistory o (entries_of ms)
  history_of o s ms st = record { legal = st.legal; paid = st.paid }

  -- a turn of the place finds a state that stands for what had been left, and for what others left after it
  pub record FoundAt (o : Opening) (own : ℕ) (ms : List UserMark) (x : SharedUsers D) (in_turn : List Gv) : Type 0 where
    pub later : List UserMark
    pub others : Each (λ m. place_of m ≢ own) later
    pub codes_are : in_turn ≡ codes (ms ++ later)
    pub opening_is : opening_at state x ≡ o
    pub stands : SharedFor told state o x (ms ++ later)

  module _ (o : Opening) (own : ℕ) (ms : List UserMark) (x : SharedUsers D) (in_turn : List Gv) (f : FoundAt o own ms x in_turn) where
    -- a state of the same first one keeps the opening
    leaves : (y : SharedUsers D) (l : List UserMark) → y.first ≡ x.first → SharedFor told state o y l → SharedStands told state y l
    leaves y l is st = subst (λ (z : Opening). SharedFor told state z y l) (sym (ap (λ (s : Snapshot (UserState D)). opening_of state s.value) is ∙ f.opening_is)) st

    -- the entries among it, after a history that was seen
    module _ (h : List UserEntry) (entries_are : entries_of ms ≡ h) where
      pub entries_found : entries_of (ms ++ f.later) ≡ h ++ entries_of f.later
      entries_found = entries_append ms f.later ∙ ap (λ (g : List UserEntry). g ++ entries_of f.later) entries_are

      abbrev pub turned_at : (y : SharedUsers D) (m : UserMark) (e : UserEntry) (then_seen : List Gv) → entry_in m ≡ e ∷ [] → SharedFor told state o y ((ms ++ f.later) ++ m ∷ []) → then_seen ≡ in_turn ++ mark_coded.code m ∷ [] → Turned o own h e then_seen
      turned_at y m e then_seen one st is =
          let all : entries_of ((ms ++ f.later) ++ m ∷ []) ≡ (h ++ entries_of f.later) ++ e ∷ [] = entries_one (ms ++ f.later) m ∙ (λ i. entries_found i ++ one i) in
          record {
            later = entries_of f.later;
            others = others_entries own f.later f.others;
            saw = record {
              marks = (ms ++ f.later) ++ m ∷ [];
              codes_are = is ∙ ap (λ (l : List Gv). l ++ mark_coded.code m ∷ []) f.codes_are ∙ sym (map-append mark_coded.code (ms ++ f.later) (m ∷ []));
              entries_are = all;
              history = subst (λ (g : List UserEntry). IsHistory o g) all (history_of o y ((ms ++ f.later) ++ m ∷ []) st);
            };
          }

      abbrev pub turned_back_at : (y : SharedUsers D) (then_seen : List Gv) → SharedFor told state o y (ms ++ f.later) → then_seen ≡ in_turn → TurnedBack o own h then_seen
      turned_back_at y then_seen st is = record {
        later = entries_of f.later;
        others = others_entries own f.later f.others;
        saw = record { marks = ms ++ f.later; codes_are = is ∙ f.codes_are; entries_are = entries_found; history = subst (λ (g : List UserEntry). IsHistory o g) entries_found (history_of o y (ms ++ f.later) st) };
      }

      taken_at : (op : UserOp) (k : UserState D) (c : UserChange) (then_seen : List Gv) → HasKeeper told state o own op ((ms ++ f.later) ++ Took own ∷ []) k c → then_seen ≡ in_turn ++ mark_coded.code (Took own) ∷ [] → IsTaken told state o own h op then_seen k c
      taken_at op k c then_seen keeper is = record {
        marks = (ms ++ f.later) ++ Took own ∷ [];
        codes_are = is ∙ ap (λ (l : List Gv). l ++ mark_coded.code (Took own) ∷ []) f.codes_are ∙ sym (map-append mark_coded.code (ms ++ f.later) (Took own ∷ []));
        later = entries_of f.later;
        others = others_entries own f.later f.others;
        entries_are = entries_took (ms ++ f.later) own ∙ entries_found;
        keeper = keeper;
      }

      -- a turn in which a change was to begin, that left something
      pub took_left : (op : UserOp) (y : SharedUsers D) (p : Result (Planned D) Stopped) (m : UserMark) (then_seen : List Gv) → mark_for own op p ≡ Some m → PlannedIs told state o own op (ms ++ f.later) y p → then_seen ≡ in_turn ++ mark_coded.code m ∷ [] → TakenIs told state o own h op then_seen p
      took_left op y (Ok (planned.Taken k c)) m then_seen marked st is = taken_at op k.value c then_seen st.1 (is ∙ ap (λ (n : UserMark). in_turn ++ mark_coded.code n ∷ []) (sym (same_mark _ _ marked)))
      took_left op y (Ok (planned.Denied q)) m then_seen marked st is = turned_at y (entered own op (refused q)) (entry own op (refused q)) then_seen refl st (is ∙ ap (λ (n : UserMark). in_turn ++ mark_coded.code n ∷ []) (sym (same_mark _ _ marked)))
      took_left op y (Ok planned.Waits) m then_seen marked st is = absurd (no_mark m marked)
      took_left op y (Err e) m then_seen marked st is = absurd (no_mark m marked)

      -- or nothing
      pub took_back : (op : UserOp) (y : SharedUsers D) (p : Result (Planned D) Stopped) (then_seen : List Gv) → mark_for own op p ≡ None → PlannedIs told state o own op (ms ++ f.later) y p → then_seen ≡ in_turn → TakenIs told state o own h op then_seen p
      took_back op y (Ok (planned.Taken k c)) then_seen marked st is = absurd (some_not_none _ marked)
      took_back op y (Ok (planned.Denied q)) then_seen marked st is = absurd (some_not_none _ marked)
      took_back op y (Ok planned.Waits) then_seen marked st is = turned_back_at y then_seen st is
      took_back op y (Err e) then_seen marked st is = turned_back_at y then_seen st is

  -- what the turn stands for then
  pub left_by : (o : Opening) (own : ℕ) (op : UserOp) (l : List UserMark) (y : SharedUsers D) (p : Result (Planned D) Stopped) (m : UserMark) → mark_for own op p ≡ Some m → PlannedIs told state o own op l y p → SharedFor told state o y (l ++ m ∷ [])
  left_by o own op l y (Ok (planned.Taken k c)) m marked st = subst (λ (n : UserMark). SharedFor told state o y (l ++ n ∷ [])) (same_mark _ _ marked) st.0
  left_by o own op l y (Ok (planned.Denied q)) m marked st = subst (λ (n : UserMark). SharedFor told state o y (l ++ n ∷ [])) (same_mark _ _ marked) st
  left_by o own op l y (Ok planned.Waits) m marked st = absurd (no_mark m marked)
  left_by o own op l y (Err e) m marked st = absurd (no_mark m marked)

  pub given_by : (o : Opening) (own : ℕ) (op : UserOp) (l : List UserMark) (y : SharedUsers D) (p : Result (Planned D) Stopped) → mark_for own op p ≡ None → PlannedIs told state o own op l y p → SharedFor told state o y l
  given_by o own op l y (Ok (planned.Taken k c)) marked st = absurd (some_not_none _ marked)
  given_by o own op l y (Ok (planned.Denied q)) marked st = absurd (some_not_none _ marked)
  given_by o own op l y (Ok planned.Waits) marked st = st
  given_by o own op l y (Err e) marked st = st

  -- a turn of a place that had seen what turns left, by what its entering tells
  module _ (o : Opening) (own by passes : ℕ) (seen in_turn : List Gv) (x : SharedUsers D) (is : by ≡ own) (f : Found mark_coded.code (opening_at state) place_of (SharedStands told state) by passes o seen x in_turn) where
    pub at_turn : (ms : List UserMark) → seen ≡ codes ms → FoundAt o own ms x in_turn
    at_turn ms saw =
        let same : f.begun ≡ ms = map_once mark_coded.code mark_coded.inj f.begun ms (sym f.before ∙ saw) in
        record {
          later = f.later;
          others = subst (λ (n : ℕ). Each (λ m. place_of m ≢ n) f.later) is f.others;
          codes_are = f.after ∙ ap (λ (l : List UserMark). codes (l ++ f.later)) same;
          opening_is = f.opening_is;
          stands = subst (λ (l : List UserMark). SharedFor told state o x (l ++ f.later)) same (subst (λ (y : Opening). SharedFor told state y x (f.begun ++ f.later)) f.opening_is f.stands_for);
        }

    -- what leaving owes, where the state stands for one mark more
    pub ends : (w : (ms : List UserMark) × (seen ≡ codes ms)) (y : SharedUsers D) (m : UserMark) → y.first ≡ x.first → ((l : List UserMark) → SharedFor told state o x l → SharedFor told state o y (l ++ m ∷ [])) → (l : List UserMark) × (in_turn ≡ codes l) × SharedStands told state y (l ++ m ∷ [])
    ends w y m first on = let t = at_turn w.0 w.1 in (w.0 ++ t.later, t.codes_are, leaves o own w.0 x in_turn t y ((w.0 ++ t.later) ++ m ∷ []) first (on (w.0 ++ t.later) t.stands))

    -- and giving the state back, where nothing was done
    pub gives_back : (w : (ms : List UserMark) × (seen ≡ codes ms)) (y : SharedUsers D) → y.first ≡ x.first → ((l : List UserMark) → SharedFor told state o x l → SharedFor told state o y l) → (l : List UserMark) × (in_turn ≡ codes l) × SharedStands told state y l
    gives_back w y first on = let t = at_turn w.0 w.1 in (w.0 ++ t.later, t.codes_are, leaves o own w.0 x in_turn t y (w.0 ++ t.later) first (on (w.0 ++ t.later) t.stands))

    pub ends_at : (ms : List UserMark) (saw : seen ≡ codes ms) (y : SharedUsers D) (m : UserMark) → y.first ≡ x.first → SharedFor told state o y ((ms ++ (at_turn ms saw).later) ++ m ∷ []) → (l : List UserMark) × (in_turn ≡ codes l) × SharedStands told state y (l ++ m ∷ [])
    ends_at ms saw y m first st = let t = at_turn ms saw in (ms ++ t.later, t.codes_are, leaves o own ms x in_turn t y ((ms ++ t.later) ++ m ∷ []) first st)

    -- what the place knows after its entry
    abbrev pub ended : (h : List UserEntry) (saw : Saw o seen h) (y : SharedUsers D) (n : ℕ) (op : Snapshot UserOp) (what : UserOp) (out : UserOutcome) (then_seen : List Gv) → n ≡ own → op.value ≡ what → ((l : List UserMark) → SharedFor told state o x l → SharedFor told state o y (l ++ Entered n op out ∷ [])) → then_seen ≡ in_turn ++ mark_coded.code (Entered n op out) ∷ [] → Turned o own h (entry own what out) then_seen
    ended h saw y n op what out then_seen number same on seen_is =
        turned_at o own saw.marks x in_turn (at_turn saw.marks saw.codes_are) h saw.entries_are y (Entered n op out) (entry own what out) then_seen (λ i. entry (number i) (same i) out ∷ []) (on (saw.marks ++ (at_turn saw.marks saw.codes_are).later) (at_turn saw.marks saw.codes_are).stands) seen_is

    -- the list is that of the users whom it finds
    pub listed_at : (h : List UserEntry) (saw : Saw o seen h) → x.list ≡ users_after o (h ++ entries_of (at_turn saw.marks saw.codes_are).later)
    listed_at h saw = let t = at_turn saw.marks saw.codes_are in t.stands.list ∙ ap (users_after o) (entries_found o own saw.marks x in_turn t h saw.entries_are)

    -- and so is who is where
    pub looked_at : (h : List UserEntry) (saw : Saw o seen h) (then_seen : List Gv) (out : Bool) → then_seen ≡ in_turn → out ≡ is_out (slice_get x.occupants own) → LookedAt o own h then_seen out
    looked_at h saw then_seen out seen_is is =
        let t = at_turn saw.marks saw.codes_are in (
          turned_back_at o own saw.marks x in_turn t h saw.entries_are x then_seen t.stands seen_is,
          is ∙ ap (λ (os : List Occupant). is_out (slice_get os own)) (t.stands.occupants ∙ ap occupants_after (entries_found o own saw.marks x in_turn t h saw.entries_are)),
        )

-- others' entries, and then others' entries again
pub back_behind : (o : Opening) (own : ℕ) (h : List UserEntry) (mid then_seen : List Gv) → TurnedBack o own h mid → ((g : List UserEntry) → Saw o mid g → TurnedBack o own g then_seen) → TurnedBack o own h then_seen
back_behind o own h mid then_seen b next = let t = next (h ++ b.later) b.saw in record {
  later = b.later ++ t.later;
  others = each_append (λ (x : UserEntry). x.place ≢ own) b.later t.later b.others t.others;
  saw = subst (λ (g : List UserEntry). Saw o then_seen g) (append_assoc h b.later t.later) t.saw;
}

-- or then a change, or a stop
pub took_behind : (o : Opening) (own : ℕ) (h : List UserEntry) (op : UserOp) (mid then_seen : List Gv) (how : Result UserTook Stopped) → TurnedBack o own h mid → ((g : List UserEntry) → Saw o mid g → TookIs o own g op then_seen how) → TookIs o own h op then_seen how
took_behind o own h op mid then_seen how b next = behind how next
  where
    all : (es fs : List UserEntry) → ((h ++ b.later) ++ es) ++ fs ≡ (h ++ (b.later ++ es)) ++ fs
    all es fs = ap (λ (g : List UserEntry). g ++ fs) (append_assoc h b.later es)

    turned : (e : UserEntry) → Turned o own (h ++ b.later) e then_seen → Turned o own h e then_seen
    turned e t = record {
      later = b.later ++ t.later;
      others = each_append (λ (x : UserEntry). x.place ≢ own) b.later t.later b.others t.others;
      saw = subst (λ (g : List UserEntry). Saw o then_seen g) (all t.later (e ∷ [])) t.saw;
    }

    behind : (t : Result UserTook Stopped) → ((g : List UserEntry) → Saw o mid g → TookIs o own g op then_seen t) → TookIs o own h op then_seen t
    behind (Ok took.Done) then = let x = then (h ++ b.later) b.saw in (x.0, turned _ x.1)
    behind (Ok (took.Denied q)) then = turned _ (then (h ++ b.later) b.saw)
    behind (Err e) then = back_behind o own h mid then_seen b then

-- by what a change that was tried came to
pub tried_some : (o : Opening) (own : ℕ) (h : List UserEntry) (op : UserOp) (seen : List Gv) (x : Option UserTook) (how : UserTook) → x ≡ Some how → TriedIs o own h op seen (Ok x) → TookIs o own h op seen (Ok how)
tried_some o own h op seen x how is t = subst (λ (y : Option UserTook). TriedIs o own h op seen (Ok y)) is t

pub tried_none : (o : Opening) (own : ℕ) (h : List UserEntry) (op : UserOp) (seen : List Gv) (x : Option UserTook) → x ≡ None → TriedIs o own h op seen (Ok x) → TurnedBack o own h seen
tried_none o own h op seen x is t = subst (λ (y : Option UserTook). TriedIs o own h op seen (Ok y)) is t

pub takes_as : {D : Type 0} (told : Type 0) (state : D → DiskState) (o : Opening) (own : ℕ) (h : List UserEntry) (op : UserOp) (seen : List Gv) (p q : Planned D) → p ≡ q → TakenIs told state o own h op seen (Ok p) → TakenIs told state o own h op seen (Ok q)
takes_as {D} told state o own h op seen p q is t = subst (λ (x : Planned D). TakenIs told state o own h op seen (Ok x)) is t

-- the keeper was taken out in one turn, and brought home in another
pub turned_taken : {D : Type 0} (told : Type 0) (state : D → DiskState) (o : Opening) (own : ℕ) (h : List UserEntry) (op : UserOp) (mid then_seen : List Gv) (k : UserState D) (c : UserChange) (e : UserEntry) (t : IsTaken told state o own h op mid k c) → Turned o own (entries_of t.marks) e then_seen → Turned o own h e then_seen
turned_taken told state o own h op mid then_seen k c e t r = record {
  later = t.later ++ r.later;
  others = each_append (λ (x : UserEntry). x.place ≢ own) t.later r.later t.others r.others;
  saw = subst (λ (g : List UserEntry). Saw o then_seen g) (ap (λ (g : List UserEntry). (g ++ r.later) ++ e ∷ []) t.entries_are ∙ ap (λ (g : List UserEntry). g ++ e ∷ []) (append_assoc h t.later r.later)) r.saw;
}

-- a gate that didn't stop
pub stood : (a b : ℕ) → RoseOnlyFor a b (false ≡ true) → b ≡ a
stood a b rose = rose.only (never refl)

-- a gate that wasn't asked before
pub rose_behind : (a b c : ℕ) (came : Type 0) → b ≡ a → RoseOnlyFor b c came → RoseOnlyFor a c came
rose_behind a b c came same rose = subst (λ (n : ℕ). RoseOnlyFor n c came) same rose

-- the entries that were seen are of the turnstile's passes
pub numbered_seen : (o : Opening) (passes : ℕ) (seen : List Gv) (h : List UserEntry) → Saw o seen h → AreNumbered passes seen → Each (λ e. e.place < passes) h
numbered_seen o passes seen h saw numbers = subst (λ (l : List UserEntry). Each (λ e. e.place < passes) l) saw.entries_are (each_entries (λ n. n < passes) saw.marks (numbers saw.marks saw.codes_are))

no_codes : (ms : List UserMark) → codes ms ≡ [] → ms ≡ []
no_codes [] is = refl
no_codes (m ∷ ms) is = cc

-- who has seen nothing has seen no entry
pub nothing_seen : (o : Opening) (h : List UserEntry) → Saw o [] h → h ≡ []
nothing_seen o h saw = sym saw.entries_are ∙ ap entries_of (no_codes saw.marks (sym saw.codes_are))

-- what was seen is one history
pub saw_once : (o p : Opening) (seen : List Gv) (h g : List UserEntry) → Saw o seen h → Saw p seen g → h ≡ g
saw_once o p seen h g first then = sym first.entries_are ∙ ap entries_of (same_marks seen first.marks then.marks first.codes_are then.codes_are) ∙ then.entries_are
