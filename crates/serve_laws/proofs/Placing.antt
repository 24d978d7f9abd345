-- All places: the jobs that were handed out, the sessions of each, and the one element.
use Rattle.std.proofs.Common.{◌≡◌, ◌⊎◌, ◌<◌, ◌≤◌, ◌+◌, ℕ, zero, suc, Bool, true, false, arith, List, [], ◌∷◌, ◌++◌, length, map, None, Some, option_map, IsTrue, refl, sym, ◌∙◌, ap, subst, inl, inr}
use Rattle.std.specs.List.{AllByRecursion, slice_get}
use Rattle.std.proofs.lemmas.Option.{slice_get-map}
use base.Stored.{Gv}
use Rattle.turnstile.specs.Dating.{Stamp}
use Rattle.turnstile.specs.Laws.{HasSeen}
use Rattle.turnstile.specs.Orders.{TakesTurns}
use Rattle.turnstile.specs.Turning.{Each}
use Rattle.dxc_outside.specs.declared.clock.Moment.{Moment}
use Rattle.dxc_model.specs.declared.cause.Cause.{Cause}
use Rattle.dxc_model.specs.declared.entry.Entry.{Entry}
use Rattle.dxc_model.specs.Histories.{IsLegal, holder}
use Rattle.shelf_file.specs.Contents.{Contents}
use Rattle.user_admin.specs.declared.op.UserEntry.{UserEntry}
use Rattle.user_admin.specs.declared.op.UserMark.{UserMark}
use Rattle.user_admin.specs.Coding.{mark_coded as user_coded}
use Rattle.user_admin.specs.Marks.{entries_of, holder as users_holder, place_of as user_place_of}
use Rattle.user_admin.specs.Resting.{Rests as UsersRest, SawRest}
use Rattle.user_admin.specs.Turns.{codes as user_codes}
use Rattle.user_admin.proofs.Resting.{nothing_rests}
use Rattle.user_admin.proofs.Marking.{each_entries}
use Rattle.user_admin.specs.Histories.{IsLegal as AreLegal, Opening as UsersOpening, failures, users_after}
use Rattle.xc_core.specs.Seeing.{Rests, codes, entry_coded, place_of}
use Rattle.xc_core.specs.States.{LimitBehind, Opening, began, rules_of}
use Rattle.craft_session.specs.Doing.{AnyEntry}
use Rattle.craft_session.specs.Happenings.{Request}
use Rattle.craft_session.specs.Meanings.{language}
use Rattle.craft_session.specs.Places.{ArePlaces, Turnstiles, place_at}
use Rattle.craft_session.specs.Seats.{PlaceAt}
use Rattle.switch_laws.specs.Element.{Session}
use Rattle.switch_laws.specs.Laws.{IsExcused, Lives, Spoken, element}
use Rattle.switch_laws.specs.Beginnings.{AllSessions, ArePassed, HaveSaid}
use Rattle.switch_laws.specs.Users.{AreHeard, Hearing, Listens}
use Rattle.switch_laws.specs.Orders.{ActsAlong, AnyMark, ArePlayedInOrder, IsOrderOf, any_entries, is_used_mark}
use Rattle.switch_laws.proofs.Along.{in_one_order}
use Rattle.switch_laws.proofs.Onward.{passed}
use Rattle.switch_laws.specs.Moments.{AreUsersThen}
use Rattle.switch_laws.proofs.HeardThen.{compared, users_then}
use Rattle.switch_laws.proofs.Listening.{heard_together}
use Rattle.dxc_jobs.specs.Begun.{AreRan}
use Rattle.dxc_jobs.specs.Leaves.{left_by}
use Rattle.craft_server.specs.Callers.{Standing, standing}
use Rattle.serve_laws.specs.Jobs.{Done, IsServedAt, Job, Ran, World, links_of}
use Rattle.serve_laws.specs.Timing.{MomentAt, WereWrittenThen}
use Rattle.serve_laws.proofs.Homes.{nobody_holds, fresh_rests, rested_all, rests_along}
use Rattle.serve_laws.proofs.Keepers.{nobody_keeps, rested_users, same_place, users_rest_along}
use Rattle.serve_laws.proofs.Serving.{Lived, Step, all_along, both_along, heard_along, left_seen, lived}
use Rattle.serve_laws.proofs.Timing.{Allows}

-- what a list has at a place, its image has there
pub get_map : {A B : Type 0} (f : A → B) (xs : List A) (k : ℕ) (x : A) → slice_get xs k ≡ Some x → slice_get (map f xs) k ≡ Some (f x)
get_map f xs k x e = slice_get-map f xs k ∙ ap (option_map f) e

pub map_length : {A B : Type 0} (f : A → B) (xs : List A) → length (map f xs) ≡ length xs
map_length f [] = refl
map_length f (x ∷ xs) = ap suc (map_length f xs)

pub ran_length : {J L : Type 0} (ran : J → L → Type 0) (js : List J) (ls : List L) → AreRan ran js ls → length ls ≡ length js
ran_length ran [] [] all = refl
ran_length ran [] (l ∷ ls) all = absurd all
ran_length ran (j ∷ js) [] all = absurd all
ran_length ran (j ∷ js) (l ∷ ls) all = ap suc (ran_length ran js ls all.1)

each_all : (n : ℕ) (h : List Entry) → Each (λ e. e.place < n) h → AllByRecursion (λ e. e.place < n) h
each_all n [] a = tt
each_all n (e ∷ es) a = (a.0, each_all n es a.1)

each_user : (n : ℕ) (h : List UserEntry) → Each (λ e. e.place < n) h → AllByRecursion (λ e. e.place < n) h
each_user n [] a = tt
each_user n (e ∷ es) a = (a.0, each_user n es a.1)

within : (n : ℕ) (due : Bool) (h : List Entry) → 0 < n → Each (λ e. e.place < n) h → AllByRecursion (λ e. e.place < n) (began due ++ h)
within n due h pos a = elim due as (λ b. AllByRecursion (λ e. e.place < n) (began b ++ h)) [ false ↦ each_all n h a | true ↦ (pos, each_all n h a) ]

within_each : (n : ℕ) (due : Bool) (h : List Entry) → 0 < n → Each (λ e. e.place < n) h → Each (λ e. e.place < n) (began due ++ h)
within_each n due h pos a = elim due as (λ b. Each (λ e. e.place < n) (began b ++ h)) [ false ↦ a | true ↦ (pos, a) ]

module _ (w : World) (s : Contents) (o : Opening) (p : UsersOpening) (t : Turnstiles) where
  -- the job of this number has run at the place of that number
  record RanAs (jobs : List (Job w)) (lefts : List PlaceAt) (k own : ℕ) : Type 0 where
    pub job : Job w
    pub is : slice_get jobs k ≡ Some job
    pub left : PlaceAt
    pub left_is : slice_get lefts k ≡ Some left
    pub there : job.place ≡ place_at s o p t own
    pub done : Done w
    pub ran : Ran w job done left

  ran_from : (n : ℕ) (jobs : List (Job w)) (lefts : List PlaceAt) → ArePlaces s o p t n (map (λ (j : Job w). j.place) jobs) → AreRan (left_by (Ran w)) jobs lefts → (k : ℕ) → k < length jobs → RanAs jobs lefts k (n + k)
  ran_from n [] lefts places ran k lt = absurd (omega (arith, lt))
  ran_from n (j ∷ js) [] places ran k lt = absurd ran
  ran_from n (j ∷ js) (l ∷ ls) places ran zero lt =
      let same : n ≡ n + 0 = omega arith in
      record { job = j; is = refl; left = l; left_is = refl; there = places.0 ∙ ap (place_at s o p t) same; done = ran.0.0; ran = ran.0.1 }
  ran_from n (j ∷ js) (l ∷ ls) places ran (suc k) lt =
      let x = ran_from (n + 1) js ls places.1 ran.1 k (omega (arith, lt)) in
      let same : n + 1 + k ≡ n + suc k = omega arith in
      record { job = x.job; is = x.is; left = x.left; left_is = x.left_is; there = x.there ∙ ap (place_at s o p t) same; done = x.done; ran = x.ran }

  module _ (jobs : List (Job w)) (lefts : List PlaceAt) (sixteen : length jobs ≡ 16) (places : ArePlaces s o p t 0 (map (λ (j : Job w). j.place) jobs)) (ran : AreRan (left_by (Ran w)) jobs lefts) where
    ran_at : (k : ℕ) → k < 16 → RanAs jobs lefts k k
    ran_at k lt = subst (λ (n : ℕ). RanAs jobs lefts k n) (omega arith) (ran_from 0 jobs lefts places ran k (omega (arith, lt, sixteen)))

    abbrev first_at : (k : ℕ) → k < 16 → Standing w.office.Gate
    first_at k lt = let x = ran_at k lt in standing x.job.place (w.uses.clock.coming x.job.clock) x.job.gate

    abbrev last_at : (k : ℕ) → k < 16 → Standing w.office.Gate
    last_at k lt = let x = ran_at k lt in standing x.left (w.uses.clock.coming x.done.clock) x.done.gate

    place_lived : (k : ℕ) (lt : k < 16) → Lived w.disk.told w.uses.clock w.office.link w.uses.gate s o k p (first_at k lt) (ran_at k lt).ran.served.callers (last_at k lt) (ran_at k lt).ran.served.served
    place_lived k lt =
        let x = ran_at k lt in
        lived w.disk.told w.uses.clock w.office.link w.uses.gate s o k p (first_at k lt) (last_at k lt) x.ran.served.callers x.ran.served.served
        (ap (λ (q : PlaceAt). q.shelf) x.there, ap (λ (q : PlaceAt). q.seat.opening) x.there, ap (λ (q : PlaceAt). q.seat.place) x.there, ap (λ (q : PlaceAt). q.users.opening) x.there, ap (λ (q : PlaceAt). q.users.place) x.there)
        (ap (λ (q : PlaceAt). q.seat.seen) x.there) (ap (λ (q : PlaceAt). q.users.seen) x.there) (ap (λ (q : PlaceAt). q.seat.stamps) x.there, ap (λ (q : PlaceAt). q.users.stamps) x.there)

    abbrev sessions_by : (k : ℕ) → (k < 16) ⊎ (16 ≤ k) → List (Session Request Moment)
    sessions_by k (inl lt) = (place_lived k lt).sessions
    sessions_by k (inr ge) = []

    abbrev spoken_by : (k : ℕ) → (k < 16) ⊎ (16 ≤ k) → List (Spoken Request Moment)
    spoken_by k (inl lt) = (place_lived k lt).spoken
    spoken_by k (inr ge) = []

    abbrev hearings_by : (k : ℕ) → (k < 16) ⊎ (16 ≤ k) → List (Hearing Request)
    hearings_by k (inl lt) = (place_lived k lt).hearings
    hearings_by k (inr ge) = []

    abbrev used_by : (k : ℕ) → (k < 16) ⊎ (16 ≤ k) → List AnyEntry
    used_by k (inl lt) = (place_lived k lt).doing.used
    used_by k (inr ge) = []

    abbrev took_by : (k : ℕ) → (k < 16) ⊎ (16 ≤ k) → List AnyMark
    took_by k (inl lt) = (place_lived k lt).along.turns.took
    took_by k (inr ge) = []

    pub sessions : ℕ → List (Session Request Moment)
    sessions k = sessions_by k (compared k 16)

    -- their messages, as they came
    pub spoken : ℕ → List (Spoken Request Moment)
    spoken k = spoken_by k (compared k 16)

    abbrev pub all_sessions : AllSessions Request Moment
    all_sessions = record { places = 16; spoken = spoken; sessions = sessions }

    pub hearings : ℕ → List (Hearing Request)
    hearings k = hearings_by k (compared k 16)

    pub used : ℕ → List AnyEntry
    used k = used_by k (compared k 16)

    -- and what turns left of it with the turnstiles
    pub took : ℕ → List AnyMark
    took k = took_by k (compared k 16)

    pub took_used : (k : ℕ) → k < 16 → any_entries (took k) ≡ used k
    unfolding used took
    took_used k lt = elim (compared k 16) as (λ d. any_entries (took_by k d) ≡ used_by k d) [ inl below ↦ (place_lived k below).along.turns.used_are | inr ge ↦ absurd (omega (arith, lt, ge)) ]

    -- What the place that a job left has seen of both turnstiles: it took its turns so.
    pub record TookThen (k : ℕ) (took : List AnyMark) : Type 0 where
      pub left : PlaceAt
      pub left_is : slice_get lefts k ≡ Some left
      pub table : List Entry
      pub table_codes : left.seat.seen ≡ codes table
      pub marks : List UserMark
      pub marks_codes : left.users.seen ≡ user_codes marks
      pub takes : TakesTurns (is_used_mark k) k left.seat.stamps table left.users.stamps marks took

    pub took_then : (k : ℕ) → k < 16 → TookThen k (took k)
    unfolding took
    took_then k lt = elim (compared k 16) as (λ d. TookThen k (took_by k d)) [
      | inl below ↦ (
          let x = ran_at k below in
          let y = place_lived k below in
          let z = y.along.turns in
          record {
            left = x.left;
            left_is = x.left_is;
            table = z.left;
            table_codes = left_seen w.disk.told w.uses.clock w.office.link w.uses.gate s o k p (first_at k below) x.ran.served.callers (last_at k below) x.ran.served.served y;
            marks = y.doing.marks;
            marks_codes = y.did.codes_are;
            takes = subst (λ (t2 : List Stamp × List Stamp). TakesTurns (is_used_mark k) k t2.0 z.left t2.1 y.doing.marks z.took) (λ i. (sym y.did.stamps_are i, sym y.did.users_stamps_are i)) z.takes;
          }
          )
      | inr ge ↦ absurd (omega (arith, lt, ge))
    ]

    -- what came of a job, and so much its links had been written by a moment
    pub record ServedThen (k : ℕ) (said : List (Spoken Request Moment)) (ss : List (Session Request Moment)) (hs : List (Hearing Request)) : Type 1 where
      pub served : IsServedAt w jobs lefts k ss hs
      pub by_then : (m : MomentAt) (g : List Entry) → Allows w.office.link.told w.uses.clock.stamped o k g m → HaveSaid said g m.sessions → (rest more : List Gv) → served.left.seat.seen ++ rest ≡ m.seen ++ more → WereWrittenThen m w.office.link.state (links_of w served.job served.done served.left served.ran) ss

    pub served_then : (k : ℕ) → k < 16 → ServedThen k (spoken k) (sessions k) (hearings k)
    unfolding spoken sessions hearings
    served_then k lt = elim (compared k 16) as (λ d. ServedThen k (spoken_by k d) (sessions_by k d) (hearings_by k d)) [
      | inl below ↦ (let x = ran_at k below in let l = place_lived k below in record { served = record { job = x.job; is = x.is; left = x.left; left_is = x.left_is; done = x.done; ran = x.ran; written = l.written; heard = l.heard_in }; by_then = l.written_then })
      | inr ge ↦ absurd (omega (arith, lt, ge))
    ]

    none_beyond : (k : ℕ) → 16 ≤ k → sessions k ≡ []
    unfolding sessions
    none_beyond k le = elim (compared k 16) as (λ d. sessions_by k d ≡ []) [ inl below ↦ absurd (omega (arith, le, below)) | inr ge ↦ refl ]

    none_heard_beyond : (k : ℕ) → 16 ≤ k → hearings k ≡ []
    unfolding hearings
    none_heard_beyond k le = elim (compared k 16) as (λ d. hearings_by k d ≡ []) [ inl below ↦ absurd (omega (arith, le, below)) | inr ge ↦ refl ]

    module _ (history : List Entry) (seen : (k : ℕ) (q : PlaceAt) → slice_get lefts k ≡ Some q → HasSeen entry_coded.code place_of history k q.seat.seen) where
      lives_each : (k : ℕ) → k < 16 → Lives (language s) k o.first.fold.table (began o.due) (began o.due ++ history) (spoken k) (sessions k)
      unfolding spoken sessions
      lives_each k lt = elim (compared k 16) as (λ d. Lives (language s) k o.first.fold.table (began o.due) (began o.due ++ history) (spoken_by k d) (sessions_by k d)) [
        | inl below ↦ (let x = ran_at k below in all_along w.disk.told w.uses.clock w.office.link w.uses.gate s o k p (first_at k below) x.ran.served.callers (last_at k below) x.ran.served.served history (place_lived k below) (seen k x.left x.left_is))
        | inr ge ↦ absurd (omega (arith, lt, ge))
      ]

      -- each place rests, so nobody has the Provisioner
      rests_each : (k : ℕ) → k < 16 → Rests k (began o.due ++ history)
      rests_each k lt =
          let x = ran_at k lt in
          let is = (place_lived k lt).is in
          let seat = λ (t : Standing w.office.Gate). t.place.seat in
          let fresh = fresh_rests x.job.place.seat (ap (λ (q : PlaceAt). q.seat.seen) x.there) in
          let rested = rested_all (Step w.disk.told w.uses.clock w.office.link w.uses.gate) seat
          (λ t u c y. let v = y.session in let b = y.gated v.before v.users_before v.saw v.users_saw in record { same = y.seat; before = v.before; saw = v.saw.codes_are; entries = b.entries; then_saw = b.saw.codes_are; users_place = t.place.users.place; users_entries = b.users_entries; places = b.places; gated = b.gated })
          (first_at k lt) (last_at k lt) x.ran.served.callers x.ran.served.served fresh in
          rests_along o k x.left.seat is.1 is.2 rested history (seen k x.left x.left_is)

      pub nobody_has : Each (λ e. e.place < 16) history → holder None (began o.due ++ history) ≡ None
      nobody_has numbers = nobody_holds 16 (began o.due ++ history) (within_each 16 o.due history (omega arith) numbers) rests_each

      pub passed_as_one : IsLegal (rules_of o) (began o.due ++ history) → Each (λ e. e.place < 16) history → (excused : Cause → Bool) → AllByRecursion (IsExcused (λ q. IsTrue (excused q))) (began o.due ++ history)
          → ArePassed (language s) (LimitBehind o.first) (λ q. IsTrue (excused q)) (element o.first.fold.table (began o.due) (λ k. [])) all_sessions o.first.fold.table (began o.due) (began o.due ++ history)
      passed_as_one legal numbers excused all =
          passed (language s) (rules_of o) (λ q. IsTrue (excused q)) (began o.due) all_sessions (began o.due ++ history) (omega arith) (legal, all, within 16 o.due history (omega arith) numbers) lives_each none_beyond

    module _ (left : List UserMark) (seen : (k : ℕ) (q : PlaceAt) → slice_get lefts k ≡ Some q → HasSeen user_coded.code user_place_of left k q.users.seen) where
      abbrev history : List UserEntry
      history = entries_of left

      listens_each : (k : ℕ) → k < 16 → Listens (language s) k p history (hearings k)
      unfolding hearings
      listens_each k lt = elim (compared k 16) as (λ d. Listens (language s) k p history (hearings_by k d)) [
        | inl below ↦ (let x = ran_at k below in heard_along w.disk.told w.uses.clock w.office.link w.uses.gate s o k p (first_at k below) x.ran.served.callers (last_at k below) x.ran.served.served left (place_lived k below) (seen k x.left x.left_is))
        | inr ge ↦ absurd (omega (arith, lt, ge))
      ]

      numbered : Each (λ m. user_place_of m < 16) left → AllByRecursion (λ e. e.place < 16) history
      numbered numbers = each_user 16 history (each_entries (λ n. n < 16) left numbers)

      -- each place rests at the users, so nobody has the keeper
      users_rest_each : (k : ℕ) → k < 16 → UsersRest k left
      users_rest_each k lt =
          let x = ran_at k lt in
          let seat = λ (t : Standing w.office.Gate). t.place.users in
          let step = Step w.disk.told w.uses.clock w.office.link w.uses.gate in
          let fresh = subst (λ (g : List Gv). SawRest x.job.place.users.place g) (sym (ap (λ (q : PlaceAt). q.users.seen) x.there)) (nothing_rests x.job.place.users.place) in
          let rests = rested_users step seat (λ t u c y. y.users_rest) (first_at k lt) (last_at k lt) x.ran.served.callers x.ran.served.served fresh in
          let there = same_place step seat (λ t u c y. y.users.1) (first_at k lt) (last_at k lt) x.ran.served.callers x.ran.served.served ∙ ap (λ (q : PlaceAt). q.users.place) x.there in
          users_rest_along k x.left.users there rests left (seen k x.left x.left_is)

      pub nobody_keeps_it : Each (λ m. user_place_of m < 16) left → users_holder None left ≡ None
      nobody_keeps_it numbers = nobody_keeps 16 left numbers users_rest_each

      pub heard_as_one : AreLegal p history → Each (λ m. user_place_of m < 16) left → (failing : Bool) → (1 ≤ failures history → IsTrue failing)
          → AreHeard (language s) p.shelf.sid (IsTrue failing) (record { users = p.users; sessions = λ k. [] }) (record { users = users_after p history; sessions = hearings })
      heard_as_one legal numbers failing fails = heard_together (language s) p (IsTrue failing) 16 history hearings (omega arith) (legal, fails, numbered numbers) listens_each none_heard_beyond

      pub heard_then : AreLegal p history → Each (λ m. user_place_of m < 16) left → (failing : Bool) → (1 ≤ failures history → IsTrue failing) → (earlier later : List UserEntry) → history ≡ earlier ++ later → AreUsersThen (language s) p (IsTrue failing) earlier hearings
      heard_then legal numbers failing fails earlier later is =
          let listens = λ (k : ℕ) (lt : k < 16). subst (λ (g : List UserEntry). Listens (language s) k p g (hearings k)) is (listens_each k lt) in
          let all = subst (λ (g : List UserEntry). AllByRecursion (λ e. e.place < 16) g) is (numbered numbers) in
          users_then (language s) (IsTrue failing) p earlier later 16 hearings listens (subst (λ (g : List UserEntry). AreLegal p g) is legal) (subst (λ (g : List UserEntry). 1 ≤ failures g → IsTrue failing) is fails) (omega arith) all

      -- and both in one order
      module _ (h : List Entry) (table_seen : (k : ℕ) (q : PlaceAt) → slice_get lefts k ≡ Some q → HasSeen entry_coded.code place_of h k q.seat.seen) where
        pub acts_each : (k : ℕ) → k < 16 → ActsAlong (language s) k o.first.fold.table p (began o.due) (began o.due ++ h) history (used k) (sessions k)
        unfolding sessions used
        acts_each k lt = elim (compared k 16) as (λ d. ActsAlong (language s) k o.first.fold.table p (began o.due) (began o.due ++ h) history (used_by k d) (sessions_by k d)) [
          | inl below ↦ (let x = ran_at k below in both_along w.disk.told w.uses.clock w.office.link w.uses.gate s o k p (first_at k below) x.ran.served.callers (last_at k below) x.ran.served.served h left (place_lived k below) (table_seen k x.left x.left_is) (seen k x.left x.left_is))
          | inr ge ↦ absurd (omega (arith, lt, ge))
        ]

        pub played_in_order : IsLegal (rules_of o) (began o.due ++ h) → Each (λ e. e.place < 16) h → AreLegal p history → Each (λ m. user_place_of m < 16) left
            → (excused : Cause → Bool) → AllByRecursion (IsExcused (λ q. IsTrue (excused q))) (began o.due ++ h) → (failing : Bool) → (1 ≤ failures history → IsTrue failing)
            → (order : List AnyEntry) → IsOrderOf h history 16 used order
            → ArePlayedInOrder (language s) (LimitBehind o.first) (λ q. IsTrue (excused q)) (element o.first.fold.table (began o.due) (λ k. [])) p (IsTrue failing) o.first.fold.table (began o.due) order h history sessions
        played_in_order legal numbers users_legal users_numbers excused all failing fails order is =
            in_one_order (language s) (rules_of o) (λ q. IsTrue (excused q)) (began o.due) p (IsTrue failing) 16 h history used order sessions (omega arith)
            (legal, all, within 16 o.due h (omega arith) numbers) (users_legal, fails, numbered users_numbers) acts_each none_beyond is
