-- The headline, of its parts.
use Rattle.std.specs.Prelude.{IsTrue}
use Rattle.std.specs.List.{AllByRecursion}
use Rattle.std.proofs.Common.{◌≡◌, ◌<◌, ◌+◌, ℕ, Bool, arith, List, [], ◌∷◌, ◌++◌, append-nil, append_assoc, length, length-append, map, Option, Some, ◌∙◌, ap, refl, subst, sym}
use Rattle.std.specs.List.{slice_get}
use mathlib.Core.Option.{some as some_of}
use lib.ListN.{get_elem?}
use Rattle.atomic_table.specs.Table.{State as TableState}
use Rattle.turnstile.specs.declared.board.View.{View}
use Rattle.turnstile.specs.Laws.{HasSeen}
use Rattle.turnstile.specs.Turning.{Each}
use Rattle.dxc_outside.specs.declared.clock.Moment.{Moment}
use Rattle.dxc_outside.specs.Jobs.{AnyJob}
use Rattle.dxc_model.specs.declared.cause.Cause.{Cause}
use Rattle.dxc_model.specs.declared.op.Change.{Change}
use Rattle.dxc_model.specs.declared.entry.Entry.{Entry}
use Rattle.dxc_model.specs.Histories.{changes_of, table_after}
use Rattle.dxc_model.proofs.Growth.{changes_append, table_append}
use Rattle.frame_worker.specs.Laws.{AreOwnBytes}
use Rattle.shelf_file.specs.Contents.{Contents}
use Rattle.user_admin.specs.declared.op.UserMark.{UserMark}
use Rattle.user_admin.specs.Coding.{mark_coded as user_coded, opening_coded as users_coded}
use Rattle.user_admin.specs.Histories.{Opening as UsersOpening}
use Rattle.user_admin.specs.Marks.{entries_of, place_of as user_place_of}
use Rattle.user_admin.specs.Shared.{SharedFor as UsersStandFor}
use Rattle.xc_core.specs.Coding.{opening_coded}
use Rattle.xc_core.specs.Seeing.{entry_coded, place_of}
use Rattle.xc_core.specs.States.{LimitBehind, Opening, Stands, StandsFor, began, opening_of}
use Rattle.xc_core.proofs.Reckoning.{reckoned_table}
use Rattle.craft_session.specs.Doing.{AnyEntry}
use Rattle.craft_session.specs.Happenings.{Request}
use Rattle.craft_session.specs.Meanings.{language}
use Rattle.craft_session.specs.Places.{HasPlaces}
use Rattle.craft_session.specs.Seats.{PlaceAt}
use Rattle.switch_laws.specs.Beginnings.{ArePassed, IsPassed}
use Rattle.switch_laws.specs.Element.{Turn}
use Rattle.switch_laws.specs.Laws.{IsExcused}
use Rattle.switch_laws.specs.Moments.{changed}
use Rattle.switch_laws.specs.Orders.{IsOrderOf}
use Rattle.switch_laws.proofs.Passing.{moment_of, table_changed}
use Rattle.dxc_jobs.specs.declared.frames_left.FramesLeft.{FramesLeft}
use Rattle.dxc_jobs.specs.Begun.{AreRan}
use Rattle.dxc_jobs.specs.Leaves.{left_by}
use Rattle.craft_server.specs.Serving.{SiteAt}
use Rattle.serve_laws.specs.Headline.{IsEarlier, IsEnd, IsHitlessFabric, IsOneElement, IsOrder, IsTimedOrder, LiesFor, Lying, Sessions, UsersLying, WasThen, behind, moment_at, opened, seen_by, table_seen, users_seen, users_seen_by}
use Rattle.serve_laws.specs.Jobs.{Job, Jobs, Ran, World, links_of}
use Rattle.serve_laws.specs.Timing.{WereWrittenThen}
use Rattle.serve_laws.proofs.Earlier.{SeesOn, earlier}
use Rattle.serve_laws.proofs.Keepers.{keeper_home}
use Rattle.serve_laws.proofs.Leaving.{brought_home, leaves_changes}
use Rattle.serve_laws.proofs.Ordered.{ordered, passes}
use Rattle.serve_laws.proofs.Owning.{all_own, core_of}
use Rattle.serve_laws.proofs.Placing.{get_map, heard_as_one, heard_then, hearings, map_length, nobody_has, nobody_keeps_it, acts_each, all_sessions, passed_as_one, played_in_order, ran_length, served_then, sessions, took, took_then, took_used, used}
use Rattle.serve_laws.proofs.Standbys.{StandbyLaws}
use Rattle.serve_laws.proofs.Resting.{at_home, begun, count, get_below, history, lying, has_one, numbers, opening_is, seen_at, stand, view_at}

module _ (w : World) (laws : StandbyLaws w.disk.told w.disk.state) (s : Contents) (o : Opening) (p : UsersOpening) (jobs : List (Job w)) (lefts : List PlaceAt) (seats : List FramesLeft) (sixteen : length jobs ≡ 16) (has : HasPlaces s o p 16 (map (λ (j : Job w). j.place) jobs)) (ran : AreRan (left_by (Ran w)) jobs lefts) (e : IsEnd w o p has.turnstiles lefts seats) where
  many : {X : Type 0} (f : PlaceAt → X) → length (map f lefts) ≡ 16
  many f = map_length f lefts ∙ ran_length (left_by (Ran w)) jobs lefts ran ∙ sixteen

  some : 0 < 16
  some = omega arith

  seen_many : length (seen_by lefts) ≡ 16
  seen_many = many table_seen

  users_many : length (users_seen_by lefts) ≡ 16
  users_many = many users_seen

  abbrev h : List Entry
  h = history _ _ _ _ _ _ _ _ _ e.of_state

  few : Each (λ (x : Entry). x.place < 16) h
  few = numbers _ _ _ _ _ _ _ _ _ e.of_state opening_coded.inj o 16 has.state_made seen_many some

  seen : (k : ℕ) (q : PlaceAt) → slice_get lefts k ≡ Some q → HasSeen entry_coded.code place_of h k q.seat.seen
  seen k q is = seen_at _ _ _ _ _ _ _ _ _ e.of_state k (table_seen q) (get_map table_seen lefts k q is)

  abbrev lies : Lying w
  lies = lying _ _ _ _ _ _ _ _ _ e.of_state opening_coded.inj o 16 has.state_made seen_many some

  stands : StandsFor w.disk.told w.disk.state o lies.state.value (began o.due ++ h)
  stands = subst (λ (y : Opening). StandsFor w.disk.told w.disk.state y lies.state.value (began y.due ++ h)) (opening_is _ _ _ _ _ _ _ _ _ e.of_state opening_coded.inj o 16 has.state_made seen_many some) (stand _ _ _ _ _ _ _ _ _ e.of_state opening_coded.inj o 16 has.state_made seen_many some)

  abbrev g : List UserMark
  g = history _ _ _ _ _ _ _ _ _ e.of_users

  users_few : Each (λ (x : UserMark). user_place_of x < 16) g
  users_few = numbers _ _ _ _ _ _ _ _ _ e.of_users users_coded.inj p 16 has.users_made users_many some

  saw_users : (k : ℕ) (q : PlaceAt) → slice_get lefts k ≡ Some q → HasSeen user_coded.code user_place_of g k q.users.seen
  saw_users k q is = seen_at _ _ _ _ _ _ _ _ _ e.of_users k (users_seen q) (get_map users_seen lefts k q is)

  abbrev users_lie : UsersLying w
  users_lie = lying _ _ _ _ _ _ _ _ _ e.of_users users_coded.inj p 16 has.users_made users_many some

  users_stand : UsersStandFor w.disk.told w.disk.state p users_lie.state.value g
  users_stand = subst (λ (y : UsersOpening). UsersStandFor w.disk.told w.disk.state y users_lie.state.value g) (opening_is _ _ _ _ _ _ _ _ _ e.of_users users_coded.inj p 16 has.users_made users_many some) (stand _ _ _ _ _ _ _ _ _ e.of_users users_coded.inj p 16 has.users_made users_many some)

  made_for : opening_of w.disk.state e.key.first.value.value ≡ o
  made_for = begun _ _ _ _ _ _ _ _ _ e.of_state opening_coded.inj o 16 has.state_made seen_many some

  passes_are : e.key.passes ≡ 16
  passes_are = count _ _ _ _ _ _ _ _ _ e.of_state opening_coded.inj o 16 has.state_made seen_many some

  -- what lay in the turnstile at an earlier moment
  module _ (z : TableState (Option (Lying w)) View) (m : IsEarlier w e.key lefts z) where
    abbrev was : (y : Lying w) × (z.homes ≡ some_of (Some y) ∷ []) × (opening_of w.disk.state y.state.value ≡ opening_of w.disk.state e.key.first.value.value) × Stands w.disk.told w.disk.state y.state.value m.allowed.history
    was = m.allowed.at_home m.no_turn

    stood : StandsFor w.disk.told w.disk.state o was.0.state.value (began o.due ++ m.allowed.history)
    stood = subst (λ (y : Opening). StandsFor w.disk.told w.disk.state y was.0.state.value (began y.due ++ m.allowed.history)) (was.2 ∙ made_for) was.3

    lay_for : LiesFor w o m.allowed.history z
    lay_for = record { lying = was.0; at_home = was.1; stands = stood; leaves = leaves_changes w.disk.told w.disk.state laws o was.0.state.value (began o.due ++ m.allowed.history) stood }

    -- each pass had seen a beginning of the history
    sees : (n : ℕ) (v : View) → n < m.allowed.dealt → get_elem? z.views (n + 1) ≡ some_of v → SeesOn entry_coded.code h v.seen
    sees n v lt at =
        let few = m.allowed.few.0 in
        let passes = passes_are in
        let sixteen_left = ran_length (left_by (Ran w)) jobs lefts ran in
        let q = get_below lefts n (omega (arith, lt, few, passes, sixteen_left, sixteen)) in
        let more = m.sees_on n q.0 v q.1 at in
        let x = seen n q.0 q.1 in
        record { begun = x.begun; later = x.later; whole = x.whole; more = more.0; codes = sym more.1 ∙ x.codes }

    before : (later : List Entry) × (m.allowed.history ++ later ≡ h)
    before = earlier opening_coded.code entry_coded.code entry_coded.inj _ place_of _ e.key z m.allowed h sees

    split : changes_of (began o.due ++ h) ≡ changes_of (began o.due) ++ (changes_of m.allowed.history ++ changes_of before.0)
    split = changes_append (began o.due) h ∙ ap (λ (cs : List Change). changes_of (began o.due) ++ cs) (ap changes_of (sym before.1) ∙ changes_append m.allowed.history before.0)

    table_was : changed (table_after o.first.fold.table (began o.due)) (changes_of m.allowed.history) ≡ was.0.state.value.table
    table_was = sym (table_changed (table_after o.first.fold.table (began o.due)) m.allowed.history) ∙ sym (table_append o.first.fold.table (began o.due) m.allowed.history) ∙ sym (reckoned_table o.first stood.now (began o.due ++ m.allowed.history) stood.reckoned) ∙ sym stood.table

    was_then : (excused : Cause → Bool) (ss : Sessions w) (ts : List (Turn Request Moment)) → IsOrder w s o excused ts (behind w s o h ss) → WasThen w s o excused ts h ss z
    unfolding lay_for
    was_then excused ss ts played =
        let moment = moment_of (language s) (LimitBehind o.first) (λ q. IsTrue (excused q)) (opened w s o) ts (behind w s o h ss) (changes_of m.allowed.history) (changes_of before.0) played split in
        record { earlier = m.allowed.history; later = before.0; whole = before.1; lies = lay_for; moment = moment; same_table = moment.table_is ∙ table_was }

  -- one order of turns, which passes each beginning of the history
  module _ (excused : Cause → Bool) (all : AllByRecursion (IsExcused (λ q. IsTrue (excused q))) (began o.due ++ h)) where
    abbrev ss : Sessions w
    ss = sessions w s o p has.turnstiles jobs lefts sixteen has.each ran

    by_turns : ArePassed (language s) (LimitBehind o.first) (λ q. IsTrue (excused q)) (opened w s o) (all_sessions w s o p has.turnstiles jobs lefts sixteen has.each ran) o.first.fold.table (began o.due) (began o.due ++ h)
    by_turns = passed_as_one w s o p has.turnstiles jobs lefts sixteen has.each ran h seen stands.legal few excused all

    passes_at : (front back : List Entry) → front ++ back ≡ h → IsPassed (language s) (LimitBehind o.first) (λ q. IsTrue (excused q)) (opened w s o) by_turns.turns (all_sessions w s o p has.turnstiles jobs lefts sixteen has.each ran) o.first.fold.table (began o.due ++ front)
    passes_at front back is =
        by_turns.passes (began o.due ++ front) back (ap (λ (g : List Entry). began o.due ++ g) (sym is) ∙ sym (append_assoc (began o.due) front back)) (let k = length-append (began o.due) front in omega (arith, k))

    abbrev timed_order : IsTimedOrder w s o excused e.key lefts h ss
    timed_order = record {
      one = record { turns = by_turns.turns; played = by_turns.played; moments = λ z m. was_then z m excused ss by_turns.turns by_turns.played };
      passes = λ front back is. let x = passes_at front back is in record { later = x.later; earlier = x.earlier; order = x.order; sessions = x.sessions; played = x.played; begun = x.begun };
    }

    -- and what links had been written at an earlier moment
    module _ (z : TableState (Option (Lying w)) View) (m : IsEarlier w e.key lefts z) (k : ℕ) (lt : k < 16) (v : View) (at : get_elem? z.views (k + 1) ≡ some_of v) where
      abbrev then_was : WasThen w s o excused by_turns.turns h ss z
      then_was = was_then z m excused ss by_turns.turns by_turns.played

      links_then : w.office.link.told → let x = (served_then w s o p has.turnstiles jobs lefts sixteen has.each ran k lt).served in WereWrittenThen (moment_at w s o k v.seen ((passes_at then_was.earlier then_was.later then_was.whole).sessions k)) w.office.link.state (links_of w x.job x.done x.left x.ran) (ss k)
      unfolding was_then
      links_then told =
          let y = served_then w s o p has.turnstiles jobs lefts sixteen has.each ran k lt in
          let more = m.sees_on k y.served.left v y.served.left_is at in
          let f = (m.allowed.each (k + 1) v at).front in
          let then_passed = passes_at then_was.earlier then_was.later then_was.whole in
          y.by_then (moment_at w s o k v.seen (then_passed.sessions k)) (began o.due ++ then_was.earlier)
          (record {
            tells = told;
            stamps = λ x there. there;
            place = refl;
            begun = f.begun;
            later = f.later;
            whole = append_assoc (began o.due) f.begun f.later ∙ ap (λ (es : List Entry). began o.due ++ es) f.whole;
            codes_are = f.seen;
          })
          (then_passed.said k lt) [] more.0 (append-nil y.served.left.seat.seen ∙ more.1)

  -- one order of both histories' entries
  in_order : (order : List AnyEntry) × IsOrderOf h (entries_of g) 16 (used w s o p has.turnstiles jobs lefts sixteen has.each ran) order
  in_order =
      let one = has_one _ _ _ _ _ _ _ _ _ e.of_state in
      let other = has_one _ _ _ _ _ _ _ _ _ e.of_users in
      let knows = λ (k : ℕ) (q : PlaceAt) (is : slice_get lefts k ≡ Some q). view_at _ _ _ _ _ _ _ _ _ e.of_state k (table_seen q) (get_map table_seen lefts k q is) in
      let users_know = λ (k : ℕ) (q : PlaceAt) (is : slice_get lefts k ≡ Some q). view_at _ _ _ _ _ _ _ _ _ e.of_users k (users_seen q) (get_map users_seen lefts k q is) in
      let left = took w s o p has.turnstiles jobs lefts sixteen has.each ran in
      let used_are = took_used w s o p has.turnstiles jobs lefts sixteen has.each ran in
      ordered w e.key e.state e.users_key e.users lefts h g one other knows users_know left (used w s o p has.turnstiles jobs lefts sixteen has.each ran) used_are
      (λ k lt. let x = took_then w s o p has.turnstiles jobs lefts sixteen has.each ran k lt in passes w e.key e.state e.users_key e.users lefts h g one other knows users_know left (used w s o p has.turnstiles jobs lefts sixteen has.each ran) used_are k (left k) x.left x.left_is x.table x.table_codes x.marks x.marks_codes x.takes)

  pub one_element : IsOneElement w s o p jobs lefts e.key e.state e.users
  one_element =
      let ss = sessions w s o p has.turnstiles jobs lefts sixteen has.each ran in
      record {
        history = h;
        lies = record {
          lying = lies;
          at_home = at_home _ _ _ _ _ _ _ _ _ e.of_state opening_coded.inj o 16 has.state_made seen_many some;
          stands = stands;
          leaves = leaves_changes w.disk.told w.disk.state laws o lies.state.value (began o.due ++ h) stands;
        };
        home = brought_home w.disk.told w.disk.state laws o lies.state.value (began o.due ++ h) stands (nobody_has w s o p has.turnstiles jobs lefts sixteen has.each ran h seen few);
        users_history = entries_of g;
        users_left = g;
        users_entered = refl;
        users_lying = users_lie;
        users_at_home = at_home _ _ _ _ _ _ _ _ _ e.of_users users_coded.inj p 16 has.users_made users_many some;
        users_stand = users_stand;
        users_home = keeper_home w.disk.told w.disk.state laws p g (nobody_keeps_it w s o p has.turnstiles jobs lefts sixteen has.each ran g saw_users users_few) users_lie.state.value users_stand;
        sessions = ss;
        hearings = hearings w s o p has.turnstiles jobs lefts sixteen has.each ran;
        each = λ k lt. (served_then w s o p has.turnstiles jobs lefts sixteen has.each ran k lt).served;
        played = λ excused all. timed_order excused all;
        written_before = λ told excused all z m k lt v at. links_then excused all z m k lt v at told;
        used = used w s o p has.turnstiles jobs lefts sixteen has.each ran;
        acted = acts_each w s o p has.turnstiles jobs lefts sixteen has.each ran g saw_users h seen;
        order = in_order.0;
        ordered = in_order.1;
        together = λ excused all failing fails.
            let c = played_in_order w s o p has.turnstiles jobs lefts sixteen has.each ran g saw_users h seen stands.legal few users_stand.legal users_few excused all failing fails in_order.0 in_order.1 in
            (c, record { turns = c.turns; played = c.along.0; moments = λ z m. was_then z m excused ss c.turns c.along.0 }, refl);
        heard = heard_as_one w s o p has.turnstiles jobs lefts sixteen has.each ran g saw_users users_stand.legal users_few;
        heard_before = heard_then w s o p has.turnstiles jobs lefts sixteen has.each ran g saw_users users_stand.legal users_few;
      }

pub headline : AreOwnBytes → (w : World) → StandbyLaws w.disk.told w.disk.state → (handed : List AnyJob → Type 0) (site : SiteAt) (s : Contents) (o : Opening) (p : UsersOpening) (j : Jobs w handed site s o p) (e : IsEnd w o p j.places.turnstiles j.left.left.sessions.items j.left.left.workers.items)
    → IsOneElement w s o p j.sessions j.left.left.sessions.items e.key e.state e.users × IsHitlessFabric w o j.workers j.left.left.workers.items e.fabric
headline own_bytes w laws handed site s o p j e = (
  one_element w laws s o p j.sessions j.left.left.sessions.items j.left.left.workers.items j.sixteen j.places j.left.of_sessions e,
  record { core = core_of o.site.fabric.size e.fabric e.of_fabric; always = core_of o.site.fabric.size; frames = all_own own_bytes w.uses.lines w.uses.gate w.office.opener.lines_for o.site.fabric site.lines e.fabric e.of_fabric 0 j.workers j.left.left.workers.items j.seats j.left.of_workers e.of_seats },
)
