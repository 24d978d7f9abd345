-- Each place's sessions, step by step along the history, on the plain element, whose turns pass each beginning of the history.
use Rattle.std.specs.Prelude.{is_some, option_to_list}
use Rattle.std.proofs.Common.{◌≡◌, ◌⊎◌, ℕ, ◌+◌, ◌<◌, ◌≤◌, arith, true, false, length, length-append, List, [], ◌∷◌, ◌++◌, Some, None, refl, sym, ◌∙◌, ap, subst, append_assoc, append-nil, inl, inr}
use Rattle.dxc_model.specs.declared.op.Op.{Op}
use Rattle.dxc_model.specs.declared.op.Op.TheVariants.{Look}
use Rattle.dxc_model.specs.declared.op.Change.{Change}
use Rattle.dxc_model.specs.declared.entry.Outcome.TheVariants.{Answered, Cut, Taken}
use Rattle.dxc_model.specs.declared.entry.Entry.{Entry}
use Rattle.dxc_model.specs.Steps.{made, with_change}
use Rattle.dxc_model.specs.Histories.{Rules, changes_of, table_after}
use Rattle.tl1_users.specs.declared.op.UserOp.{UserOp}
use Rattle.user_admin.specs.Verdicts.{IsChanging}
use Rattle.xc_core.specs.Seeing.{entry}
use Rattle.craft_session.specs.declared.ask.Ask.{Ask}
use Rattle.craft_session.specs.declared.attending.Attending.{Attending}
use Rattle.craft_session.specs.Asks.{Language, Reply}
use Rattle.craft_session.specs.Happenings.{quiet}
use Rattle.craft_session.specs.Hearing.{to_do}
use Rattle.craft_session.specs.Notices.{AreReported, notices}
use Rattle.craft_session.specs.Plain.{Excuse, Said}
use Rattle.craft_session.specs.Runs.{Run, Walk, begins, passes, responds, waits, looks, with_look, with_quiet}
use Rattle.craft_session.specs.Walks.{CutsAt, FrontOf, IsMend, IsUnused, Mends, Serves, attending_after}
use Rattle.craft_session.proofs.Playing.{fits_last}
use Rattle.switch_laws.specs.Beginnings.{AllSessions, ArePassed, HaveSaid, IsPassed}
use Rattle.switch_laws.specs.Element.{Session, Turn, answered, answers, comes, fresh, halted, mends, opens, ready, reported, reports, rested, rests, stops, stops_at_users, unanswered, call, answer, rest as rest_turn, look as look_turn, mend as mend_turn, stop as stop_turn, stop_at_users as users_turn}
use Rattle.switch_laws.specs.Laws.{Lives, Spoken, doubted_by_entry, doubted_in, standing_by_entry, standing_in, element, nobody_came, passed_on, served, session_in, spoken_in, stopped, stopped_at_users}
use Rattle.switch_laws.specs.Moments.{AreBegun, IsBegun}
use Rattle.switch_laws.specs.Placed.{placed}
use Rattle.switch_laws.proofs.Following.{At, Good, IsTaken, in_front, lands, lands_idle, lands_still, lands_there, last_within, may_cut, shorter, start, taken_too}
use Rattle.switch_laws.proofs.Merging.{Track, goes_by, goes_free, goes_on, merged, snoc_once, starts}
use Rattle.switch_laws.proofs.Ordering.{ended}
use Rattle.switch_laws.proofs.Passing.{all_stay, answered_on, begun_on, goes_further, newest_went_on, one_came, reported_on, rested_on, stays, step_begun, unanswered_on}
use Rattle.switch_laws.proofs.Placing.{placed_again, placed_here}
use Rattle.switch_laws.proofs.Replying.{Free, Takes, recalled, uses}
use Rattle.switch_laws.proofs.Saying.{AllSaid, Behind, all_said, behind_last, behind_less, have_said, none_later, run_said}
use Rattle.switch_laws.proofs.Standings.{is_due}

longer : (h es : List Entry) → length h ≤ length (h ++ es)
longer h es = let k = length-append h es in omega (arith, k)

one_longer : (h : List Entry) (e : Entry) → length h < length (h ++ e ∷ [])
one_longer h e = let k = length-append h (e ∷ []) in omega (arith, k)

module _ {U M : Type 0} (l : Language U M) (r : Rules) (excused : Excuse) (past : List Entry) (all : AllSessions U M) where
  abbrev n : ℕ
  n = all.places

  abbrev Desk : Type 0
  Desk = List (Session U M)

  abbrev none_yet : Desk
  none_yet = []

  abbrev Turns : Type 0
  Turns = List (Turn U M)

  -- the element stands so by these turns
  abbrev Plays : Turns → List Entry → (ℕ → Desk) → Type 0
  Plays ts h f = At l r excused past n ts (element r.table h f)

  abbrev Right : List Entry → Type 0
  Right = Good l r excused past n

  -- a moment of these turns, since which the sessions came to those
  abbrev Passed : Turns → (ℕ → Desk) → List Entry → Type 0
  Passed ts f front = IsPassed l r.limit excused (start l r excused past n) ts (record all { sessions = f }) r.table front

  -- They pass each beginning behind which more came; or each.
  record Pl (h : List Entry) (f : ℕ → Desk) : Type 0 where
    pub turns : Turns
    pub plays : Plays turns h f
    pub passes : (front : List Entry) (e : Entry) (back : List Entry) → h ≡ front ++ e ∷ back → length past ≤ length front → Passed turns f front

  record Through (h : List Entry) (f : ℕ → Desk) : Type 0 where
    pub turns : Turns
    pub plays : Plays turns h f
    pub passes : (front back : List Entry) → h ≡ front ++ back → length past ≤ length front → Passed turns f front

  abbrev Met : ℕ → List Entry → Desk → Type 0
  Met p h ss = HaveSaid (all.spoken p) h ss

  abbrev place_of : Entry → ℕ
  place_of e = e.place

  abbrev Follows : ℕ → List Entry → Desk → Type 0
  Follows p h ss = Track place_of IsTaken taken_too past none_yet Right Pl Through Met p h ss

  settles : (h : List Entry) (f : ℕ → Desk) → ((p : ℕ) → p < n → Met p h (f p)) → Pl h f → Through h f
  settles h f met x = record { turns = x.turns; plays = x.plays; passes = λ front back is far. each front back is far }
    where
      here : (front : List Entry) → h ≡ front → Passed x.turns f front
      here front is = subst (λ (g : List Entry). Passed x.turns f g) is (record { later = []; earlier = x.turns; order = refl; sessions = f; played = x.plays; begun = λ p. all_stay IsBegun stays goes_further (f p); said = met })

      each : (front back : List Entry) → h ≡ front ++ back → length past ≤ length front → Passed x.turns f front
      each front [] is far = here front (is ∙ append-nil front)
      each front (e ∷ back) is far = x.passes front e back is far

  -- one turn more
  turned : (front : List Entry) (ts : Turns) (turn : Turn U M) (p : ℕ) (v w : Desk) (f : ℕ → Desk) → AreBegun IsBegun v w → Passed ts (placed p v f) front → Passed (turn ∷ ts) (placed p w f) front
  turned front ts turn p v w f x y = record {
    later = turn ∷ y.later;
    earlier = y.earlier;
    order = ap (λ (us : Turns). turn ∷ us) y.order;
    sessions = y.sessions;
    played = y.played;
    begun = λ k. begun_on IsBegun stays goes_further (y.sessions k) (placed p v f k) (placed p w f k) (y.begun k) (step_begun p v w f x k);
    said = y.said;
  }

  -- what stood in front of an entry and more stands in front of what came before it
  before_last : (h front back : List Entry) (e d : Entry) → h ++ e ∷ [] ≡ front ++ d ∷ back → (more : List Entry) × (h ≡ front ++ more)
  before_last h front back e d is = elim (ended (d ∷ back)) [
    | inl none ↦ absurd (let k = ap length none in omega (arith, k))
    | inr t ↦ (t.0, (snoc_once h (front ++ t.0) e t.1 (is ∙ ap (λ (k : List Entry). front ++ k) t.2 ∙ sym (append_assoc front t.0 (t.1 ∷ [])))).0)
  ]

  -- a turn that takes no entry
  anywhere : (p : ℕ) (h : List Entry) (v w : Desk) (turn : Turn U M) → AreBegun IsBegun v w → ((f : ℕ → Desk) (ts : Turns) → Plays ts h (placed p v f) → Plays (turn ∷ ts) h (placed p w f))
      → (f : ℕ → Desk) → Right h → Pl h (placed p v f) → Pl h (placed p w f)
  anywhere p h v w turn begun on f good x = record { turns = turn ∷ x.turns; plays = on f x.turns x.plays; passes = λ front e back is far. turned front x.turns turn p v w f begun (x.passes front e back is far) }

  -- and one that takes one
  at_entry : (p : ℕ) (h : List Entry) (e : Entry) (v w : Desk) (turn : Turn U M) → AreBegun IsBegun v w → ((f : ℕ → Desk) (ts : Turns) → Right (h ++ e ∷ []) → Plays ts h (placed p v f) → Plays (turn ∷ ts) (h ++ e ∷ []) (placed p w f))
      → (f : ℕ → Desk) → Right (h ++ e ∷ []) → Through h (placed p v f) → Pl (h ++ e ∷ []) (placed p w f)
  at_entry p h e v w turn begun on f good x = record {
    turns = turn ∷ x.turns;
    plays = on f x.turns good x.plays;
    passes = λ front d back is far. let more = before_last h front back e d is in turned front x.turns turn p v w f begun (x.passes front more.0 more.1 far);
  }

  takes_only : (h : List Entry) (e : Entry) (f : ℕ → Desk) → IsTaken e → Right (h ++ e ∷ []) → Through h f → Pl (h ++ e ∷ []) f
  takes_only h e f is good x = record {
    turns = x.turns;
    plays = lands_idle l r excused past n x.turns h e f is x.plays;
    passes = λ front d back split far. let more = before_last h front back e d split in x.passes front more.0 more.1 far;
  }

  module _ (p : ℕ) where
    -- what came of it is met at each history that is shorter than so much
    abbrev MetBelow : ℕ → Desk → Type 0
    MetBelow m ss = (g : List Entry) → length g < m → Met p g ss

    -- a mend of its own, or an entry that it doesn't use
    mended : (h : List Entry) (e : Entry) (ss : Desk) → IsUnused p e ⊎ IsMend p h e → Met p h ss → Follows p h ss → Follows p (h ++ e ∷ []) ss
    mended h e ss (inl unused) met t = goes_by h e ss unused met t
    mended h e ss (inr mend) met t =
        let is = mend.made.1 in
        goes_on h e ss ss (λ taken. let wrong = sym is ∙ taken in cc) mend.mine (at_entry p h e ss ss (mend_turn mend.made.0) (all_stay IsBegun stays goes_further ss) (λ f ts good x.
        let fits = fits_last r h e good.0 in
        lands l r excused past n (mend_turn mend.made.0 ∷ ts) h e p ss ss f mend.made.0 [] ready (ap made (sym is)) (ap (doubted_by_entry (doubted_in [] h) e.op) (sym is)) (ap (standing_by_entry (standing_in ready h) e.op) (sym is))
        (subst (λ (k : ℕ → Desk). At l r excused past n (mend_turn mend.made.0 ∷ ts) (record { table = with_change (table_after r.table h) mend.made.0; changes = changes_of h ++ option_to_list mend.made.0; doubted = []; standing = ready; sessions = k })) (sym (placed_again p ss ss f))
        (mends ts (element r.table h (placed p ss f)) mend.made.0 (is_due h mend.due) (recalled r p excused h e mend.made.0 fits is) x)))) met t

    mended_all : (m : ℕ) (h front : List Entry) (ss : Desk) → Mends p h front → MetBelow m ss → length (h ++ front) < m → Follows p h ss → Follows p (h ++ front) ss
    mended_all m h [] ss x met lt t = subst (λ (g : List Entry). Follows p g ss) (sym (append-nil h)) t
    mended_all m h (e ∷ es) ss x met lt t =
        let same = append_assoc h (e ∷ []) es in
        let short = longer h (e ∷ es) in
        subst (λ (g : List Entry). Follows p g ss) same (mended_all m (h ++ e ∷ []) es ss x.1 met (let k = ap length same in omega (arith, k, lt)) (mended h e ss x.0 (met h (omega (arith, short, lt))) t))

    -- a unit is answered
    module _ (w : Walk U M) (u : U) (m : M) (es : List Entry) (reply : Reply) (ss : Desk) (none : w.due ≡ false) where
      abbrev k : Ask
      k = l.asks w.attending.user u

      abbrev x : Said M
      x = record { moments = m ∷ []; bytes = l.response m u reply }

      abbrev then : List Entry → Desk
      then h = answered u x (attending_after w.attending (length (changes_of h)) k) (session_in w) ∷ ss

      abbrev first : Desk
      first = session_in w ∷ ss

      goes : (h : List Entry) → AreBegun IsBegun first (then h)
      goes h = newest_went_on IsBegun stays goes_further (session_in w) (answered u x (attending_after w.attending (length (changes_of h)) k) (session_in w)) ss first refl (answered_on u x (attending_after w.attending (length (changes_of h)) k) (session_in w))

      free : Free r p excused w.history es w.attending k reply → Follows p w.history first → Follows p (w.history ++ es) (then w.history)
      free a t =
          let on : Follows p w.history (then w.history) = goes_free w.history first (then w.history) (anywhere p w.history first (then w.history) (answer p u m) (goes w.history) (λ f ts here. lands_there l r excused past n (answer p u m ∷ ts) w.history p (then w.history) first f _ _ a.doubted a.stands
          (answers ts (element r.table w.history (placed p first f)) p (session_in w) ss u m reply None (placed_here p first f) refl none a.replies a.recalls_none a.may here))) t in
          subst (λ (g : List Entry). Follows p g (then w.history)) (sym (ap (λ (l2 : List Entry). w.history ++ l2) a.no_entry ∙ append-nil w.history)) on

      taken : Takes r p excused w.history es w.attending k reply → MetBelow (length (w.history ++ es)) first → Follows p w.history first → Follows p (w.history ++ es) (then w.history)
      taken a met t =
          let h = w.history ++ a.front in
          let e = a.last in
          let whole : h ++ e ∷ [] ≡ w.history ++ es = append_assoc w.history a.front (e ∷ []) ∙ ap (λ (l2 : List Entry). w.history ++ l2) (sym a.whole) in
          let below : length h < length (w.history ++ es) = let q = ap length whole in let one = one_longer h e in omega (arith, q, one) in
          let near_is : then h ≡ then w.history = ap (λ (y : Attending). let d : Desk = answered u x y (session_in w) ∷ ss in d) a.attends in
          let on : Follows p (h ++ e ∷ []) (then h) = goes_on h e first (then h) a.does a.mine (at_entry p h e first (then h) (answer p u m) (goes h) (λ f ts good here. lands l r excused past n (answer p u m ∷ ts) h e p (then h) first f (made e.outcome) _ _ refl (a.doubted (doubted_in [] h)) (a.leaves (standing_in ready h))
          (answers ts (element r.table h (placed p first f)) p (session_in w) ss u m reply (made e.outcome) (placed_here p first f) refl none (a.replies good.0 good.1) (a.recalls_it good.0) a.may here))) (met h below) (mended_all (length (w.history ++ es)) w.history a.front first a.stands met below t) in
          subst (λ (g : List Entry × Desk). Follows p g.0 g.1) (λ i. (whole i, near_is i)) on

      response : Serves p r.table w.history k es reply → MetBelow (length (w.history ++ es)) first → Follows p w.history first → Follows p (w.history ++ es) (then w.history)
      response serves met t = elim (uses r p excused w.history es w.attending k reply serves) [ inl a ↦ free a t | inr a ↦ taken a met t ]

    look : (w : Walk U M) (cursor : ℕ) (ms : List M) (bytes : List ℕ) (ss : Desk) → w.due ≡ true → w.attending.watch ≡ Some cursor → AreReported l.report (notices (changes_of w.history) cursor) ms bytes
        → Met p w.history (session_in w ∷ ss) → Follows p w.history (session_in w ∷ ss) → Follows p (w.history ++ entry p (Look cursor) Answered ∷ []) (session_in (with_look p cursor ms bytes w) ∷ ss)
    look w cursor ms bytes ss due watch told met t =
        let e = entry p (Look cursor) Answered in
        let h = w.history in
        let first : Desk = session_in w ∷ ss in
        let said : Said M = record { moments = ms; bytes = bytes } in
        let then_is = reported (length (changes_of h)) said (session_in w) in
        let near : Desk = then_is ∷ ss in
        let far : Desk = session_in (with_look p cursor ms bytes w) ∷ ss in
        let near_is : near ≡ far = ap (λ (bs : List ℕ). let s : Session U M = record { happenings = w.happenings; attending = record { user = w.attending.user; watch = Some (length (changes_of h)) }; due = false; said = record { moments = w.moments ++ ms; bytes = bs }; ended = false } in let d : Desk = s ∷ ss in d) (append_assoc w.earlier w.latest bytes) in
        let on : Follows p (h ++ e ∷ []) near = goes_on h e first near (λ is. let wrong : Answered ≡ Taken = is in cc) refl (at_entry p h e first near (look_turn p ms) (newest_went_on IsBegun stays goes_further (session_in w) then_is ss first refl (reported_on (length (changes_of h)) said (session_in w))) (λ f ts good here. lands l r excused past n (look_turn p ms ∷ ts) h e p near first f None (doubted_in [] h) (standing_in ready h) refl refl refl
        (subst (λ (cs : List Change). At l r excused past n (look_turn p ms ∷ ts) (record { table = table_after r.table h; changes = cs; doubted = doubted_in [] h; standing = standing_in ready h; sessions = placed p near (placed p first f) })) (sym (append-nil (changes_of h)))
        (reports ts (element r.table h (placed p first f)) p (session_in w) ss cursor ms bytes (placed_here p first f) refl due watch told here)))) met t in
        subst (λ (d : Desk). Follows p (h ++ e ∷ []) d) near_is on

    rest : (w : Walk U M) (ss : Desk) → w.due ≡ false → Follows p w.history (session_in w ∷ ss) → Follows p w.history (session_in (with_quiet w) ∷ ss)
    rest w ss none t =
        let first : Desk = session_in w ∷ ss in
        let near : Desk = rested (session_in w) ∷ ss in
        let far : Desk = session_in (with_quiet w) ∷ ss in
        let near_is : near ≡ far = ap (λ (bs : List ℕ). let s : Session U M = record { happenings = w.happenings ++ quiet ∷ []; attending = w.attending; due = is_some w.attending.watch; said = record { moments = w.moments; bytes = bs }; ended = false } in let d : Desk = s ∷ ss in d) (sym (append-nil (w.earlier ++ w.latest))) in
        let on : Follows p w.history near = goes_free w.history first near (anywhere p w.history first near (rest_turn p) (newest_went_on IsBegun stays goes_further (session_in w) (rested (session_in w)) ss first refl (rested_on (session_in w)))
        (λ f ts here. lands_still l r excused past n (rest_turn p ∷ ts) w.history p near near first f refl (rests ts (element r.table w.history (placed p first f)) p (session_in w) ss (placed_here p first f) refl none here))) t in
        subst (λ (d : Desk). Follows p w.history d) near_is on

    come : (h : List Entry) (ss : Desk) → Follows p h ss → Follows p h (fresh l ∷ ss)
    come h ss t =
        let older : (f : ℕ → Desk) → placed p ss f p ≡ ss = λ f. placed_here p ss f in
        goes_free h ss (fresh l ∷ ss) (anywhere p h ss (fresh l ∷ ss) (call p) (one_came IsBegun stays goes_further (fresh l) ss)
        (λ f ts here. lands_still l r excused past n (call p ∷ ts) h p (fresh l ∷ placed p ss f p) (fresh l ∷ ss) ss f (ap (λ (d : Desk). let k : Desk = fresh l ∷ d in k) (older f)) (comes ts (element r.table h (placed p ss f)) p here))) t

    stop : (w : Walk U M) (u : U) (front : List Entry) (op : Op) (ss : Desk) → w.due ≡ false → FrontOf p w.history (l.asks w.attending.user u) front → CutsAt (w.history ++ front) (l.asks w.attending.user u) op
        → MetBelow (length ((w.history ++ front) ++ entry p op Cut ∷ [])) (session_in w ∷ ss) → Follows p w.history (session_in w ∷ ss) → Follows p ((w.history ++ front) ++ entry p op Cut ∷ []) (unanswered u (session_in w) ∷ ss)
    stop w u front op ss none fronts cuts met t =
        let k = l.asks w.attending.user u in
        let h = w.history ++ front in
        let e = entry p op Cut in
        let first : Desk = session_in w ∷ ss in
        let then : Desk = unanswered u (session_in w) ∷ ss in
        let below = one_longer h e in
        goes_on h e first then (λ is. let wrong : Cut ≡ Taken = is in cc) refl (at_entry p h e first then (stop_turn p u op) (newest_went_on IsBegun stays goes_further (session_in w) (unanswered u (session_in w)) ss first refl (unanswered_on u (session_in w))) (λ f ts good here.
        let fits = fits_last r h e good.0 in
        lands l r excused past n (stop_turn p u op ∷ ts) h e p then first f None (op ∷ doubted_in [] h) halted refl refl refl
        (stops ts (element r.table h (placed p first f)) p (session_in w) ss u op (placed_here p first f) refl none (may_cut l r excused past n p h k op cuts) fits.step.0 here))) (met h below) (mended_all (length (h ++ e ∷ [])) w.history front first (in_front l r excused past n p w.history k front fronts) met below t)

    stop_at_users : (w : Walk U M) (u : U) (op : UserOp) (ss : Desk) → w.due ≡ false → l.wants w.attending.user u ≡ to_do op → IsChanging op → Follows p w.history (session_in w ∷ ss) → Follows p w.history (unanswered u (session_in w) ∷ ss)
    stop_at_users w u op ss none wants changing t =
        let first : Desk = session_in w ∷ ss in
        let then : Desk = unanswered u (session_in w) ∷ ss in
        goes_free w.history first then (anywhere p w.history first then (users_turn p u) (newest_went_on IsBegun stays goes_further (session_in w) (unanswered u (session_in w)) ss first refl (unanswered_on u (session_in w)))
        (λ f ts here. lands_still l r excused past n (users_turn p u ∷ ts) w.history p then then first f refl (stops_at_users ts (element r.table w.history (placed p first f)) p (session_in w) ss u op (placed_here p first f) refl none wants changing here))) t

    -- of the place's messages those came first, and the rest stand behind so much
    abbrev Rest : List (Spoken U M) → ℕ → Type 0
    Rest said m = Behind l p r.table (all.spoken p) said m

    -- along one session, after those that came before it
    module _ (h : List Entry) (said : List (Spoken U M)) (ss : Desk) (before : AllSaid l p r.table said ss) (came : Rest said (length h) → Follows p h ss) where
      -- by then it has said all of this
      met_so : (w : Walk U M) → Run l p r.table h w → (m : ℕ) → Rest (said ++ spoken_in ss w.messages) m → MetBelow m (session_in w ∷ ss)
      met_so w run m later g lt = have_said l p r.table (all.spoken p) (said ++ spoken_in ss w.messages) m g (session_in w ∷ ss) (run_said l p r.table h said ss w (session_in w) refl run before) later lt

      ran : (w : Walk U M) → Run l p r.table h w → Rest (said ++ spoken_in ss w.messages) (length w.history) → Follows p w.history (session_in w ∷ ss)
      ran _ begins later = come h ss (came (subst (λ (x : List (Spoken U M)). Rest x (length h)) (append-nil said) later))
      ran _ (passes w e unused run) later =
          let m = length (w.history ++ e ∷ []) in
          let lt = one_longer w.history e in
          goes_by w.history e (session_in w ∷ ss) unused (met_so w run m later w.history lt) (ran w run (behind_less l p r.table (all.spoken p) (said ++ spoken_in ss w.messages) m (length w.history) (omega (arith, lt)) later))
      ran _ (responds w u m es reply none serves run) later =
          let so = behind_last l p r.table (all.spoken p) said ss w.messages (record { behind = w.history ++ es; written = (w.earlier ++ w.latest) ++ l.response m u reply }) later in
          response w u m es reply ss none serves (met_so w run (length (w.history ++ es)) so) (ran w run (behind_less l p r.table (all.spoken p) (said ++ spoken_in ss w.messages) (length (w.history ++ es)) (length w.history) (longer w.history es) so))
      ran _ (waits w none run) later = rest w ss none (ran w run later)
      ran _ (looks w cursor ms bytes due watch told run) later =
          let e = entry p (Look cursor) Answered in
          let lt = one_longer w.history e in
          let m = length (w.history ++ e ∷ []) in
          let so = behind_last l p r.table (all.spoken p) said ss w.messages (record { behind = w.history ++ e ∷ []; written = w.earlier ++ (w.latest ++ bytes) }) later in
          look w cursor ms bytes ss due watch told (met_so w run m so w.history lt) (ran w run (behind_less l p r.table (all.spoken p) (said ++ spoken_in ss w.messages) m (length w.history) (omega (arith, lt)) so))

    lived : (h : List Entry) (said : List (Spoken U M)) (ss : Desk) → Lives l p r.table past h said ss → Rest said (length h) → Follows p h ss
    lived _ _ _ nobody_came later = starts past none_yet refl refl
    lived _ _ _ (passed_on h said ss e unused x) later =
        let m = length (h ++ e ∷ []) in
        let lt = one_longer h e in
        goes_by h e ss unused (have_said l p r.table (all.spoken p) said m h ss (all_said l p r.table past h said ss x) later lt) (lived h said ss x (behind_less l p r.table (all.spoken p) said m (length h) (omega (arith, lt)) later))
    lived _ _ _ (served h said ss w run x) later = ran h said ss (all_said l p r.table past h said ss x) (lived h said ss x) w run later
    lived _ _ _ (stopped h said ss w u front op run none fronts cuts x) later =
        let before = all_said l p r.table past h said ss x in
        let whole = (w.history ++ front) ++ entry p op Cut ∷ [] in
        let le : length w.history ≤ length whole = let a = longer w.history front in let b = longer (w.history ++ front) (entry p op Cut ∷ []) in omega (arith, a, b) in
        stop w u front op ss none fronts cuts (met_so h said ss before (lived h said ss x) w run (length whole) later) (ran h said ss before (lived h said ss x) w run (behind_less l p r.table (all.spoken p) (said ++ spoken_in ss w.messages) (length whole) (length w.history) le later))
    lived _ _ _ (stopped_at_users h said ss w u op run none wants changing x) later = stop_at_users w u op ss none wants changing (ran h said ss (all_said l p r.table past h said ss x) (lived h said ss x) w run later)

  pub passed : (h : List Entry) → 0 < n → Right h → ((p : ℕ) → p < n → Lives l p r.table past h (all.spoken p) (all.sessions p)) → ((p : ℕ) → n ≤ p → all.sessions p ≡ none_yet) → ArePassed l r.limit excused (start l r excused past n) all r.table past h
  passed h pos good lives beyond =
      let later = λ (p : ℕ). none_later l p r.table (all.spoken p) in
      let opening : Pl past (λ p. none_yet) = record { turns = []; plays = opens; passes = λ front e back is far. absurd (let k = ap length is ∙ length-append front (e ∷ back) in omega (arith, k, far)) } in
      let x = merged place_of IsTaken taken_too past none_yet Right Pl Through Met n (λ g e y. last_within l r excused past n g e y.2) (shorter l r excused past n) opening settles takes_only pos (length h + 1) h all.sessions (omega arith)
      (λ p lt. lived p h (all.spoken p) (all.sessions p) (lives p lt) (later p (length h))) beyond good in
      let y = settles h all.sessions (λ p lt. have_said l p r.table (all.spoken p) (all.spoken p) (length h + 1) h (all.sessions p) (all_said l p r.table past h (all.spoken p) (all.sessions p) (lives p lt)) (later p (length h + 1)) (omega arith)) x in
      record { turns = y.turns; played = y.plays; passes = y.passes }
