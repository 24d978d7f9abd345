-- A Provisioner that a place has taken out, and how it comes home.
use Rattle.std.specs.Prelude.{min}
use Rattle.std.proofs.Common.{◌≡◌, ◌≢◌, ℕ, ◌+◌, ◌≤◌, arith, ◌⊎◌, true, false, List, [], ◌∷◌, ◌++◌, length, Option, Some, None, refl, sym, ◌∙◌, ap, subst, inl, inr}
use Rattle.dxc_causes.specs.Causes.{last}
use Rattle.dxc_disk.specs.Disks.{CountsOn, DiskState, IsSynced}
use Rattle.dbchg_reports.specs.Recent.{Recent, recent_of, with_one}
use Rattle.dbchg_reports.proofs.Keeping.{recent_more}
use Rattle.dxc_model.specs.declared.op.Op.{Op}
use Rattle.dxc_model.specs.declared.op.Change.{Change}
use Rattle.dxc_model.specs.declared.cause.Cause.TheVariants.{JournalAstray}
use Rattle.dxc_model.specs.declared.entry.Outcome.TheVariants.{Done, Failed, Cut, Taken}
use Rattle.dxc_model.specs.declared.entry.Entry.{Entry}
use Rattle.dxc_model.specs.Tables.{Board}
use Rattle.dxc_model.specs.Verdicts.{Grants, effect}
use Rattle.dxc_model.specs.Steps.{made}
use Rattle.dxc_model.specs.Histories.{BringsHome, Fits, IsCut, IsDoubtful, IsFailedRestart, IsRestarted, IsSettling, KeepsTurns, WaitsFor, changes_of, holder, holder_after, table_after}
use Rattle.dxc_model.proofs.Growth.{fits_by, holder_more, legal_more, turns_more}
use Rattle.dxc_model.proofs.Lasting.{lasts_before, lasts_now}
use Rattle.roll_engine.specs.Rollings.{RollingAt}
use Rattle.journal_core.specs.declared.book.Book.{Book}
use Rattle.turnstile.specs.Turning.{Each}
use Rattle.xc_core.specs.declared.provisioner.Provisioner.{Provisioner}
use Rattle.xc_core.specs.declared.state.Home.TheVariants.{In}
use Rattle.xc_core.specs.declared.state.State.{State}
use Rattle.xc_core.specs.Reckonings.{Past, ReckonsTo, changed}
use Rattle.xc_core.specs.Operations.{HasRead}
use Rattle.xc_core.specs.Provisioners.{Boxed, Rolls, ground_of, with_halt}
use Rattle.xc_core.specs.Restarts.{IsHalted}
use Rattle.xc_core.specs.Finishes.{Finishes}
use Rattle.xc_core.specs.States.{DoubtsUnsettled, Opening, IsHomeAfter, IsPaid, IsReadyOrHalted, IsUncertain, IsUnsettled, SpendsOf, StandsFor, cost, fault_in, faults_in, most_room, outset_of, room_in, rules_of, with_home}
use Rattle.xc_core.specs.Seeing.{HasTaken, IsOut, entry}
use Rattle.xc_core.proofs.Entries.{AreReads, reading_not_cut, astray_more, brought, changes_one, changes_same, doubts_cut, holder_append, lasted_reading, others_read, paid_counted, reads_changes, reads_faults, reads_room, room_more, same_faults, spends_at, spends_within, turns_behind}
use Rattle.xc_core.proofs.Halting.{halted_rolls}
use Rattle.xc_core.proofs.Operating.{read_made}
use Rattle.xc_core.proofs.Pasts.{past_marked}
use Rattle.xc_core.proofs.Reckoning.{changes_counted, reckons_more, reckoned_table}
use Rattle.xc_core.proofs.Standing.{limit_met, table_is}

module _ {D : Type 0} (told : Type 0) (state : D → DiskState) where
  -- In later turns others have read, and all else is as it was.
  module _ (o : Opening) (own : ℕ) (op : Op) (h later : List Entry) (p : Provisioner D) (others : Each (λ e. e.place ≢ own) later) (turns : KeepsTurns None (h ++ later)) where
    module _ (t : IsOut told state o own op h p) where
      pub others_since : AreReads later × (holder (Some (entry own op Taken)) later ≡ Some (entry own op Taken))
      others_since = others_read own op later others (subst (λ (x : Option Entry). KeepsTurns x later) t.held (turns_behind None h later turns))

      pub read_since : AreReads later
      read_since = others_since.0

      abbrev pub out_since : IsOut told state o own op (h ++ later) p
      out_since = record {
        now = t.now;
        reckoned = subst (λ (cs : List Change). ReckonsTo o.first cs t.now) (sym (reads_changes h later read_since)) t.reckoned;
        held = holder_append None h later ∙ ap (λ (x : Option Entry). holder x later) t.held ∙ others_since.1;
        ground = t.ground;
        faults = subst (λ (n : ℕ). min (o.faults + n) last ≤ (state p.journal.0).faults) (sym (reads_faults h later read_since)) t.faults;
        spends = spends_within o (room_in h + most_room) (room_in (h ++ later) + most_room) (state p.journal.0) (let more = reads_room h later in omega (arith, more)) t.spends;
        read = λ k. subst (λ (cs : List Change). HasRead (outset_of o) cs t.now (state p.journal.0)) (sym (reads_changes h later read_since)) (t.read k);
      }

    -- a place that took the Provisioner for a change finds it so
    pub taken_since : (r : RollingAt) → HasTaken told state o own op h p r → HasTaken told state o own op (h ++ later) p r
    taken_since r t = record {
      out = out_since t.out;
      change = t.change;
      within = t.within;
      rolls = t.rolls;
      unstopped = λ stopped. t.unstopped (lasted_reading IsCut IsRestarted reading_not_cut h later (read_since t.out) stopped);
    }

  -- the engine took the work on
  abbrev pub out_moved : (o : Opening) (own : ℕ) (op : Op) (h : List Entry) (p q : Provisioner D) → IsOut told state o own op h p → ground_of q ≡ ground_of p → q.journal ≡ p.journal → IsOut told state o own op h q
  out_moved o own op h p q t ground journal = record {
    now = t.now;
    reckoned = t.reckoned;
    held = t.held;
    ground = ground ∙ t.ground;
    faults = subst (λ (j : D × Book). min (o.faults + faults_in h) last ≤ (state j.0).faults) (sym journal) t.faults;
    spends = subst (λ (j : D × Book). SpendsOf o (room_in h + most_room) (state j.0)) (sym journal) t.spends;
    read = λ k. subst (λ (j : D × Book). HasRead (outset_of o) (changes_of h) t.now (state j.0)) (sym journal) (t.read k);
  }

  pub taken_rolls : (o : Opening) (own : ℕ) (op : Op) (h : List Entry) (p q : Provisioner D) (r s : RollingAt) → HasTaken told state o own op h p r → ground_of q ≡ ground_of p → q.journal ≡ p.journal
      → ((b : Past) (x : Op) (c : Change) → Rolls told state b x c p r → Rolls told state b x c q s) → HasTaken told state o own op h q s
  taken_rolls o own op h p q r s t ground journal rolls = record { out = out_moved o own op h p q t.out ground journal; change = t.change; within = t.within; rolls = rolls t.out.now op t.change t.rolls; unstopped = t.unstopped }

  -- It is brought home in a later turn, in which the state stands for the history too.
  module _ (o : Opening) (s : State D) (h : List Entry) (st : StandsFor told state o s h) (own : ℕ) (op : Op) (p : Provisioner D) (t : IsOut told state o own op h p) where
    pub out_table : t.now.fold.table ≡ table_after o.first.fold.table h
    out_table = reckoned_table o.first t.now h t.reckoned

    pub same_table : t.now.fold.table ≡ s.table
    same_table = out_table ∙ sym (table_is told state o s h st)

    -- as many changes were reported as it holds
    pub same_number : p.changes ≡ t.now.changes → o.first.changes ≡ 0 → s.reports.newest ≡ p.changes
    same_number holds none =
        let number : s.reports.newest ≡ length (changes_of h) = ap (λ (x : Recent). x.newest) st.reports in
        let counted = changes_counted o.first t.now (changes_of h) t.reckoned in
        omega (arith, none, number, counted, holds)

    pub waits_own : (e : Entry) → e.place ≡ own → BringsHome op e.op e.outcome → WaitsFor (holder None h) e
    waits_own e place brings = subst (λ (x : Option Entry). WaitsFor x e) (sym t.held) (inr (place, brings))

    pub home_now : (e : Entry) → e.place ≡ own → holder None (h ++ e ∷ []) ≡ None
    home_now e place = holder_more None h e ∙ ap (λ (x : Option Entry). holder_after x e) t.held ∙ brought own op e place

    pub faults_here : (e : Entry) (q : Provisioner D) → q.journal ≡ p.journal → fault_in e.outcome ≡ 0 → min (o.faults + faults_in (h ++ e ∷ [])) last ≤ (state q.journal.0).faults
    faults_here e q journal none = subst (λ (j : D × Book). min (o.faults + faults_in (h ++ e ∷ [])) last ≤ (state j.0).faults) (sym journal) (same_faults o.faults (state p.journal.0).faults (state p.journal.0).faults h e none t.faults (omega arith))

    pub spends_here : (e : Entry) (q : Provisioner D) → q.journal ≡ p.journal → cost e.outcome ≡ most_room → SpendsOf o (room_in (h ++ e ∷ [])) (state q.journal.0)
    spends_here e q journal costs =
        let room = room_more h e in
        subst (λ (j : D × Book). SpendsOf o (room_in (h ++ e ∷ [])) (state j.0)) (sym journal) (spends_at o (room_in h + most_room) (room_in (h ++ e ∷ [])) (state p.journal.0) (omega (arith, room, costs)) t.spends)

    -- it comes home with all that it has of the disk
    pub in_now : (b : Past) (e : Entry) (q : Provisioner D) → ground_of q ≡ ground_of p → q.journal ≡ p.journal → fault_in e.outcome ≡ 0 → cost e.outcome ≡ most_room → IsReadyOrHalted told state b (h ++ e ∷ []) q → DoubtsUnsettled (h ++ e ∷ []) q
        → (told → HasRead (outset_of o) (changes_of (h ++ e ∷ [])) b (state p.journal.0)) → (told → (IsUncertain (h ++ e ∷ []) → ⊥) → IsSynced (state p.journal.0)) → IsHomeAfter told state o b (h ++ e ∷ []) q
    in_now b e q ground journal none costs stage doubt read synced = record {
      ground = ground ∙ t.ground;
      stage = stage;
      doubt = doubt;
      faults = faults_here e q journal none;
      spends = spends_here e q journal costs;
      read = λ k. subst (λ (j : D × Book). HasRead (outset_of o) (changes_of (h ++ e ∷ [])) b (state j.0)) (sym journal) (read k);
      synced = λ k clear. subst (λ (j : D × Book). IsSynced (state j.0)) (sym journal) (synced k clear);
    }

    pub paid_now : (e : Entry) (q : Provisioner D) → q.journal ≡ p.journal → fault_in e.outcome ≡ 0 → cost e.outcome ≡ most_room → CountsOn (state q.journal.0) → IsPaid o (h ++ e ∷ [])
    paid_now e q journal none costs counts = paid_counted o (h ++ e ∷ []) (state q.journal.0) counts (faults_here e q journal none) (spends_here e q journal costs)

    -- halted, and no change was made
    pub comes_halted : (e : Entry) (q : Provisioner D) → e.place ≡ own → e.op ≡ op → e.outcome ≡ Cut → Fits (rules_of o) h e → ground_of q ≡ ground_of p → q.journal ≡ p.journal → CountsOn (state q.journal.0)
        → IsHalted told state t.now q → ((x : Op) → q.doubt ≡ Some x → IsUnsettled (h ++ e ∷ []) x) → (d : Boxed D) → d.value.p ≡ q → StandsFor told state o (with_home (In d) s) (h ++ e ∷ [])
    comes_halted e q place same cut fits ground journal counts halted doubt d is =
        let none : fault_in e.outcome ≡ 0 = ap fault_in cut in
        let costs : cost e.outcome ≡ most_room = ap cost cut in
        let unchanged = changes_same h e (ap made cut) in
        record {
          now = t.now;
          reckoned = subst (λ (cs : List Change). ReckonsTo o.first cs t.now) (sym unchanged) t.reckoned;
          table = sym same_table;
          reports = st.reports ∙ ap recent_of (sym unchanged);
          legal = legal_more (rules_of o) h e st.legal fits;
          turns = turns_more None h e st.turns (waits_own e place (subst (BringsHome op e.op) (sym cut) same));
          paid = paid_now e q journal none costs counts;
          astray = astray_more told h e st.astray (λ k x. let y : Cut ≡ Failed JournalAstray = sym cut ∙ x in cc);
          home = (
            home_now e place,
            subst (λ (x : Provisioner D). IsHomeAfter told state o t.now (h ++ e ∷ []) x) (sym is) (in_now t.now e q ground journal none costs (inr (halted, lasts_now (λ y. IsCut y ⊎ IsFailedRestart y) IsRestarted h e (inl cut))) (doubts_cut h e q cut doubt)
                (λ k. subst (λ (cs : List Change). HasRead (outset_of o) cs t.now (state p.journal.0)) (sym unchanged) (t.read k)) (λ k clear. absurd (clear (lasts_now IsDoubtful IsSettling h e (inl cut))))),
          );
        }

  module _ (o : Opening) (s : State D) (h : List Entry) (st : StandsFor told state o s h) (own : ℕ) (op : Op) (p : Provisioner D) (r : RollingAt) (t : HasTaken told state o own op h p r) where
    granted_here : Grants (table_after o.first.fold.table h) op t.change
    granted_here = subst (λ (b : Board). Grants b op t.change) (out_table o s h st own op p t.out) t.rolls.granted

    -- all its writes were made, and the table took it
    pub stands_done : (d : Boxed D) (table : Board) (answer : Change) → Finishes told state t.out.now t.change r table d.value.p answer → ground_of d.value.p ≡ ground_of p → d.value.p.journal ≡ p.journal → CountsOn (state d.value.p.journal.0)
        → StandsFor told state o (record s { table = table; reports = with_one answer s.reports; home = In d }) (h ++ entry own op (Done answer) ∷ [])
    stands_done d table answer end ground journal counts = subst (λ (c : Change). StandsFor told state o (record s { table = table; reports = with_one c s.reports; home = In d }) (h ++ entry own op (Done c) ∷ [])) (sym end.change) (by end.table_is)
      where
        by : table ≡ effect t.out.now.fold.table t.change → StandsFor told state o (record s { table = table; reports = with_one t.change s.reports; home = In d }) (h ++ entry own op (Done t.change) ∷ [])
        by is =
            let ops = r.work.ops.items in
            let b = t.out.now in
            let e = entry own op (Done t.change) in
            let one = changes_one h e t.change refl in
            record {
              now = changed b t.change ops;
              reckoned = subst (λ (cs : List Change). ReckonsTo o.first cs (changed b t.change ops)) (sym one) (reckons_more o.first b (changes_of h) t.change ops t.out.reckoned t.rolls.planned);
              table = is;
              reports = ap (with_one t.change) st.reports ∙ recent_more (changes_of h) t.change ∙ ap recent_of (sym one);
              legal = legal_more (rules_of o) h e st.legal (fits_by (rules_of o) h e (effect (table_after o.first.fold.table h) t.change, (granted_here, refl)) (limit_met told state o h b t.out.reckoned op t.change None (Done t.change) granted_here (inl t.within) refl) tt);
              turns = turns_more None h e st.turns (waits_own o s h st own op p t.out e refl refl);
              paid = paid_now o s h st own op p t.out e d.value.p journal refl refl counts;
              astray = astray_more told h e st.astray (λ k x. let y : Done t.change ≡ Failed JournalAstray = x in cc);
              home = (
                home_now o s h st own op p t.out e refl,
                in_now o s h st own op p t.out (changed b t.change ops) e d.value.p ground journal refl refl
                    (inl (end.home, λ stopped. t.unstopped (lasts_before IsCut IsRestarted h e stopped (λ x. let y : Done t.change ≡ Cut = x in cc))))
                    (λ x asked. absurd (let k : None ≡ Some x = sym end.settled ∙ asked in cc))
                    (λ k. subst (λ (cs : List Change). HasRead (outset_of o) cs (changed b t.change ops) (state p.journal.0)) (sym one) (read_made (outset_of o) (changes_of h) (t.change ∷ []) b (changed b t.change ops) (state p.journal.0) (ops, t.rolls.planned, refl) (t.out.read k)))
                    (λ k clear. t.rolls.journalled.synced k),
              );
            }

    -- a stop came while its work was under way
    pub stands_cut : CountsOn (state p.journal.0) → (d : Boxed D) → d.value.p ≡ with_halt true p → StandsFor told state o (with_home (In d) s) (h ++ entry own op Cut ∷ [])
    stands_cut counts d marked =
        let e = entry own op Cut in
        let x = t.rolls in
        comes_halted o s h st own op p t.out e (with_halt true p) refl refl refl
        (fits_by (rules_of o) h e (table_after o.first.fold.table h, (inr (t.change, granted_here), refl)) (limit_met told state o h t.out.now t.out.reckoned op t.change None Cut granted_here (inl t.within) refl) tt)
        refl refl counts
        (halted_rolls told state t.out.now op t.change (with_halt true p) r refl (record {
          ready = refl;
          past = past_marked t.out.now p x.past false;
          doubt = x.doubt;
          granted = x.granted;
          within = x.within;
          planned = x.planned;
          journalled = x.journalled;
          under_way = x.under_way;
          switches = x.switches;
          alone = x.alone;
          few = x.few;
        }))
        (λ y asked. lasts_now (λ z. IsDoubtful z × (z.op ≡ y)) IsSettling h e (inl refl, (let k : Some op ≡ Some y = sym t.rolls.doubt ∙ asked in cc)))
        d marked
