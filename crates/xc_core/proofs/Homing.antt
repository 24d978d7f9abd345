-- A Provisioner whose journal is called outside of any turn, and how it comes home whatever came of that.
use Rattle.std.specs.Prelude.{min, slice_index}
use Rattle.std.proofs.Common.{◌≡◌, ◌≢◌, ℕ, ◌+◌, ◌≤◌, arith, ◌⊎◌, true, false, List, [], ◌∷◌, ◌++◌, Option, Some, None, refl, sym, ◌∙◌, ap, subst, inl, inr}
use Rattle.dxc_causes.specs.Causes.{Rose, last}
use Rattle.dxc_disk.specs.Disks.{CountsOn, DiskState, IsDisk, IsSynced, LeavesOnly, Spends}
use Rattle.dxc_disk.proofs.DiskSteps.{spends_none}
use Rattle.dbchg_reports.specs.Recent.{recent_of}
use Rattle.turnstile.specs.Turning.{Each}
use Rattle.dxc_model.specs.declared.cause.Cause.{Cause}
use Rattle.dxc_model.specs.declared.cause.Cause.TheVariants.{DiskFault, JournalAstray}
use Rattle.dxc_model.specs.declared.op.Op.{Op}
use Rattle.dxc_model.specs.declared.op.Op.TheVariants.{Restart}
use Rattle.dxc_model.specs.declared.op.Change.{Change}
use Rattle.dxc_model.specs.declared.entry.Outcome.TheVariants.{Failed, Restarted, Cut, Taken}
use Rattle.dxc_model.specs.declared.entry.Entry.{Entry}
use Rattle.dxc_model.specs.Tables.{Board}
use Rattle.dxc_model.specs.Verdicts.{Grants}
use Rattle.dxc_model.specs.Steps.{IsDriven, IsFault}
use Rattle.dxc_model.specs.Histories.{Fits, KeepsLimit, IsCut, IsDoubtful, IsFailedRestart, IsRestarted, IsSettling, IsStopped, KeepsTurns, changes_of, table_after}
use Rattle.dxc_model.proofs.FirstCauses.{changes}
use Rattle.dxc_model.proofs.Growth.{fits_by, legal_more, turns_more}
use Rattle.dxc_model.proofs.Lasting.{lasts_before, lasts_more, lasts_now}
use Rattle.journal_core.specs.declared.book.Book.{Book}
use Rattle.journal_core.specs.Records.{set_seal}
use Rattle.roll_engine.specs.Rollings.{RollingAt}
use Rattle.xc_recovery.specs.Placings.{IsPlaced}
use Rattle.xc_core.specs.declared.provisioner.Provisioner.{Provisioner}
use Rattle.xc_core.specs.declared.state.Errand.{Errand}
use Rattle.xc_core.specs.declared.state.Errand.TheVariants as errand
use Rattle.xc_core.specs.declared.state.Home.TheVariants.{In, Out}
use Rattle.xc_core.specs.declared.state.State.{State}
use Rattle.xc_core.specs.Begins.{MayDoubt, MayNote, Plan, Starts, plan_of}
use Rattle.xc_core.specs.Journals.{IsOldOrOneMore}
use Rattle.xc_core.specs.Operations.{HasRead, change}
use Rattle.xc_core.specs.Provisioners.{Boxed, IsHome, StillDoubts, ground_of, with_halt}
use Rattle.xc_core.specs.Reckonings.{HasWork, Past, ReckonsTo}
use Rattle.xc_core.specs.Restarts.{IsHalted, Resumes}
use Rattle.xc_core.specs.Seeing.{HasFailed, HasHeld, HasPlan, HasRestart, HasStopped, HasTaken, IsDueFor, IsOut, entry}
use Rattle.xc_core.specs.States.{DoubtsUnsettled, LimitBehind, IsHomeAfter, IsReadyOrHalted, IsUncertain, MayBeOutFor, Opening, SpendsOf, StandsFor, fault_in, faults_in, most_room, outset_of, room_in, rules_of, with_home}
use Rattle.xc_core.proofs.Away.{comes_halted, home_now, out_since, out_table, read_since, same_table, taken_since, waits_own}
use Rattle.xc_core.proofs.Entries.{reading_not_cut, reading_not_restarted, reading_not_settling, astray_more, changes_same, cut_settles_not, doubts_left, doubts_more, failed_settles_not, faults_more, lasted_reading, lasts_reading, paid_counted, reads_faults, reads_room, room_more, spends_at, spends_one, spends_within, taken_settles_not, unsettled_more}
use Rattle.xc_core.proofs.Journalling.{doubted_or_more, home_images}
use Rattle.xc_core.proofs.Meeting.{meets_one}
use Rattle.xc_core.proofs.Operating.{read_more}
use Rattle.xc_core.proofs.Restarting.{due_more, due_now, of_stop, restart_since}
use Rattle.xc_core.proofs.Standing.{IsIn, found_in, limit_met, marked_home, out_of, ready_home, stands_out, there}

module _ {D : Type 0} (told : Type 0) (state : D → DiskState) where
  -- In later turns others have read, and all else is as it was.
  pub plan_since : (o : Opening) (own : ℕ) (h later : List Entry) (p : Provisioner D) (plan : Plan) → Each (λ e. e.place ≢ own) later → KeepsTurns None (h ++ later) → HasPlan told state o own h p plan → HasPlan told state o own (h ++ later) p plan
  plan_since o own h later p plan others turns x =
      let reads = read_since told state o own plan.op h later p others turns x.out in
      record {
        out = out_since told state o own plan.op h later p others turns x.out;
        unspent = spends_within o (room_in h) (room_in (h ++ later)) (state p.journal.0) (reads_room h later) x.unspent;
        may = x.may;
        sealed = x.sealed;
        doubt = λ y is. lasts_reading (λ z. IsDoubtful z × (z.op ≡ y)) IsSettling reading_not_settling h later reads (x.doubt y is);
        unstopped = λ stopped. x.unstopped (lasted_reading IsCut IsRestarted reading_not_cut h later reads stopped);
      }

  pub halt_since : (o : Opening) (own : ℕ) (asked : Op) (h later : List Entry) (p : Provisioner D) → Each (λ e. e.place ≢ own) later → KeepsTurns None (h ++ later) → HasStopped told state o own asked h p → HasStopped told state o own asked (h ++ later) p
  halt_since o own asked h later p others turns x =
      let reads = read_since told state o own Restart h later p others turns x.out in
      record {
        out = out_since told state o own Restart h later p others turns x.out;
        halted = x.halted;
        doubt = λ y is. let w = x.doubt y is in (
          lasts_reading (λ z. IsDoubtful z × (z.op ≡ y)) IsSettling reading_not_settling h later reads w.0,
          λ halted. lasts_reading IsCut IsRestarted reading_not_restarted h later reads (w.1 halted),
        );
        due = elim x.due [ inl is ↦ inl is | inr due ↦ inr (lasts_reading (λ z. IsCut z ⊎ IsFailedRestart z) IsRestarted reading_not_restarted h later reads due) ];
      }

  pub failure_since : (o : Opening) (own : ℕ) (taken op : Op) (cause : Cause) (h later : List Entry) (p : Provisioner D) → Each (λ e. e.place ≢ own) later → KeepsTurns None (h ++ later) → HasFailed told state o own taken op cause h p → HasFailed told state o own taken op cause (h ++ later) p
  failure_since o own taken op cause h later p others turns x =
      let reads = read_since told state o own taken h later p others turns x.out in
      record {
        out = out_since told state o own taken h later p others turns x.out;
        upon = elim x.upon [
          | inl a ↦ inl (a.0, λ stopped. a.1 (lasted_reading IsCut IsRestarted reading_not_cut h later reads stopped))
          | inr b ↦ inr (b.0, elim b.1 [ inl is ↦ inl is | inr due ↦ inr (lasts_reading (λ z. IsCut z ⊎ IsFailedRestart z) IsRestarted reading_not_restarted h later reads due) ])
        ];
        fault = x.fault;
        driven = x.driven;
        counted = λ is. subst (λ (n : ℕ). min (o.faults + (n + 1)) last ≤ (state p.journal.0).faults) (sym (reads_faults h later reads)) (x.counted is);
        astray = x.astray;
        stage = elim x.stage [
          | inl a ↦ inl (a.0, λ stopped. a.1 (lasted_reading IsCut IsRestarted reading_not_cut h later reads stopped))
          | inr b ↦ inr (b.0, elim b.1 [ inl is ↦ inl is | inr due ↦ inr (lasts_reading (λ z. IsCut z ⊎ IsFailedRestart z) IsRestarted reading_not_restarted h later reads due) ])
        ];
        doubt = λ y is. let w = x.doubt y is in (
          elim w.0 [ inl mine ↦ inl mine | inr was ↦ inr (lasts_reading (λ z. IsDoubtful z × (z.op ≡ y)) IsSettling reading_not_settling h later reads was) ],
          λ halted. lasts_reading IsCut IsRestarted reading_not_restarted h later reads (w.1 halted),
        );
      }

  -- The turn that takes it out calls no disk.
  module _ (o : Opening) (s : State D) (h : List Entry) (st : StandsFor told state o s h) (q p : Provisioner D) (was : IsIn told state o st.now h q) (journal : p.journal ≡ q.journal) (ground : ground_of p ≡ ground_of q) (own : ℕ) (op : Op) where
    abbrev e : Entry
    e = entry own op Taken

    abbrev out_here : IsOut told state o own op (h ++ e ∷ []) p
    out_here = out_of told state o s h st q p was ground (subst (λ (j : D × Book). (state q.journal.0).faults ≤ (state j.0).faults) (sym journal) (omega arith)) (subst (λ (j : D × Book). Spends most_room (state q.journal.0) (state j.0)) (sym journal) (spends_none most_room (state q.journal.0))) op own
        (λ k. subst (λ (j : D × Book). HasRead (outset_of o) (changes_of h) st.now (state j.0)) (sym journal) (was.read k))

    unspent_here : SpendsOf o (room_in (h ++ e ∷ [])) (state p.journal.0)
    unspent_here = subst (λ (j : D × Book). SpendsOf o (room_in (h ++ e ∷ [])) (state j.0)) (sym journal) (spends_at o (room_in h) (room_in (h ++ e ∷ [])) (state q.journal.0) (let room = room_more h e in omega (arith, room)) was.spends)

    out_now : (why : Errand) → MayBeOutFor why h → Fits (rules_of o) h e → StandsFor told state o (with_home (Out why) s) (h ++ e ∷ [])
    out_now why may fits = stands_out told state o s h st q q was refl (omega arith) (spends_none most_room (state q.journal.0)) op own why may fits

  -- for a change
  pub plan_taken : (o : Opening) (s : State D) (h : List Entry) (st : StandsFor told state o s h) (d : Boxed D) → s.home ≡ In d → d.value.p.halted ≡ false → (own : ℕ) (f : Boxed D) (plan : Plan) → f.value.p.journal ≡ d.value.p.journal → ground_of f.value.p ≡ ground_of d.value.p → f.value.p.doubt ≡ d.value.p.doubt
      → ((b : Past) → IsHome told state b d.value.p → b.fold.table ≡ s.table → MayNote told state b f.value.p plan) → slice_index plan.bytes 0 ≡ set_seal
      → StandsFor told state o (with_home (Out errand.Change) s) (h ++ entry own plan.op Taken ∷ []) × HasPlan told state o own (h ++ entry own plan.op Taken ∷ []) f.value.p plan
  plan_taken o s h st d is ready own f plan journal ground doubt notes sealed =
      let was = ready_home told state o s h st d is ready in
      let may = notes st.now was.home (sym st.table) in
      let e = entry own plan.op Taken in
      let granted = there told state o s h st (λ t. Grants t plan.op may.is.change) may.is.granted in
      let work : HasWork st.now may.is.change None = record { ops = plan.rolling.work.ops.items; planned = may.is.planned; limit = may.is.limit } in (
        out_now o s h st d.value.p f.value.p was.is_in journal ground own plan.op errand.Change (λ _. was.unstopped)
            (fits_by (rules_of o) h e (table_after o.first.fold.table h, (inr (may.is.change, granted), refl)) (limit_met told state o h st.now st.reckoned plan.op may.is.change None Taken granted (inl work) refl) tt),
        record {
          out = out_here o s h st d.value.p f.value.p was.is_in journal ground own plan.op;
          unspent = unspent_here o s h st d.value.p f.value.p was.is_in journal ground own plan.op;
          may = may;
          sealed = sealed;
          doubt = λ y asked. unsettled_more h e y (taken_settles_not own plan.op) (was.is_in.doubt y (sym doubt ∙ asked)).0;
          unstopped = λ stopped. was.unstopped (lasts_before IsCut IsRestarted h e stopped (λ y. let z : Taken ≡ Cut = y in cc));
        },
      )

  -- for a restart
  pub held_taken : (o : Opening) (s : State D) (h : List Entry) (st : StandsFor told state o s h) (d : Boxed D) → s.home ≡ In d → (own : ℕ) (asked : Op) → IsDueFor asked h → (f : Boxed D) → f.value.p.journal ≡ d.value.p.journal → ground_of f.value.p ≡ ground_of d.value.p → f.value.p.doubt ≡ d.value.p.doubt → f.value.p.halted ≡ d.value.p.halted
      → IsReadyOrHalted told state st.now h f.value.p → f.value.p.replayed.expected ≡ s.table
      → StandsFor told state o (with_home (Out errand.Restart) s) (h ++ entry own Restart Taken ∷ []) × HasHeld told state o own asked (h ++ entry own Restart Taken ∷ []) f.value.p
  held_taken o s h st d is own asked due f journal ground doubt halted stage copied =
      let was = found_in told state o s h st d is in
      let e = entry own Restart Taken in (
        out_now o s h st d.value.p f.value.p was journal ground own Restart errand.Restart (λ is. let no : errand.Restart ≡ errand.Change = is in cc) (fits_by (rules_of o) h e (table_after o.first.fold.table h, (inl refl, refl)) (λ c granted. absurd granted.apt) tt),
        record {
          out = out_here o s h st d.value.p f.value.p was journal ground own Restart;
          unspent = unspent_here o s h st d.value.p f.value.p was journal ground own Restart;
          stage = elim stage [
            | inl a ↦ inl (a.0, λ stopped. a.1 (lasts_before IsCut IsRestarted h e stopped (λ x. let y : Taken ≡ Cut = x in cc)))
            | inr a ↦ inr (a.0, lasts_more (λ x. IsCut x ⊎ IsFailedRestart x) IsRestarted h e a.1 (λ x. let y : Taken ≡ Restarted x.0 = x.1 in cc))
          ];
          copied = copied ∙ st.table;
          doubt = doubts_more h e f.value.p (taken_settles_not own Restart) (λ y here. let w = was.doubt y (sym doubt ∙ here) in (w.0, λ marked. w.1 (sym halted ∙ marked)));
          due = due_more asked h e (λ x. let y : Taken ≡ Restarted x.0 = x.1 in cc) due;
        },
      )

  -- what calls outside of any turn left of a Provisioner that was taken out
  module _ (o : Opening) (own : ℕ) (op : Op) (h : List Entry) (q p : Provisioner D) (t : IsOut told state o own op h q) (unspent : SpendsOf o (room_in h) (state q.journal.0)) (ground : ground_of p ≡ ground_of q) (later : (state q.journal.0).faults ≤ (state p.journal.0).faults)
      (spent : Spends most_room (state q.journal.0) (state p.journal.0)) (read : told → HasRead (outset_of o) (changes_of h) t.now (state p.journal.0)) where
    abbrev out_left : IsOut told state o own op h p
    out_left = record {
      now = t.now;
      reckoned = t.reckoned;
      held = t.held;
      ground = ground ∙ t.ground;
      faults = let was = t.faults in omega (arith, was, later);
      spends = spends_one o (room_in h) most_room (state q.journal.0) (state p.journal.0) unspent spent;
      read = read;
    }

    rose_left : Rose (state q.journal.0).faults (state p.journal.0).faults → min (o.faults + (faults_in h + 1)) last ≤ (state p.journal.0).faults
    rose_left rose = let was = t.faults in omega (arith, was, rose)

  -- what the disk read in the call is of the operation
  read_noted : (o : Opening) (own : ℕ) (h : List Entry) (q p : Provisioner D) (plan : Plan) (x : HasPlan told state o own h q plan)
      → (told → IsDisk (state q.journal.0) × IsDisk (state p.journal.0) × LeavesOnly (state q.journal.0) (state p.journal.0) (IsOldOrOneMore x.out.now q.doubt plan.op)) → told → HasRead (outset_of o) (changes_of h) x.out.now (state p.journal.0)
  read_noted o own h q p plan x left k =
      let l = left k in
      read_more (outset_of o) (changes_of h) x.out.now (state q.journal.0) (state p.journal.0) q.doubt (change plan.op) l.0 l.1
      (λ c image. doubted_or_more x.out.now q.doubt plan.op c (home_images told (state q.journal.0) q.journal.1 x.out.now q.doubt (sym x.may.home.past.shape) x.may.home.journal k x.may.home.past.book c image))
      l.2 (x.out.read k)

  -- the record is in the journal
  pub plan_noted : (o : Opening) (own : ℕ) (h : List Entry) (q p : Provisioner D) (plan : Plan) (x : HasPlan told state o own h q plan) → ground_of p ≡ ground_of q → (state q.journal.0).faults ≤ (state p.journal.0).faults → Spends most_room (state q.journal.0) (state p.journal.0)
      → (told → IsDisk (state q.journal.0) × IsDisk (state p.journal.0) × LeavesOnly (state q.journal.0) (state p.journal.0) (IsOldOrOneMore x.out.now q.doubt plan.op)) → Starts told state x.out.now plan.op p plan.rolling → HasTaken told state o own plan.op h p plan.rolling
  plan_noted o own h q p plan x ground later spent left starts = record {
    out = out_left o own plan.op h q p x.out x.unspent ground later spent (read_noted o own h q p plan x left);
    change = starts.change;
    within = starts.within;
    rolls = starts.rolls;
    unstopped = x.unstopped;
  }

  -- or the disk failed
  pub plan_failed : (o : Opening) (own : ℕ) (h : List Entry) (q p : Provisioner D) (plan : Plan) (x : HasPlan told state o own h q plan) → ground_of p ≡ ground_of q → Spends most_room (state q.journal.0) (state p.journal.0) → (state q.journal.0).faults ≤ (state p.journal.0).faults → Rose (state q.journal.0).faults (state p.journal.0).faults
      → (told → IsDisk (state q.journal.0) × IsDisk (state p.journal.0) × LeavesOnly (state q.journal.0) (state p.journal.0) (IsOldOrOneMore x.out.now q.doubt plan.op)) → IsHome told state x.out.now p → MayDoubt plan.op q p → HasFailed told state o own plan.op plan.op DiskFault h p
  plan_failed o own h q p plan x ground spent later rose left home may = record {
    out = out_left o own plan.op h q p x.out x.unspent ground later spent (read_noted o own h q p plan x left);
    upon = inl (refl, x.unstopped);
    fault = inl refl;
    driven = inr (changes x.out.now.fold.table.shape plan.op x.may.is.granted.apt);
    counted = λ _. rose_left o own plan.op h q p x.out x.unspent ground later spent (read_noted o own h q p plan x left) rose;
    astray = λ t is. let no : DiskFault ≡ JournalAstray = is in cc;
    stage = inl (home, x.unstopped);
    doubt = λ y asked. (
      elim may [
        | inl old ↦ inr (x.doubt y (sym old.doubt ∙ asked))
        | inr other ↦ elim other [
          | inl none ↦ absurd (let k : None ≡ Some y = sym none.1 ∙ asked in cc)
          | inr new ↦ inl ((let k : Some plan.op ≡ Some y = sym new.1 ∙ asked in cc), refl)
        ]
      ],
      λ halted. absurd (let k : false ≡ true = sym home.ready ∙ halted in cc),
    );
  }

  -- of a restart: the mend or the reading failed
  pub held_failed : (o : Opening) (own : ℕ) (asked : Op) (cause : Cause) (h : List Entry) (q p : Provisioner D) (x : HasHeld told state o own asked h q) → ground_of p ≡ ground_of q → (state q.journal.0).faults ≤ (state p.journal.0).faults → Spends most_room (state q.journal.0) (state p.journal.0) → (told → HasRead (outset_of o) (changes_of h) x.out.now (state p.journal.0)) → StillDoubts q p
      → IsDriven asked → IsFault cause → (cause ≡ DiskFault → Rose (state q.journal.0).faults (state p.journal.0).faults) → (told → cause ≢ JournalAstray) → (IsHome told state x.out.now p × (IsStopped h → ⊥)) ⊎ IsHalted told state x.out.now p
      → HasFailed told state o own Restart asked cause h p
  held_failed o own asked cause h q p x ground later spent read kept driven fault rose astray stage = record {
    out = out_left o own Restart h q p x.out x.unspent ground later spent read;
    upon = inr (refl, x.due);
    fault = fault;
    driven = driven;
    counted = λ is. rose_left o own Restart h q p x.out x.unspent ground later spent read (rose is);
    astray = astray;
    stage = elim stage [ inl a ↦ inl a | inr halted ↦ inr (halted, x.due) ];
    doubt = λ y here. let w = doubts_left h q p kept x.doubt y here in (inr w.0, w.1);
  }

  -- the gate stopped
  pub held_stopped : (o : Opening) (own : ℕ) (asked : Op) (h : List Entry) (q p : Provisioner D) (x : HasHeld told state o own asked h q) → ground_of p ≡ ground_of q → (state q.journal.0).faults ≤ (state p.journal.0).faults → Spends most_room (state q.journal.0) (state p.journal.0) → (told → HasRead (outset_of o) (changes_of h) x.out.now (state p.journal.0)) → StillDoubts q p → IsHalted told state x.out.now p
      → HasStopped told state o own asked h p
  held_stopped o own asked h q p x ground later spent read kept halted = record {
    out = out_left o own Restart h q p x.out x.unspent ground later spent read;
    halted = halted;
    doubt = doubts_left h q p kept x.doubt;
    due = x.due;
  }

  -- or the rest of the last work is found
  pub held_resumed : (o : Opening) (own : ℕ) (asked : Op) (h : List Entry) (q p : Provisioner D) (x : HasHeld told state o own asked h q) → ground_of p ≡ ground_of q → (state q.journal.0).faults ≤ (state p.journal.0).faults → Spends most_room (state q.journal.0) (state p.journal.0) → (told → HasRead (outset_of o) (changes_of h) x.out.now (state p.journal.0)) → StillDoubts q p
      → (r : RollingAt) (lacking : Option Change) (g : Past) → Resumes told state x.out.now lacking g p r → HasRestart told state o own asked h p r
  held_resumed o own asked h q p x ground later spent read kept r lacking g resumes = record {
    out = out_left o own Restart h q p x.out x.unspent ground later spent read;
    lacking = lacking;
    behind = g;
    resumes = resumes;
    of_stop = of_stop h x.out.now p lacking g resumes.halted resumes.taken (doubts_left h q p kept x.doubt);
    doubt = doubts_left h q p kept x.doubt;
    due = x.due;
  }

  -- It is brought home in a later turn: halted, before its journal was called or read
  pub stands_unnoted : (o : Opening) (s : State D) (h : List Entry) (st : StandsFor told state o s h) (own : ℕ) (p : Provisioner D) (plan : Plan) → HasPlan told state o own h p plan → CountsOn (state p.journal.0) → (d : Boxed D) → d.value.p ≡ with_halt true p → StandsFor told state o (with_home (In d) s) (h ++ entry own plan.op Cut ∷ [])
  stands_unnoted o s h st own p plan t counts d marked =
      let e = entry own plan.op Cut in
      let c = t.may.is.change in
      let granted = subst (λ (b : Board). Grants b plan.op c) (out_table told state o s h st own plan.op p t.out) t.may.is.granted in
      let work : HasWork t.out.now c None = record { ops = plan.rolling.work.ops.items; planned = t.may.is.planned; limit = t.may.is.limit } in
      comes_halted told state o s h st own plan.op p t.out e (with_halt true p) refl refl refl
      (fits_by (rules_of o) h e (table_after o.first.fold.table h, (inr (c, granted), refl)) (limit_met told state o h t.out.now t.out.reckoned plan.op c None Cut granted (inl work) refl) tt)
      refl refl counts (marked_home told state t.out.now p t.may.home)
      (λ y asked. unsettled_more h e y (cut_settles_not own plan.op) (t.doubt y asked)) d marked

  pub stands_unread : (o : Opening) (s : State D) (h : List Entry) (st : StandsFor told state o s h) (own : ℕ) (asked : Op) (p : Provisioner D) → HasStopped told state o own asked h p → CountsOn (state p.journal.0) → (d : Boxed D) → d.value.p ≡ p → StandsFor told state o (with_home (In d) s) (h ++ entry own Restart Cut ∷ [])
  stands_unread o s h st own asked p t counts d same =
      let e = entry own Restart Cut in
      comes_halted told state o s h st own Restart p t.out e p refl refl refl (fits_by (rules_of o) h e (table_after o.first.fold.table h, (inl refl, refl)) (λ c granted. absurd granted.apt) tt) refl refl counts t.halted
      (λ x here. unsettled_more h e x (cut_settles_not own Restart) (t.doubt x here).0)
      d same

  -- or failed
  module _ (o : Opening) (s : State D) (h : List Entry) (st : StandsFor told state o s h) (own : ℕ) (taken op : Op) (cause : Cause) (p : Provisioner D) (t : HasFailed told state o own taken op cause h p) where
    abbrev f : Entry
    f = entry own op (Failed cause)

    abbrev b : Past
    b = t.out.now

    placed : IsPlaced b.fold.table b.fold.colours
    placed = elim t.stage [ inl a ↦ a.0.past.placed | inr a ↦ a.0.past.placed ]

    limits : (c : Change) → Grants (table_after o.first.fold.table h) op c → (met : Option Cause) × LimitBehind o.first (changes_of h) c met × KeepsLimit met (Failed cause)
    limits c granted = let m = meets_one b op c placed (subst (λ (x : Board). Grants x op c) (sym (out_table told state o s h st own taken p t.out)) granted) in (m.0, (b, t.out.reckoned, m.1), inl t.fault)

    counted : min (o.faults + faults_in (h ++ f ∷ [])) last ≤ (state p.journal.0).faults
    counted = elim t.fault [
      | inl is ↦ (let one : fault_in (Failed cause) ≡ 1 = ap (λ (x : Cause). fault_in (Failed x)) is in let rose = t.counted is in let n = faults_more h f in omega (arith, n, one, rose))
      | inr is ↦ (let none : fault_in (Failed cause) ≡ 0 = ap (λ (x : Cause). fault_in (Failed x)) is in let was = t.out.faults in let n = faults_more h f in omega (arith, n, none, was))
    ]

    spent : SpendsOf o (room_in (h ++ f ∷ [])) (state p.journal.0)
    spent = let room = room_more h f in spends_at o (room_in h + most_room) (room_in (h ++ f ∷ [])) (state p.journal.0) (omega (arith, room)) t.out.spends

    stage : IsReadyOrHalted told state b (h ++ f ∷ []) p
    stage = elim t.stage [
      | inl a ↦ inl (a.0, λ stopped. a.1 (lasts_before IsCut IsRestarted h f stopped (λ x. let y : Failed cause ≡ Cut = x in cc)))
      | inr a ↦ inr (a.0, due_now own op cause h a.1)
    ]

    doubt : DoubtsUnsettled (h ++ f ∷ []) p
    doubt = λ x asked. let w = t.doubt x asked in (
      elim w.0 [
        | inl mine ↦ lasts_now (λ y. IsDoubtful y × (y.op ≡ x)) IsSettling h f (inr (ap Failed mine.1), sym mine.0)
        | inr was ↦ unsettled_more h f x (failed_settles_not own op cause) was
      ],
      λ halted. lasts_more IsCut IsRestarted h f (w.1 halted) (λ r. failed_settles_not own op cause (inr r)),
    )

    read : told → HasRead (outset_of o) (changes_of (h ++ f ∷ [])) b (state p.journal.0)
    read k = subst (λ (cs : List Change). HasRead (outset_of o) cs b (state p.journal.0)) (sym (changes_same h f refl)) (t.out.read k)

    -- the disk failed, so that not all is settled
    synced : told → (IsUncertain (h ++ f ∷ []) → ⊥) → IsSynced (state p.journal.0)
    synced k clear = elim t.fault [ inl is ↦ absurd (clear (lasts_now IsDoubtful IsSettling h f (inr (ap Failed is)))) | inr is ↦ absurd (t.astray k is) ]

    pub stands_fault : CountsOn (state p.journal.0) → (d : Boxed D) → d.value.p ≡ p → StandsFor told state o (with_home (In d) s) (h ++ f ∷ [])
    stands_fault counts d same =
        let unchanged = changes_same h f refl in
        record {
          now = b;
          reckoned = subst (λ (cs : List Change). ReckonsTo o.first cs b) (sym unchanged) t.out.reckoned;
          table = sym (same_table told state o s h st own taken p t.out);
          reports = st.reports ∙ ap recent_of (sym unchanged);
          legal = legal_more (rules_of o) h f st.legal (fits_by (rules_of o) h f (table_after o.first.fold.table h, (inr (t.fault, t.driven), refl)) limits tt);
          turns = turns_more None h f st.turns (waits_own told state o s h st own taken p t.out f refl (t.fault, elim t.upon [ inl a ↦ inl a.0 | inr a ↦ inr a.0 ]));
          paid = paid_counted o (h ++ f ∷ []) (state p.journal.0) counts counted spent;
          astray = astray_more told h f st.astray (λ k x. t.astray k (let y : Failed cause ≡ Failed JournalAstray = x in cc));
          home = (home_now told state o s h st own taken p t.out f refl, subst (λ (x : Provisioner D). IsHomeAfter told state o b (h ++ f ∷ []) x) (sym same) (record { ground = t.out.ground; stage = stage; doubt = doubt; faults = counted; spends = spent; read = read; synced = synced }));
        }

  -- Which of both a stop found.
  module _ (o : Opening) (own : ℕ) (op : Op) (h : List Entry) (p : Provisioner D) (r : RollingAt) where
    abbrev pub IsCutAt : List Entry → Type 0
    IsCutAt l = ((bytes : List ℕ) × HasPlan told state o own l p (plan_of op r bytes)) ⊎ HasTaken told state o own op l p r

    pub cut_by : (P : Type 0) → IsCutAt h → ((bytes : List ℕ) → HasPlan told state o own h p (plan_of op r bytes) → P) → (HasTaken told state o own op h p r → P) → P
    cut_by P is before behind = elim is [ inl x ↦ before x.0 x.1 | inr x ↦ behind x ]

    pub cut_unstopped : IsCutAt h → IsStopped h → ⊥
    cut_unstopped is stopped = elim is [ inl x ↦ x.1.unstopped stopped | inr x ↦ x.unstopped stopped ]

    abbrev pub IsRestartCutAt : List Entry → Type 0
    IsRestartCutAt l = HasStopped told state o own op l p ⊎ HasRestart told state o own op l p r

    pub restart_cut_by : (P : Type 0) → IsRestartCutAt h → (HasStopped told state o own op h p → P) → (HasRestart told state o own op h p r → P) → P
    restart_cut_by P is before behind = elim is [ inl x ↦ before x | inr x ↦ behind x ]

    pub restart_cut_due : IsRestartCutAt h → IsDueFor op h
    restart_cut_due is = elim is [ inl x ↦ x.due | inr x ↦ x.due ]

  pub cut_since : (o : Opening) (own : ℕ) (op : Op) (h later : List Entry) (p : Provisioner D) (r : RollingAt) → Each (λ e. e.place ≢ own) later → KeepsTurns None (h ++ later) → IsCutAt o own op h p r h → IsCutAt o own op h p r (h ++ later)
  cut_since o own op h later p r others turns is = elim is [ inl x ↦ inl (x.0, plan_since o own h later p (plan_of op r x.0) others turns x.1) | inr x ↦ inr (taken_since told state o own op h later p others turns r x) ]

  pub restart_cut_since : (o : Opening) (own : ℕ) (asked : Op) (h later : List Entry) (p : Provisioner D) (r : RollingAt) → Each (λ e. e.place ≢ own) later → KeepsTurns None (h ++ later) → IsRestartCutAt o own asked h p r h → IsRestartCutAt o own asked h p r (h ++ later)
  restart_cut_since o own asked h later p r others turns is = elim is [ inl x ↦ inl (halt_since o own asked h later p others turns x) | inr x ↦ inr (restart_since told state o own asked h later p others turns r x) ]
