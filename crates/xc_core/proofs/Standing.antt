-- A state whose Provisioner was home and ready, one entry later: a lemma for each outcome. None but these, those of a Provisioner that was taken out or is halted, and the one of an opening, makes a `StandsFor`.
use Rattle.std.specs.Prelude.{min}
use Rattle.std.proofs.Common.{◌≡◌, ◌≢◌, ℕ, ◌+◌, ◌≤◌, arith, ◌⊎◌, true, false, List, [], ◌∷◌, ◌++◌, Option, Some, None, Ok, Err, refl, sym, ◌∙◌, ap, subst, inl, inr}
use Rattle.dxc_causes.specs.Causes.{last}
use Rattle.dxc_disk.specs.Disks.{CountsOn, DiskState, IsSynced, Spends}
use Rattle.dbchg_reports.specs.Recent.{recent_of}
use Rattle.dxc_model.specs.declared.op.Op.{Op}
use Rattle.dxc_model.specs.declared.op.Change.{Change}
use Rattle.dxc_model.specs.declared.cause.Cause.{Cause}
use Rattle.dxc_model.specs.declared.cause.Cause.TheVariants.{JournalAstray}
use Rattle.dxc_model.specs.declared.entry.Outcome.{Outcome}
use Rattle.dxc_model.specs.declared.entry.Outcome.TheVariants.{Denied, Failed, Answered, Cut, Taken}
use Rattle.dxc_model.specs.declared.entry.Entry.{Entry}
use Rattle.dxc_model.specs.Tables.{Board}
use Rattle.dxc_model.specs.Verdicts.{Grants, Refuses}
use Rattle.dxc_model.specs.Steps.{IsRetrieval, made}
use Rattle.dxc_model.specs.Histories.{Fits, KeepsLimit, OnlyReads, WaitsFor, IsCut, IsDoubtful, IsRestarted, IsFailedRestart, IsSettling, IsStopped, IsRestartDue, changes_of, holder, holder_after, table_after, taker}
use Rattle.dxc_model.proofs.Growth.{fits_by, holder_more, legal_more, turns_more}
use Rattle.dxc_model.proofs.Lasting.{lasts_before, lasts_more}
use Rattle.dxc_model.proofs.Standings.{reading_fits}
use Rattle.xc_core.specs.declared.provisioner.Provisioner.{Provisioner}
use Rattle.xc_core.specs.declared.state.Errand.{Errand}
use Rattle.xc_core.specs.declared.state.Errand.TheVariants as errand
use Rattle.xc_core.specs.declared.state.Home.{Home}
use Rattle.xc_core.specs.declared.state.Home.TheVariants.{In, Out}
use Rattle.xc_core.specs.declared.state.State.{State}
use Rattle.xc_core.specs.Reckonings.{Meets, Past, ReckonsTo}
use Rattle.xc_core.specs.Operations.{HasRead}
use Rattle.xc_core.specs.Provisioners.{Boxed, IsHome, ground_of, with_halt}
use Rattle.xc_core.specs.Restarts.{IsHalted}
use Rattle.xc_core.proofs.Halting.{halted_home}
use Rattle.xc_core.proofs.Pasts.{past_marked}
use Rattle.xc_core.specs.Begins.{IsOverLimit}
use Rattle.xc_core.specs.States.{DoubtsUnsettled, Opening, IsHomeAfter, IsPaid, IsUncertain, LimitBehind, MayBeOutFor, SpendsOf, rules_of, HomeIs, StandsFor, cost, fault_in, faults_in, may_be_stopped, most_room, outset_of, room_in, with_home}
use Rattle.xc_core.specs.Seeing.{IsOut, Rests, entry}
use Rattle.xc_core.proofs.Entries.{astray_more, changes_same, denied_settles_not, doubts_more, failed_settles_not, held_still, limit_no_fault, limit_not_astray, over_limit, paid_counted, paid_same, reading_makes, reading_meets, reading_not_astray, reading_not_cut, reading_not_restarted, reading_not_settling, room_more, same_faults, spends_at, spends_one, spends_within, waits_reading}
use Rattle.xc_core.proofs.Granting.{granted_once}
use Rattle.xc_core.proofs.Reckoning.{reckoned_table}

module _ {D : Type 0} (told : Type 0) (state : D → DiskState) where
  -- a Provisioner at home, halted or not
  pub record IsIn (o : Opening) (b : Past) (h : List Entry) (p : Provisioner D) : Type 0 where
    pub ground : ground_of p ≡ o.site
    pub nobody : holder None h ≡ None
    pub doubt : DoubtsUnsettled h p
    pub faults : min (o.faults + faults_in h) last ≤ (state p.journal.0).faults
    pub spends : SpendsOf o (room_in h) (state p.journal.0)
    pub read : told → HasRead (outset_of o) (changes_of h) b (state p.journal.0)
    pub synced : told → (IsUncertain h → ⊥) → IsSynced (state p.journal.0)

  -- ready for a change
  pub record IsReadyAfter (o : Opening) (b : Past) (h : List Entry) (p : Provisioner D) : Type 0 where
    pub is_in : IsIn o b h p
    pub home : IsHome told state b p
    pub unstopped : IsStopped h → ⊥

  -- ready and marked, it is halted
  pub marked_home : (b : Past) (p : Provisioner D) → IsHome told state b p → IsHalted told state b (with_halt true p)
  marked_home b p h = halted_home told state b (with_halt true p) refl (record { ready = refl; past = past_marked b p h.past false; registers = h.registers; switches = h.switches; journal = h.journal })

  -- the limits of a change that the table grants
  pub limit_met : (o : Opening) (h : List Entry) (b : Past) → ReckonsTo o.first (changes_of h) b → (op : Op) (c : Change) (met : Option Cause) (out : Outcome) → Grants (table_after o.first.fold.table h) op c → Meets b c met → KeepsLimit met out
      → (d : Change) → Grants (table_after o.first.fold.table h) op d → (m : Option Cause) × LimitBehind o.first (changes_of h) d m × KeepsLimit m out
  limit_met o h b reckoned op c met out g meets keeps d k =
      let is = granted_once (table_after o.first.fold.table h) op c d g k in
      (met, (b, reckoned, subst (λ (x : Change). Meets b x met) (sym is) meets), keeps)

  module _ (o : Opening) (s : State D) (h : List Entry) (st : StandsFor told state o s h) where
    -- the table of the changes is that of the entries
    now_is : st.now.fold.table ≡ table_after o.first.fold.table h
    now_is = reckoned_table o.first st.now h st.reckoned

    pub table_is : s.table ≡ table_after o.first.fold.table h
    table_is = st.table ∙ now_is

    pub there : (P : Board → Type 0) → P st.now.fold.table → P (table_after o.first.fold.table h)
    there P x = subst P now_is x

    -- a Provisioner at home
    pub found_in : (d : Boxed D) → s.home ≡ In d → IsIn o st.now h d.value.p
    found_in d is =
        let at : HomeIs told state o st.now h (In d) = subst (HomeIs told state o st.now h) is st.home in
        record { ground = at.1.ground; nobody = at.0; doubt = at.1.doubt; faults = at.1.faults; spends = at.1.spends; read = at.1.read; synced = at.1.synced }

    -- which isn't halted, is ready
    pub ready_home : (d : Boxed D) → s.home ≡ In d → d.value.p.halted ≡ false → IsReadyAfter o st.now h d.value.p
    ready_home d is ready =
        let at : HomeIs told state o st.now h (In d) = subst (HomeIs told state o st.now h) is st.home in
        elim at.1.stage [
          | inl a ↦ record { is_in = found_in d is; home = a.0; unstopped = a.1 }
          | inr b ↦ absurd (let e : true ≡ false = sym b.0.halted ∙ ready in cc)
        ]

    -- the state is the same but for its Provisioner, and no change was made
    pub stands_on : (t : State D) (e : Entry) → t.table ≡ s.table → t.reports ≡ s.reports → made e.outcome ≡ None → Fits (rules_of o) h e → WaitsFor (holder None h) e → IsPaid o (h ++ e ∷ []) → (told → e.outcome ≢ Failed JournalAstray) → HomeIs told state o st.now (h ++ e ∷ []) t.home → StandsFor told state o t (h ++ e ∷ [])
    stands_on t e table reports none fits waits paid not_astray home =
        let same = changes_same h e none in
        record {
          now = st.now;
          reckoned = subst (λ (cs : List Change). ReckonsTo o.first cs st.now) (sym same) st.reckoned;
          table = table ∙ st.table;
          reports = reports ∙ st.reports ∙ ap recent_of (sym same);
          legal = legal_more (rules_of o) h e st.legal fits;
          turns = turns_more None h e st.turns waits;
          paid = paid;
          astray = astray_more told h e st.astray not_astray;
          home = home;
        }

    -- no change was made, and the journal wasn't called
    pub read_same : (e : Entry) → made e.outcome ≡ None → (p : Provisioner D) → HasRead (outset_of o) (changes_of h) st.now (state p.journal.0) → HasRead (outset_of o) (changes_of (h ++ e ∷ [])) st.now (state p.journal.0)
    read_same e none p read = subst (λ (cs : List Change). HasRead (outset_of o) cs st.now (state p.journal.0)) (sym (changes_same h e none)) read

    home_read : (e : Entry) (x : Home D) → made e.outcome ≡ None → fault_in e.outcome ≡ 0 → (IsCut e → ⊥) → (IsRestarted e → ⊥) → (IsSettling e → ⊥) → holder_after (holder None h) e ≡ holder None h → HomeIs told state o st.now h x → HomeIs told state o st.now (h ++ e ∷ []) x
    home_read e (In d) unmade none not_cut not_restarted not_settled held at = (
      holder_more None h e ∙ held ∙ at.0,
      record {
        ground = at.1.ground;
        stage = elim at.1.stage [
          | inl a ↦ inl (a.0, λ stopped. a.1 (lasts_before IsCut IsRestarted h e stopped not_cut))
          | inr b ↦ inr (b.0, lasts_more (λ x. IsCut x ⊎ IsFailedRestart x) IsRestarted h e b.1 not_restarted)
        ];
        doubt = doubts_more h e d.value.p not_settled at.1.doubt;
        faults = same_faults o.faults (state d.value.p.journal.0).faults (state d.value.p.journal.0).faults h e none at.1.faults (omega arith);
        spends = spends_within o (room_in h) (room_in (h ++ e ∷ [])) (state d.value.p.journal.0) (let room = room_more h e in omega (arith, room)) at.1.spends;
        read = λ t. read_same e unmade d.value.p (at.1.read t);
        synced = λ t clear. at.1.synced t (λ lasts. clear (lasts_more IsDoubtful IsSettling h e lasts not_settled));
      },
    )
    home_read e (Out why) unmade none not_cut not_restarted not_settled held at = ((at.0.0, holder_more None h e ∙ held ∙ at.0.1), λ change stopped. at.1 change (lasts_before IsCut IsRestarted h e stopped not_cut))

    -- what only reads, wherever the Provisioner is
    stands_reading : (own : ℕ) (op : Op) (out : Outcome) → OnlyReads out → Fits (rules_of o) h (entry own op out) → Rests own h → StandsFor told state o s (h ++ entry own op out ∷ [])
    stands_reading own op out reads fits rests =
        let e = entry own op out in
        let none = reading_meets out reads in
        stands_on s e refl refl (reading_makes out reads) fits (waits_reading own op out (holder None h) reads rests) (paid_same o h e none st.paid) (λ t. reading_not_astray e reads)
        (home_read e s.home (reading_makes out reads) none (reading_not_cut e reads) (reading_not_restarted e reads) (reading_not_settling e reads) (held_still own op out (holder None h) reads rests) st.home)

    -- a retrieval
    pub stands_read : (own : ℕ) (op : Op) → IsRetrieval op → Rests own h → StandsFor told state o s (h ++ entry own op Answered ∷ [])
    stands_read own op reads rests = stands_reading own op Answered (inl refl) (reading_fits (rules_of o) h own op reads) rests

    -- what the table denies
    refused_fits : (own : ℕ) (op : Op) (c : Cause) → Refuses st.now.fold.table op c → Fits (rules_of o) h (entry own op (Denied c))
    refused_fits own op c refuses =
        let refused = there (λ t. Refuses t op c) refuses in
        fits_by (rules_of o) h (entry own op (Denied c)) (table_after o.first.fold.table h, (refused, refl)) (λ d g. absurd (let x : Some (Err c) ≡ Some (Ok d) = sym refused.says ∙ g.says in cc)) tt

    pub stands_refused : (own : ℕ) (op : Op) (c : Cause) → Refuses st.now.fold.table op c → Rests own h → StandsFor told state o s (h ++ entry own op (Denied c) ∷ [])
    stands_refused own op c refuses rests = stands_reading own op (Denied c) (inr (c, refl)) (refused_fits own op c refuses) rests

    -- no stop stands last, where none may
    unstopped_by : (x : Home D) → HomeIs told state o st.now h x → may_be_stopped x ≡ false → IsStopped h → ⊥
    unstopped_by (In d) at ready stopped = elim at.1.stage [ inl a ↦ a.1 stopped | inr b ↦ (let e : true ≡ false = sym b.0.halted ∙ ready in cc) ]
    unstopped_by (Out errand.Change) at ready stopped = at.1 refl stopped
    unstopped_by (Out errand.Restart) at ready stopped = absurd cc

    pub unstopped : may_be_stopped s.home ≡ false → IsStopped h → ⊥
    unstopped ready = unstopped_by s.home st.home ready

    -- p is what calls left of the Provisioner q, which was home, and an entry brings it home again
    module _ (q p : Provisioner D) (was : IsIn o st.now h q) (ground : ground_of p ≡ ground_of q) (later : (state q.journal.0).faults ≤ (state p.journal.0).faults) (spent : Spends most_room (state q.journal.0) (state p.journal.0)) where
      pub no_fault : (e : Entry) → fault_in e.outcome ≡ 0 → min (o.faults + faults_in (h ++ e ∷ [])) last ≤ (state p.journal.0).faults
      no_fault e none = same_faults o.faults (state q.journal.0).faults (state p.journal.0).faults h e none was.faults later

      pub home_by : CountsOn (state p.journal.0) → (e : Entry) → made e.outcome ≡ None → taker e.outcome e ≡ None → cost e.outcome ≡ most_room → Fits (rules_of o) h e → (told → e.outcome ≢ Failed JournalAstray) → min (o.faults + faults_in (h ++ e ∷ [])) last ≤ (state p.journal.0).faults
          → (told → HasRead (outset_of o) (changes_of h) st.now (state p.journal.0)) → (told → (IsUncertain (h ++ e ∷ []) → ⊥) → IsSynced (state p.journal.0))
          → (IsHome told state st.now p × (IsStopped (h ++ e ∷ []) → ⊥)) ⊎ (IsHalted told state st.now p × IsRestartDue (h ++ e ∷ [])) → DoubtsUnsettled (h ++ e ∷ []) p
          → (d : Boxed D) → d.value.p ≡ p → StandsFor told state o (with_home (In d) s) (h ++ e ∷ [])
      home_by counts e none free costs fits not_astray faults read synced stage doubt d is =
          let room = room_more h e in
          let spends = spends_at o (room_in h + most_room) (room_in (h ++ e ∷ [])) (state p.journal.0) (omega (arith, room, costs)) (spends_one o (room_in h) most_room (state q.journal.0) (state p.journal.0) was.spends spent) in
          stands_on (with_home (In d) s) e refl refl none fits (subst (λ (x : Option Entry). WaitsFor x e) (sym was.nobody) tt) (paid_counted o (h ++ e ∷ []) (state p.journal.0) counts faults spends) not_astray
          (holder_more None h e ∙ ap (λ (x : Option Entry). holder_after x e) was.nobody ∙ free, subst (λ (x : Provisioner D). IsHomeAfter told state o st.now (h ++ e ∷ []) x) (sym is) (record { ground = ground ∙ was.ground; stage = stage; doubt = doubt; faults = faults; spends = spends; read = λ t. read_same e none p (read t); synced = synced }))

      -- or the turn ends with the Provisioner out
      abbrev pub out_of : (op : Op) (own : ℕ) → (told → HasRead (outset_of o) (changes_of h) st.now (state p.journal.0)) → IsOut told state o own op (h ++ entry own op Taken ∷ []) p
      out_of op own read =
          let e = entry own op Taken in
          let same = changes_same h e refl in
          let room = room_more h e in
          record {
            now = st.now;
            reckoned = subst (λ (cs : List Change). ReckonsTo o.first cs st.now) (sym same) st.reckoned;
            held = holder_more None h e ∙ ap (λ (x : Option Entry). holder_after x e) was.nobody;
            ground = ground ∙ was.ground;
            faults = no_fault e refl;
            spends = spends_at o (room_in h + most_room) (room_in (h ++ e ∷ []) + most_room) (state p.journal.0) (omega (arith, room)) (spends_one o (room_in h) most_room (state q.journal.0) (state p.journal.0) was.spends spent);
            read = λ t. read_same e refl p (read t);
          }

      pub stands_out : (op : Op) (own : ℕ) (why : Errand) → MayBeOutFor why h → Fits (rules_of o) h (entry own op Taken) → StandsFor told state o (with_home (Out why) s) (h ++ entry own op Taken ∷ [])
      stands_out op own why may fits =
          let e = entry own op Taken in
          stands_on (with_home (Out why) s) e refl refl refl fits (subst (λ (x : Option Entry). WaitsFor x e) (sym was.nobody) tt) (paid_same o h e refl st.paid) (λ t x. let y : Taken ≡ Failed JournalAstray = x in cc)
          ((e, holder_more None h e ∙ ap (λ (x : Option Entry). holder_after x e) was.nobody), λ change stopped. may change (lasts_before IsCut IsRestarted h e stopped (λ x. let y : Taken ≡ Cut = x in cc)))

    -- p is what a call left of the Provisioner q, which was home and ready
    module _ (own : ℕ) (op : Op) (q p : Provisioner D) (ready : IsReadyAfter o st.now h q) (ground : ground_of p ≡ ground_of q)
        (later : (state q.journal.0).faults ≤ (state p.journal.0).faults) (spent : Spends most_room (state q.journal.0) (state p.journal.0)) where
      module _ (counts : CountsOn (state p.journal.0)) where
        home_same : (e : Entry) → made e.outcome ≡ None → taker e.outcome e ≡ None → cost e.outcome ≡ most_room → Fits (rules_of o) h e → e.outcome ≢ Failed JournalAstray → fault_in e.outcome ≡ 0 → (IsCut e → ⊥) → (IsSettling e → ⊥) → p ≡ q → (d : Boxed D) → d.value.p ≡ p → StandsFor told state o (with_home (In d) s) (h ++ e ∷ [])
        home_same e none free costs fits not_astray clean not_cut not_settled is = home_by q p ready.is_in ground later spent counts e none free costs fits (λ t. not_astray) (no_fault q p ready.is_in ground later spent e clean)
            (λ t. subst (λ (x : Provisioner D). HasRead (outset_of o) (changes_of h) st.now (state x.journal.0)) (sym is) (ready.is_in.read t))
            (λ t clear. subst (λ (x : Provisioner D). IsSynced (state x.journal.0)) (sym is) (ready.is_in.synced t (λ lasts. clear (lasts_more IsDoubtful IsSettling h e lasts not_settled))))
            (inl (subst (λ (x : Provisioner D). IsHome told state st.now x) (sym is) ready.home, λ stopped. ready.unstopped (lasts_before IsCut IsRestarted h e stopped not_cut)))
            (subst (λ (x : Provisioner D). DoubtsUnsettled (h ++ e ∷ []) x) (sym is) (doubts_more h e q not_settled ready.is_in.doubt))

        -- the table denies it
        pub stands_denied : (c : Cause) → Refuses st.now.fold.table op c → p ≡ q → (d : Boxed D) → d.value.p ≡ p → StandsFor told state o (with_home (In d) s) (h ++ entry own op (Denied c) ∷ [])
        stands_denied c refuses is =
            home_same (entry own op (Denied c)) refl refl refl (refused_fits own op c refuses)
            (λ x. let y : Denied c ≡ Failed JournalAstray = x in cc) refl (λ x. let y : Denied c ≡ Cut = x in cc) (denied_settles_not own op c) is

        -- a limit stands against it
        pub stands_failed : (c : Cause) → IsOverLimit st.now op c → p ≡ q → (d : Boxed D) → d.value.p ≡ p → StandsFor told state o (with_home (In d) s) (h ++ entry own op (Failed c) ∷ [])
        stands_failed c over is =
            let e = entry own op (Failed c) in
            let granted = there (λ t. Grants t op over.0) over.1 in
            home_same e refl refl refl
            (fits_by (rules_of o) h e (table_after o.first.fold.table h, (inl (over_limit st.now op c over, (over.0, granted)), refl)) (limit_met o h st.now st.reckoned op over.0 (Some c) (Failed c) granted over.2 (inr refl)) tt)
            (limit_not_astray c (over_limit st.now op c over)) (limit_no_fault c (over_limit st.now op c over)) (λ x. let y : Failed c ≡ Cut = x in cc) (failed_settles_not own op c) is
