-- What a turn does with the state.
use Rattle.std.proofs.Common.{◌≡◌, ◌≤◌, ◌⊎◌, ℕ, true, false, List, [], ◌∷◌, ◌++◌, refl, sym, ◌∙◌, ap, subst, inl, inr}
use Rattle.dxc_disk.specs.Disks.{CountsOn, DiskState, Spends}
use Rattle.dxc_model.specs.declared.cause.Cause.{Cause}
use Rattle.dxc_model.specs.declared.cause.Cause.TheVariants.{DiskFault, NoMiddle, SwitchLimit, JournalAstray}
use Rattle.dxc_model.specs.declared.op.Op.{Op}
use Rattle.dxc_model.specs.declared.entry.Outcome.{Outcome}
use Rattle.dxc_model.specs.declared.entry.Outcome.TheVariants as outcome
use Rattle.dxc_model.specs.declared.entry.Entry.{Entry}
use Rattle.dxc_model.specs.Denials.{Holds}
use Rattle.dxc_model.specs.Tables.{Board}
use Rattle.dxc_model.specs.Verdicts.{Refuses}
use Rattle.dxc_model.specs.Steps.{IsFault, IsLimit}
use Rattle.dxc_model.proofs.FirstCauses.{refusals_are_first}
use Rattle.roll_engine.specs.Rollings.{RollingAt}
use Rattle.roll_engine.specs.UnderWay.{unmade}
use Rattle.journal_core.specs.declared.book.Book.{Book}
use Rattle.std.specs.Box.{with_value}
use Rattle.xc_core.specs.declared.provisioner.Driver.{Driver}
use Rattle.xc_core.specs.declared.provisioner.Provisioner.{Provisioner}
use Rattle.xc_core.specs.declared.state.Errand.{Errand}
use Rattle.xc_core.specs.declared.state.Home.{Home}
use Rattle.xc_core.specs.declared.state.Home.TheVariants.{In, Out}
use Rattle.xc_core.specs.declared.state.State.{State}
use Rattle.xc_core.specs.declared.turns.Took.TheVariants as took
use Rattle.xc_core.specs.Reckonings.{Past}
use Rattle.xc_core.specs.Provisioners.{Boxed, IsHome, ground_of}
use Rattle.xc_core.specs.Begins.{IsCopied, IsOverLimit, IsPlanned, MayNote, plan_of}
use Rattle.xc_core.specs.States.{HomeIs, IsLent, Opening, StandsFor, may_be_stopped, most_room, with_home}
use Rattle.xc_core.specs.Seeing.{Rests, entry, refused}
use Rattle.xc_core.specs.Turns.{TakenIs}
use Rattle.xc_core.proofs.Entries.{over_limit}
use Rattle.xc_core.proofs.Restarting.{found_stage}
use Rattle.xc_core.proofs.Standing.{IsReadyAfter, ready_home, stands_denied, stands_failed, stands_refused, unstopped}

-- what the table says is entered as denied
denied_by : (t : Board) (op : Op) (q : Cause) → Holds t op q → refused q ≡ outcome.Denied q
denied_by t op NoMiddle h = absurd h
denied_by t op SwitchLimit h = absurd h
denied_by t op DiskFault h = absurd h
denied_by t op JournalAstray h = absurd h
denied_by t op _ h = refl

refused_denied : (t : Board) (op : Op) (q : Cause) → Refuses t op q → refused q ≡ outcome.Denied q
refused_denied t op q r = denied_by t op q ((refusals_are_first t op q r.apt).0 r).holds

-- and no fault
fault_holds_not : (t : Board) (op : Op) (q : Cause) → IsFault q → Holds t op q → ⊥
fault_holds_not t op q fault h = elim fault [ inl is ↦ subst (λ (x : Cause). Holds t op x) is h | inr is ↦ subst (λ (x : Cause). Holds t op x) is h ]

refused_no_fault : (t : Board) (op : Op) (q : Cause) → Refuses t op q → IsFault q → ⊥
refused_no_fault t op q r = λ fault. fault_holds_not t op q fault ((refusals_are_first t op q r.apt).0 r).holds

limit_not_fault : (q : Cause) → IsLimit q → IsFault q → ⊥
limit_not_fault q l = λ fault. elim l [
  | inl out ↦ elim fault [ inl is ↦ (let e : NoMiddle ≡ DiskFault = sym out ∙ is in cc) | inr is ↦ (let e : NoMiddle ≡ JournalAstray = sym out ∙ is in cc) ]
  | inr many ↦ elim fault [ inl is ↦ (let e : SwitchLimit ≡ DiskFault = sym many ∙ is in cc) | inr is ↦ (let e : SwitchLimit ≡ JournalAstray = sym many ∙ is in cc) ]
]

-- and a limit as failed
refused_limit : (q : Cause) → IsLimit q → refused q ≡ outcome.Failed q
refused_limit q l = elim l [ inl is ↦ ap refused is ∙ sym (ap outcome.Failed is) | inr is ↦ ap refused is ∙ sym (ap outcome.Failed is) ]

module _ {D : Type 0} (told : Type 0) (state : D → DiskState) (counts : (d : D) → CountsOn (state d)) (o : Opening) (s : State D) (h : List Entry) (st : StandsFor told state o s h) where
  -- nothing was done
  pub stands_back : (x : Home D) → s.home ≡ x → StandsFor told state o (with_home x s) h
  stands_back x is = record {
    now = st.now;
    reckoned = st.reckoned;
    table = st.table;
    reports = st.reports;
    legal = st.legal;
    turns = st.turns;
    paid = st.paid;
    astray = st.astray;
    home = subst (λ (y : Home D). HomeIs told state o st.now h y) is st.home;
  }

  -- nor may it be, where a place has the Provisioner
  pub lent : (e : Errand) × (s.home ≡ Out e) → StandsFor told state o s h × IsLent h
  lent is = let at : HomeIs told state o st.now h (Out is.0) = subst (HomeIs told state o st.now h) is.1 st.home in (st, at.0)

  -- the table denies it, wherever the Provisioner is
  pub was_refused : (own : ℕ) (op : Op) (cause : Cause) → may_be_stopped s.home ≡ false → Refuses s.table op cause → Rests own h → TakenIs told state o own h op s (took.Denied cause)
  was_refused own op cause ready refuses rests =
      let here : Refuses st.now.fold.table op cause = subst (λ (t : Board). Refuses t op cause) st.table refuses in (
        subst (λ (z : Outcome). StandsFor told state o s (h ++ entry own op z ∷ [])) (sym (refused_denied st.now.fold.table op cause here)) (stands_refused told state o s h st own op cause here rests),
        unstopped told state o s h st ready,
        refused_no_fault st.now.fold.table op cause here,
      )

  -- the box that was borrowed is the one that was home
  pub held_home : (d : Boxed D) (v : Driver D) → v ≡ d.value → s.home ≡ In d → s.home ≡ In (with_value d v)
  held_home d v same is = is ∙ ap (λ (x : Driver D). In (with_value d x)) (sym same)

  -- it waits for a restart
  pub was_halted : (own : ℕ) (op : Op) (d : Boxed D) → s.home ≡ In d → d.value.p.halted ≡ true → TakenIs told state o own h op (with_home (In d) s) took.Halted
  was_halted own op d is halted = elim (found_stage told state o s h st d is) [
    | inl a ↦ absurd (let e : false ≡ true = sym a.0.ready ∙ halted in cc)
    | inr b ↦ (stands_back (In d) is, b.1)
  ]

  module _ (d : Boxed D) (is : s.home ≡ In d) (ready : d.value.p.halted ≡ false) where
    abbrev p : Provisioner D
    p = d.value.p

    -- what planning and journalling left of it
    module _ (own : ℕ) (op : Op) (e : Boxed D) (ground : ground_of e.value.p ≡ ground_of p) (later : (state p.journal.0).faults ≤ (state e.value.p.journal.0).faults) (spent : Spends most_room (state p.journal.0) (state e.value.p.journal.0)) where
      abbrev q : Provisioner D
      q = e.value.p

      abbrev r : RollingAt
      r = e.value.rolling

      abbrev was : IsReadyAfter told state o st.now h p
      was = ready_home told state o s h st d is ready

      entered : (x y : Outcome) → x ≡ y → StandsFor told state o (with_home (In e) s) (h ++ entry own op y ∷ []) → StandsFor told state o (with_home (In e) s) (h ++ entry own op x ∷ [])
      entered x y same at = subst (λ (z : Outcome). StandsFor told state o (with_home (In e) s) (h ++ entry own op z ∷ [])) (sym same) at

      -- the table or a limit denied it
      pub was_denied : (cause : Cause) → q ≡ p → ((b : Past) → IsHome told state b p → b.fold.table ≡ s.table → Refuses b.fold.table op cause ⊎ IsOverLimit b op cause) → TakenIs told state o own h op (with_home (In e) s) (took.Denied cause)
      was_denied cause same says =
          let x = says st.now was.home (sym st.table) in
          let on = counts q.journal.0 in (
            elim x [
              | inl refuses ↦ entered (refused cause) (outcome.Denied cause) (refused_denied st.now.fold.table op cause refuses) (stands_denied told state o s h st own op p q was ground later spent on cause refuses same e refl)
              | inr l ↦ entered (refused cause) (outcome.Failed cause) (refused_limit cause (over_limit st.now op cause l)) (stands_failed told state o s h st own op p q was ground later spent on cause l same e refl)
            ],
            was.unstopped,
            elim x [ inl refuses ↦ refused_no_fault st.now.fold.table op cause refuses | inr l ↦ limit_not_fault cause (over_limit st.now op cause l) ],
          )

-- what was journalled after a plan that left the journal as it was
module _ {D : Type 0} (state : D → DiskState) (p m q : Provisioner D) (journal : m.journal ≡ p.journal) where
  pub later_from : (state m.journal.0).faults ≤ (state q.journal.0).faults → (state p.journal.0).faults ≤ (state q.journal.0).faults
  later_from later = subst (λ (j : D × Book). (state j.0).faults ≤ (state q.journal.0).faults) journal later

  pub spent_from : Spends 4_600_114 (state m.journal.0) (state q.journal.0) → Spends most_room (state p.journal.0) (state q.journal.0)
  spent_from spent = subst (λ (j : D × Book). Spends most_room (state j.0) (state q.journal.0)) journal spent

-- what a plan left may be journalled
pub may_note : {D : Type 0} (told : Type 0) (state : D → DiskState) (b : Past) (m : Provisioner D) (op : Op) (r : RollingAt) (bytes : List ℕ) → IsHome told state b m → IsCopied b m → (r ≡ unmade r.work) × IsPlanned b op r.work bytes → MayNote told state b m (plan_of op r bytes)
may_note told state b m op r bytes home copied planned = record { home = home; copied = copied; unmade_is = planned.0; is = planned.1 }
