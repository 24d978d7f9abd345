-- A state whose Provisioner waited for a restart, or was asked for one, an entry later: a lemma for each outcome of a restart.
use Rattle.std.proofs.Common.{◌≡◌, ◌≢◌, ℕ, ◌⊎◌, true, List, [], ◌∷◌, ◌++◌, Option, Some, None, refl, sym, ◌∙◌, ap, subst, inl, inr}
use Rattle.dxc_disk.specs.Disks.{CountsOn, DiskState}
use Rattle.dbchg_reports.specs.Recent.{recent_of, with_one}
use Rattle.dbchg_reports.proofs.Keeping.{recent_more}
use Rattle.dxc_model.specs.declared.op.Op.{Op}
use Rattle.dxc_model.specs.declared.op.Op.TheVariants.{Restart}
use Rattle.dxc_model.specs.declared.op.Change.{Change}
use Rattle.dxc_model.specs.declared.cause.Cause.{Cause}
use Rattle.dxc_model.specs.declared.cause.Cause.TheVariants.{JournalAstray}
use Rattle.dxc_model.specs.declared.entry.Outcome.TheVariants.{Failed, Restarted, Cut}
use Rattle.dxc_model.specs.declared.entry.Entry.{Entry}
use Rattle.dxc_model.specs.Tables.{Board}
use Rattle.dxc_model.specs.Verdicts.{Grants, effect}
use Rattle.dxc_model.specs.Histories.{Fits, IsCut, IsFailedRestart, IsInDoubt, IsRestartDue, IsRestarted, IsSettling, IsDoubtful, KeepsTurns, changes_of, table_after}
use Rattle.dxc_model.proofs.Growth.{fits_by, legal_more, turns_more}
use Rattle.dxc_model.proofs.Lasting.{lasts_more, lasts_no_more, lasts_now}
use Rattle.dxc_model.proofs.Verdicts.{own_verdict}
use Rattle.roll_engine.specs.Rollings.{RollingAt}
use Rattle.turnstile.specs.Turning.{Each}
use Rattle.xc_core.specs.declared.provisioner.Provisioner.{Provisioner}
use Rattle.xc_core.specs.declared.state.Home.TheVariants.{In}
use Rattle.xc_core.specs.declared.state.State.{State}
use Rattle.xc_core.specs.Reckonings.{Past, ReckonsTo}
use Rattle.xc_core.specs.Operations.{HasRead}
use Rattle.xc_core.specs.Provisioners.{Boxed, ground_of}
use Rattle.xc_core.specs.Restarts.{IsHalted, Resumes, TakesUp}
use Rattle.xc_core.specs.Endings.{Ends, reports_with}
use Rattle.xc_core.specs.States.{DoubtsUnsettled, Opening, HomeIs, IsReadyOrHalted, IsUnsettled, StandsFor, outset_of, rules_of, with_home}
use Rattle.xc_core.specs.Seeing.{HasRestart, IsDueFor, IsOfStop, entry}
use Rattle.xc_core.proofs.Away.{comes_halted, home_now, in_now, out_moved, out_since, out_table, paid_now, read_since, waits_own}
use Rattle.xc_core.proofs.Entries.{AreReads, reading_not_restarted, reading_not_settling, astray_more, changes_one, changes_same, cut_settles_not, lasts_reading, unsettled_more}
use Rattle.xc_core.proofs.Halting.{resumes_halted}
use Rattle.xc_core.proofs.Operating.{read_made}
use Rattle.xc_core.proofs.Reckoning.{reckons_more}

-- a change that a restart takes up is in doubt
doubt_of : (t : Board) (h : List Entry) (op : Op) (c : Change) → Grants t op c → IsUnsettled h op → IsInDoubt t h c
doubt_of t h op c granted l = record { before = l.before; entry = l.entry; behind = l.behind; whole = l.whole; has = (l.has.0, subst (λ (x : Op). Grants t x c) (sym l.has.1) granted); lasting = l.lasting }

-- a change that a restart takes up is of an operation in doubt, which a stop came after
pub of_stop : {D : Type 0} (h : List Entry) (b : Past) (p : Provisioner D) (lacking : Option Change) (g : Past) → p.halted ≡ true → TakesUp b p.doubt lacking g → DoubtsUnsettled h p → IsOfStop lacking h
of_stop h b p None g halted taken doubts = tt
of_stop h b p (Some c) g halted (op, here, granted, met, same) doubts = (doubts op here).1 halted

-- and is so where others have only read since
stopped_since : (lacking : Option Change) (h later : List Entry) → AreReads later → IsOfStop lacking h → IsOfStop lacking (h ++ later)
stopped_since None h later reads was = tt
stopped_since (Some c) h later reads was = lasts_reading IsCut IsRestarted reading_not_restarted h later reads was

-- a restart is due still after an entry that isn't one
pub due_more : (asked : Op) (h : List Entry) (e : Entry) → (IsRestarted e → ⊥) → IsDueFor asked h → IsDueFor asked (h ++ e ∷ [])
due_more asked h e not due = elim due [ inl is ↦ inl is | inr lasts ↦ inr (lasts_more (λ x. IsCut x ⊎ IsFailedRestart x) IsRestarted h e lasts not) ]

-- and after one that is a restart that failed
pub due_now : (own : ℕ) (asked : Op) (q : Cause) (h : List Entry) → IsDueFor asked h → IsRestartDue (h ++ entry own asked (Failed q) ∷ [])
due_now own asked q h due = elim due [
  | inl is ↦ lasts_now (λ x. IsCut x ⊎ IsFailedRestart x) IsRestarted h (entry own asked (Failed q)) (inr (is, (q, refl)))
  | inr lasts ↦ lasts_more (λ x. IsCut x ⊎ IsFailedRestart x) IsRestarted h (entry own asked (Failed q)) lasts (λ x. let y : Failed q ≡ Restarted x.0 = x.1 in cc)
]

module _ {D : Type 0} (told : Type 0) (state : D → DiskState) where
  module _ (o : Opening) (s : State D) (h : List Entry) (st : StandsFor told state o s h) where
    -- what a turn finds that takes the Provisioner for a restart
    pub found_stage : (d : Boxed D) → s.home ≡ In d → IsReadyOrHalted told state st.now h d.value.p
    found_stage d is = let at : HomeIs told state o st.now h (In d) = subst (HomeIs told state o st.now h) is st.home in at.1.stage

  -- a place that took the Provisioner for a restart finds all else as it was
  pub restart_since : (o : Opening) (own : ℕ) (asked : Op) (h later : List Entry) (p : Provisioner D) → Each (λ e. e.place ≢ own) later → KeepsTurns None (h ++ later) → (r : RollingAt) → HasRestart told state o own asked h p r → HasRestart told state o own asked (h ++ later) p r
  restart_since o own asked h later p others turns r t =
      let reads = read_since told state o own Restart h later p others turns t.out in
      record {
        out = out_since told state o own Restart h later p others turns t.out;
        lacking = t.lacking;
        behind = t.behind;
        resumes = t.resumes;
        of_stop = stopped_since t.lacking h later reads t.of_stop;
        doubt = λ op here. let w = t.doubt op here in (
          lasts_reading (λ x. IsDoubtful x × (x.op ≡ op)) IsSettling reading_not_settling h later reads w.0,
          λ halted. lasts_reading IsCut IsRestarted reading_not_restarted h later reads (w.1 halted),
        );
        due = elim t.due [ inl is ↦ inl is | inr due ↦ inr (lasts_reading (λ x. IsCut x ⊎ IsFailedRestart x) IsRestarted reading_not_restarted h later reads due) ];
      }

  -- the engine took the rest of the work on
  pub restart_rolls : (o : Opening) (own : ℕ) (asked : Op) (h : List Entry) (p q : Provisioner D) (r s : RollingAt) → HasRestart told state o own asked h p r → ground_of q ≡ ground_of p → q.journal ≡ p.journal → q.doubt ≡ p.doubt
      → ((b : Past) (l : Option Change) (g : Past) → Resumes told state b l g p r → Resumes told state b l g q s) → HasRestart told state o own asked h q s
  restart_rolls o own asked h p q r s t ground journal doubt rolls = record {
    out = out_moved told state o own Restart h p q t.out ground journal;
    lacking = t.lacking;
    behind = t.behind;
    resumes = rolls t.out.now t.lacking t.behind t.resumes;
    of_stop = t.of_stop;
    doubt = λ x here. let w = t.doubt x (sym doubt ∙ here) in (w.0, λ halted. w.1 t.resumes.halted);
    due = t.due;
  }

  -- it is brought home in a later turn
  module _ (o : Opening) (s : State D) (h : List Entry) (st : StandsFor told state o s h) (own : ℕ) (asked : Op) (p : Provisioner D) (r : RollingAt) (t : HasRestart told state o own asked h p r) where
    abbrev b : Past
    b = t.out.now

    halted_out : IsHalted told state b p
    halted_out = resumes_halted told state b t.lacking t.behind p r t.resumes

    -- the change that was lacking, if one was, is in table, matrix and registers
    pub stands_restarted : (d : Boxed D) (table : Board) (answer : Option Change) → Ends told state b t.lacking t.behind table d.value.p answer → ground_of d.value.p ≡ ground_of p → d.value.p.journal ≡ p.journal → CountsOn (state d.value.p.journal.0)
        → StandsFor told state o (record s { table = table; reports = reports_with answer s.reports; home = In d }) (h ++ entry own Restart (Restarted answer) ∷ [])
    stands_restarted d table answer end ground journal counts = subst (λ (x : Option Change). StandsFor told state o (record s { table = table; reports = reports_with x s.reports; home = In d }) (h ++ entry own Restart (Restarted x) ∷ [])) (sym end.change) (by t.lacking t.resumes.taken)
      where
        reckoned : (l : Option Change) → TakesUp b p.doubt l t.behind → ReckonsTo o.first (changes_of (h ++ entry own Restart (Restarted l) ∷ [])) t.behind
        reckoned None taken = subst (λ (w : List Change × Past). ReckonsTo o.first w.0 w.1) (λ i. (sym (changes_same h (entry own Restart (Restarted None)) refl) i, sym taken i)) t.out.reckoned
        reckoned (Some c) (op, here, granted, met, same) = subst (λ (w : List Change × Past). ReckonsTo o.first w.0 w.1) (λ i. (sym (changes_one h (entry own Restart (Restarted (Some c))) c refl) i, sym same i))
            (reckons_more o.first b (changes_of h) c met.ops t.out.reckoned met.planned)

        fits : (l : Option Change) → TakesUp b p.doubt l t.behind → Fits (rules_of o) h (entry own Restart (Restarted l))
        fits None taken = fits_by (rules_of o) h (entry own Restart (Restarted None)) (table_after o.first.fold.table h, (refl, refl)) (λ c granted. absurd granted.apt) tt
        fits (Some c) (op, here, granted, met, same) =
            let now : Grants (table_after o.first.fold.table h) op c = subst (λ (x : Board). Grants x op c) (out_table told state o s h st own Restart p t.out) granted in
            fits_by (rules_of o) h (entry own Restart (Restarted (Some c))) (effect (table_after o.first.fold.table h) c, (refl, own_verdict (table_after o.first.fold.table h) op c now, refl)) (λ d x. absurd x.apt)
            (doubt_of (table_after o.first.fold.table h) h op c now (t.doubt op here).0)

        read : (l : Option Change) → TakesUp b p.doubt l t.behind → HasRead (outset_of o) (changes_of h) b (state p.journal.0) → HasRead (outset_of o) (changes_of (h ++ entry own Restart (Restarted l) ∷ [])) t.behind (state p.journal.0)
        read None taken was = subst (λ (w : List Change × Past). HasRead (outset_of o) w.0 w.1 (state p.journal.0)) (λ i. (sym (changes_same h (entry own Restart (Restarted None)) refl) i, sym taken i)) was
        read (Some c) (op, here, granted, met, same) was = subst (λ (cs : List Change). HasRead (outset_of o) cs t.behind (state p.journal.0)) (sym (changes_one h (entry own Restart (Restarted (Some c))) c refl))
            (read_made (outset_of o) (changes_of h) (c ∷ []) b t.behind (state p.journal.0) (met.ops, met.planned, same) was)

        reports : (l : Option Change) → reports_with l s.reports ≡ recent_of (changes_of (h ++ entry own Restart (Restarted l) ∷ []))
        reports None = st.reports ∙ ap recent_of (sym (changes_same h (entry own Restart (Restarted None)) refl))
        reports (Some c) = ap (with_one c) st.reports ∙ recent_more (changes_of h) c ∙ ap recent_of (sym (changes_one h (entry own Restart (Restarted (Some c))) c refl))

        by : (l : Option Change) → TakesUp b p.doubt l t.behind → StandsFor told state o (record s { table = table; reports = reports_with l s.reports; home = In d }) (h ++ entry own Restart (Restarted l) ∷ [])
        by l taken =
            let e = entry own Restart (Restarted l) in
            record {
              now = t.behind;
              reckoned = reckoned l taken;
              table = end.table_is;
              reports = reports l;
              legal = legal_more (rules_of o) h e st.legal (fits l taken);
              turns = turns_more None h e st.turns (waits_own told state o s h st own Restart p t.out e refl refl);
              paid = paid_now told state o s h st own Restart p t.out e d.value.p journal refl refl counts;
              astray = astray_more told h e st.astray (λ k x. let y : Restarted l ≡ Failed JournalAstray = x in cc);
              home = (
                home_now told state o s h st own Restart p t.out e refl,
                in_now told state o s h st own Restart p t.out t.behind e d.value.p ground journal refl refl
                    (inl (end.home, lasts_no_more IsCut IsRestarted h e (λ x. let y : Restarted l ≡ Cut = x in cc) (l, refl)))
                    (λ x here. absurd (let k : None ≡ Some x = sym end.doubt ∙ here in cc))
                    (λ k. read l taken (t.out.read k)) (λ k clear. t.resumes.journalled.synced k),
              );
            }

    -- a stop came while the work was under way
    pub stands_restart_cut : CountsOn (state p.journal.0) → (d : Boxed D) → d.value.p ≡ p → StandsFor told state o (with_home (In d) s) (h ++ entry own Restart Cut ∷ [])
    stands_restart_cut counts d same =
        let e = entry own Restart Cut in
        comes_halted told state o s h st own Restart p t.out e p refl refl refl (fits_by (rules_of o) h e (table_after o.first.fold.table h, (inl refl, refl)) (λ c granted. absurd granted.apt) tt) refl refl counts halted_out
        (λ x here. unsettled_more h e x (cut_settles_not own Restart) (t.doubt x here).0)
        d same
