-- A changing command's entries, after those that no unit uses.
use Rattle.std.proofs.Common.{◌≡◌, ◌≢◌, ℕ, List, [], ◌∷◌, ◌++◌, append-nil, append_assoc, Option, Result, Ok, Err, refl, sym, ◌∙◌, ap, subst, inl, inr}
use base.Stored.{Gv}
use Rattle.turnstile.specs.Turning.{Each}
use Rattle.dxc_disk.specs.Disks.{DiskState}
use Rattle.dxc_num.specs.Dimensions.{Dimensions}
use Rattle.dxc_outside.specs.declared.stopped.Stopped.{Stopped}
use Rattle.dxc_outside.specs.Stops.{the_stop}
use Rattle.dxc_model.specs.declared.op.Op.{Op}
use Rattle.dxc_model.specs.declared.op.Op.TheVariants.{Restart}
use Rattle.dxc_model.specs.declared.op.Change.{Change}
use Rattle.dxc_model.specs.declared.cause.Cause.{Cause}
use Rattle.dxc_model.specs.declared.cause.Cause.TheVariants.{DiskFault, NoMiddle, SwitchLimit, JournalAstray}
use Rattle.dxc_model.specs.declared.entry.Outcome.{Outcome}
use Rattle.dxc_model.specs.declared.entry.Outcome.TheVariants.{Cut, Failed, Restarted, Taken}
use Rattle.dxc_model.specs.declared.entry.Outcome.TheVariants as outcome
use Rattle.dxc_model.specs.Operations.{IsApt}
use Rattle.dxc_model.specs.Steps.{IsFault}
use Rattle.dxc_model.specs.Histories.{IsRestartDue, IsStopped}
use Rattle.dxc_model.specs.declared.entry.Entry.{Entry}
use Rattle.xc_core.specs.Provisioners.{Boxed}
use Rattle.xc_core.specs.declared.turns.Took.{Took}
use Rattle.xc_core.specs.declared.turns.Took.TheVariants as took
use Rattle.xc_core.specs.States.{Opening}
use Rattle.xc_core.specs.declared.provisioner.Provisioner.{Provisioner}
use Rattle.xc_core.specs.declared.restarts.Held.{Held}
use Rattle.xc_core.specs.declared.restarts.Held.TheVariants as held
use Rattle.xc_core.specs.Begins.{plan_of}
use Rattle.xc_core.specs.Seeing.{HasFailed, HasHeld, HasPlan, IsDueFor, IsOfStop, Saw, Turned, TurnedBack, entry, refused}
use Rattle.xc_core.specs.Turns.{CutIs, DoneIs, FailedIs, HoldIs, RestartCutIs, RestartedIs, TookIs}
use Rattle.craft_session.specs.declared.change.Changed.{Changed}
use Rattle.craft_session.specs.declared.change.Changed.TheVariants.{Done, Denied}
use Rattle.craft_session.specs.declared.mend.Mended.{Mended}
use Rattle.craft_session.specs.declared.mend.Mended.TheVariants as mended
use Rattle.craft_session.specs.Changing.{ChangedIs, MendedBy, MendedIs, MendedTo, Passed, PassedBy, WarmRestartIs}
use Rattle.craft_session.specs.Walks.{IsChangeAt, IsMend, IsUnused, Mends}

pub each_append : {X : Type 0} (P : X → Type 0) (xs ys : List X) → Each P xs → Each P ys → Each P (xs ++ ys)
each_append P [] ys a b = b
each_append P (x ∷ xs) ys a b = (a.0, each_append P xs ys a.1 b)

-- others' entries are used by no unit
pub others_unused : (own : ℕ) (es : List Entry) → Each (λ e. e.place ≢ own) es → Each (IsUnused own) es
others_unused own [] a = tt
others_unused own (e ∷ es) a = (inl a.0, others_unused own es a.1)

-- and need no restart
pub unused_mends : (own : ℕ) (h es : List Entry) → Each (IsUnused own) es → Mends own h es
unused_mends own h [] a = tt
unused_mends own h (e ∷ es) a = (inl a.0, unused_mends own (h ++ e ∷ []) es a.1)

pub mends_join : (own : ℕ) (h f g : List Entry) → Mends own h f → Mends own (h ++ f) g → Mends own h (f ++ g)
mends_join own h [] g m n = subst (λ (l : List Entry). Mends own l g) (append-nil h) n
mends_join own h (e ∷ es) g m n = (m.0, mends_join own (h ++ e ∷ []) es g m.1 (subst (λ (l : List Entry). Mends own l g) (sym (append_assoc h (e ∷ []) es)) n))

-- an operation of the shape is no restart, so that one is due
pub due_now : (d : Dimensions) (op : Op) (h : List Entry) → IsApt d op → IsDueFor op h → IsRestartDue h
due_now d op h apt due = elim due [ inl restart ↦ absurd (subst (λ (x : Op). IsApt d x) restart apt) | inr x ↦ x ]

-- what comes of a change that no stop stood before
change_at : (h : List Entry) (out : Outcome) → (IsStopped h → ⊥) → (out ≡ Failed JournalAstray → ⊥) → IsChangeAt h out
change_at h out going never = record { stopped = λ x. absurd (going x); astray = λ is. absurd (never is) }

refused_astray : (q : Cause) → q ≢ JournalAstray → refused q ≡ Failed JournalAstray → ⊥
refused_astray NoMiddle not is = cc
refused_astray SwitchLimit not is = cc
refused_astray DiskFault not is = cc
refused_astray JournalAstray not is = not refl
refused_astray _ not is = cc

-- a fault of the journal, where a restart was due
fault_at : (h : List Entry) (q : Cause) → IsFault q → IsRestartDue h → IsChangeAt h (Failed q)
fault_at h q fault due = record { stopped = λ _. (q, fault, refl); astray = λ _. due }

fault_refused : (q : Cause) → IsFault q → refused q ≡ Failed q
fault_refused q f = elim f [ inl is ↦ ap refused is ∙ sym (ap Failed is) | inr is ↦ ap refused is ∙ sym (ap Failed is) ]

module _ (o : Opening) (own : ℕ) (h : List Entry) where
  pub passed_none : (seen : List Gv) → Saw o seen h → PassedBy o own h seen
  passed_none seen saw = record { passed = []; unused = tt; saw = subst (λ (l : List Entry). Saw o seen l) (sym (append-nil h)) saw }

  abbrev pub turned_passed : (e : Entry) (seen : List Gv) → Turned o own h e seen → Passed o own h e seen
  turned_passed e seen t = record { passed = t.later; unused = others_unused own t.later t.others; saw = t.saw }

  -- an entry after what was passed
  abbrev pub passed_on : (e : Entry) (seen then_seen : List Gv) (b : PassedBy o own h seen) → Passed o own (h ++ b.passed) e then_seen → Passed o own h e then_seen
  passed_on e seen then_seen b p = record {
    passed = b.passed ++ p.passed;
    unused = each_append (IsUnused own) b.passed p.passed b.unused p.unused;
    saw = subst (λ (l : List Entry). Saw o then_seen (l ++ e ∷ [])) (append_assoc h b.passed p.passed) p.saw;
  }

  -- the entry by which the place took the Provisioner is passed too
  abbrev pub taken_passed : (op : Op) (seen : List Gv) → Turned o own h (entry own op Taken) seen → PassedBy o own h seen
  taken_passed op seen t = record {
    passed = t.later ++ entry own op Taken ∷ [];
    unused = each_append (IsUnused own) t.later (entry own op Taken ∷ []) (others_unused own t.later t.others) (inr refl, tt);
    saw = subst (λ (l : List Entry). Saw o seen l) (append_assoc h t.later (entry own op Taken ∷ [])) t.saw;
  }

  pub mended_none : (seen : List Gv) → Saw o seen h → MendedBy o own h seen
  mended_none seen saw = record { front = []; mends = tt; saw = subst (λ (l : List Entry). Saw o seen l) (sym (append-nil h)) saw }

  -- turns that entered nothing
  abbrev pub mended_back : (seen then_seen : List Gv) (b : MendedBy o own h seen) → PassedBy o own (h ++ b.front) then_seen → MendedBy o own h then_seen
  mended_back seen then_seen b p = record {
    front = b.front ++ p.passed;
    mends = mends_join own h b.front p.passed b.mends (unused_mends own (h ++ b.front) p.passed p.unused);
    saw = subst (λ (l : List Entry). Saw o then_seen l) (append_assoc h b.front p.passed) p.saw;
  }

  -- a restart more
  pub mended_more : (seen then_seen : List Gv) (b : MendedBy o own h seen) (c : Option Change) (p : Passed o own (h ++ b.front) (entry own Restart (Restarted c)) then_seen) → IsRestartDue ((h ++ b.front) ++ p.passed) → MendedBy o own h then_seen
  mended_more seen then_seen b c p due =
      let e = entry own Restart (Restarted c) in
      let unused = unused_mends own (h ++ b.front) p.passed p.unused in
      let mend : IsMend own ((h ++ b.front) ++ p.passed) e = record { mine = refl; restarts = refl; made = (c, refl); due = due } in
      record {
        front = b.front ++ (p.passed ++ e ∷ []);
        mends = mends_join own h b.front (p.passed ++ e ∷ []) b.mends (mends_join own (h ++ b.front) p.passed (e ∷ []) unused (inr mend, tt));
        saw = subst (λ (l : List Entry). Saw o then_seen l) (append_assoc (h ++ b.front) p.passed (e ∷ []) ∙ append_assoc h b.front (p.passed ++ e ∷ [])) p.saw;
      }

  -- an entry after them
  abbrev mended_on : (e : Entry) (seen then_seen : List Gv) (b : MendedBy o own h seen) → MendedTo o own (h ++ b.front) e then_seen → MendedTo o own h e then_seen
  mended_on e seen then_seen b m = record {
    front = b.front ++ m.front;
    mends = mends_join own h b.front m.front b.mends m.mends;
    saw = subst (λ (l : List Entry). Saw o then_seen (l ++ e ∷ [])) (append_assoc h b.front m.front) m.saw;
  }

  pub changed_on : (op : Op) (seen then_seen : List Gv) (b : MendedBy o own h seen) (how : Result Changed Stopped) → ChangedIs o own (h ++ b.front) op then_seen how → ChangedIs o own h op then_seen how
  changed_on op seen then_seen b (Ok Done) x = (x.0, mended_on _ seen then_seen b x.1, subst (λ (l : List Entry). IsChangeAt l (outcome.Done x.0)) (append_assoc h b.front x.1.front) x.2)
  changed_on op seen then_seen b (Ok (Denied q)) x = (mended_on _ seen then_seen b x.0, subst (λ (l : List Entry). IsChangeAt l (refused q)) (append_assoc h b.front x.0.front) x.1)
  changed_on op seen then_seen b (Err e) x = elim x [
    | inl cut ↦ inl (mended_on _ seen then_seen b cut.0, subst (λ (l : List Entry). IsStopped l → ⊥) (append_assoc h b.front cut.0.front) cut.1)
    | inr restart ↦ inr (mended_on _ seen then_seen b restart.0, subst IsRestartDue (append_assoc h b.front restart.0.front) restart.1)
  ]

  abbrev passed_mended : (e : Entry) (seen : List Gv) → Passed o own h e seen → MendedTo o own h e seen
  passed_mended e seen p = record { front = p.passed; mends = unused_mends own h p.passed p.unused; saw = p.saw }

  abbrev turned_mended : (e : Entry) (seen : List Gv) → Turned o own h e seen → MendedTo o own h e seen
  turned_mended e seen t = passed_mended e seen (turned_passed e seen t)

  -- the work was carried out
  pub changed_done : (op : Op) (seen : List Gv) → DoneIs o own h op seen → ChangedIs o own h op seen (Ok Done)
  changed_done op seen x = (x.0, turned_mended (entry own op (outcome.Done x.0)) seen x.1, change_at (h ++ x.1.later) (outcome.Done x.0) x.2 (λ is. cc))

  pub changed_cut : (op : Op) (seen : List Gv) → CutIs o own h op seen → ChangedIs o own h op seen (Err the_stop)
  changed_cut op seen x = inl (turned_mended (entry own op Cut) seen x.0, x.1)

  -- a restart ended, failed or was cut
  module _ (d : Dimensions) (op : Op) (apt : IsApt d op) (seen : List Gv) where
    pub mend_denied : (q : Cause) → MendedIs o own h op seen (Ok (mended.Denied q)) → ChangedIs o own h op seen (Ok (Denied q))
    mend_denied q x =
        let due = due_now d op (h ++ x.0.passed) apt x.2 in
        let m = passed_mended (entry own op (Failed q)) seen x.0 in
        subst (λ (out : Outcome). (m : MendedTo o own h (entry own op out) seen) × IsChangeAt (h ++ m.front) out) (sym (fault_refused q x.1)) (m, fault_at (h ++ x.0.passed) q x.1 due)

    pub mend_stopped : MendedIs o own h op seen (Err the_stop) → ChangedIs o own h op seen (Err the_stop)
    mend_stopped x = inr (passed_mended (entry own Restart Cut) seen x.0, due_now d op (h ++ x.0.passed) apt x.1)

  -- by a fault of the journal, after a plan
  pub changed_fault : {D : Type 0} (told : Type 0) (state : D → DiskState) (op : Op) (p : Provisioner D) (seen : List Gv) → (IsStopped h → ⊥) → FailedIs told state o own h op DiskFault p seen → ChangedIs o own h op seen (Ok (Denied DiskFault))
  changed_fault told state op p seen unstopped x = (turned_mended (entry own op (Failed DiskFault)) seen x.0, change_at (h ++ x.0.later) (Failed DiskFault) (λ stopped. unstopped (x.2 stopped)) (λ is. let y : Failed DiskFault ≡ Failed JournalAstray = is in cc))

  -- the Provisioner was taken, and the work planned
  module _ {D : Type 0} (told : Type 0) (state : D → DiskState) (op : Op) (seen : List Gv) (t : Took D) (at : TookIs told state o own h op seen t) where
    pub took_rolling : (d : Boxed D) (bytes : List ℕ) → t ≡ took.Rolling d bytes → (turn : Turned o own h (entry own op Taken) seen) × HasPlan told state o own ((h ++ turn.later) ++ entry own op Taken ∷ []) d.value.p (plan_of op d.value.rolling bytes)
    took_rolling d bytes is = subst (λ (x : Took D). TookIs told state o own h op seen x) is at

    pub took_denied : (q : Cause) → t ≡ took.Denied q → ChangedIs o own h op seen (Ok (Denied q))
    took_denied q is =
        let x = subst (λ (y : Took D). TookIs told state o own h op seen y) is at in
        (turned_mended (entry own op (refused q)) seen x.0, change_at (h ++ x.0.later) (refused q) x.1 (refused_astray q (λ astray. x.2 (inr astray))))

    pub took_halted : t ≡ took.Halted → TurnedBack o own h seen
    took_halted is = (subst (λ (x : Took D). TookIs told state o own h op seen x) is at).0

    pub took_back : t ≡ took.Waits → TurnedBack o own h seen
    took_back is = (subst (λ (x : Took D). TookIs told state o own h op seen x) is at).0

  -- the turns of a restart
  abbrev pub turned_back_passed : (seen : List Gv) → TurnedBack o own h seen → PassedBy o own h seen
  turned_back_passed seen t = record { passed = t.later; unused = others_unused own t.later t.others; saw = t.saw }

  abbrev pub turned_back_mended : (seen : List Gv) → TurnedBack o own h seen → MendedBy o own h seen
  turned_back_mended seen t = record { front = t.later; mends = unused_mends own h t.later (others_unused own t.later t.others); saw = t.saw }

  pub mended_on_turns : (asked : Op) (seen then_seen : List Gv) (b : PassedBy o own h seen) (how : Result Mended Stopped) → MendedIs o own (h ++ b.passed) asked then_seen how → MendedIs o own h asked then_seen how
  mended_on_turns asked seen then_seen b (Ok mended.Ready) x = (x.0, passed_on _ seen then_seen b x.1, subst (λ (l : List Entry). IsDueFor asked l) (append_assoc h b.passed x.1.passed) x.2, subst (λ (l : List Entry). IsOfStop x.0 l) (append_assoc h b.passed x.1.passed) x.3)
  mended_on_turns asked seen then_seen b (Ok (mended.Denied q)) x = (passed_on _ seen then_seen b x.0, x.1, subst (λ (l : List Entry). IsDueFor asked l) (append_assoc h b.passed x.0.passed) x.2)
  mended_on_turns asked seen then_seen b (Err e) x = (passed_on _ seen then_seen b x.0, subst (λ (l : List Entry). IsDueFor asked l) (append_assoc h b.passed x.0.passed) x.1)
  mended_on_turns asked seen then_seen b (Ok mended.Waits) x = record {
    passed = b.passed ++ x.passed;
    unused = each_append (IsUnused own) b.passed x.passed b.unused x.unused;
    saw = subst (λ (l : List Entry). Saw o then_seen l) (append_assoc h b.passed x.passed) x.saw;
  }

  pub mended_ready : (asked : Op) (seen : List Gv) → RestartedIs o own h asked seen → MendedIs o own h asked seen (Ok mended.Ready)
  mended_ready asked seen x = (x.0, turned_passed (entry own Restart (Restarted x.0)) seen x.1, x.2, x.3)

  pub mended_cut : (asked : Op) (seen : List Gv) → RestartCutIs o own h asked seen → MendedIs o own h asked seen (Err the_stop)
  mended_cut asked seen x = (turned_passed (entry own Restart Cut) seen x.0, x.1)

  module _ {D : Type 0} (told : Type 0) (state : D → DiskState) (asked : Op) (seen : List Gv) where
    -- it was taken out for one
    pub held_out : (t : Held D) (d : Boxed D) → t ≡ held.Held d → HoldIs told state o own h asked seen t → (turn : Turned o own h (entry own Restart Taken) seen) × HasHeld told state o own asked ((h ++ turn.later) ++ entry own Restart Taken ∷ []) d.value.p
    held_out t d is at = subst (λ (x : Held D). HoldIs told state o own h asked seen x) is at

    pub held_waits : (t : Held D) → t ≡ held.Waits → HoldIs told state o own h asked seen t → MendedIs o own h asked seen (Ok mended.Waits)
    held_waits t is at = turned_back_passed seen (subst (λ (x : Held D). HoldIs told state o own h asked seen x) is at).0

    -- its journal failed, or reads otherwise than it was written
    pub mended_fault : (q : Cause) (p : Provisioner D) → HasFailed told state o own Restart asked q h p → FailedIs told state o own h asked q p seen → MendedIs o own h asked seen (Ok (mended.Denied q))
    mended_fault q p failed x =
        let then_failed = x.1 Restart failed in
        (turned_passed (entry own asked (Failed q)) seen x.0, failed.fault, elim then_failed.upon [ inl a ↦ inl a.0 | inr b ↦ b.1 ])

  -- INIT-SYS: what came of it, after turns that entered nothing
  module _ (seen then_seen : List Gv) (b : PassedBy o own h seen) (how : Result Mended Stopped) (x : MendedIs o own (h ++ b.passed) Restart then_seen how) where
    abbrev on : MendedIs o own h Restart then_seen how
    on = mended_on_turns Restart seen then_seen b how x

    pub warm_done : how ≡ Ok mended.Ready → WarmRestartIs o own h then_seen (Ok Done)
    warm_done is = let y = subst (λ (z : Result Mended Stopped). MendedIs o own h Restart then_seen z) is on in (y.0, y.1, y.3)

    pub warm_denied : (q : Cause) → how ≡ Ok (mended.Denied q) → WarmRestartIs o own h then_seen (Ok (Denied q))
    warm_denied q is = (subst (λ (z : Result Mended Stopped). MendedIs o own h Restart then_seen z) is on).0

    pub warm_stopped : how ≡ Err the_stop → WarmRestartIs o own h then_seen (Err the_stop)
    warm_stopped is = (subst (λ (z : Result Mended Stopped). MendedIs o own h Restart then_seen z) is on).0

    pub warm_waits : how ≡ Ok mended.Waits → PassedBy o own h then_seen
    warm_waits is = subst (λ (z : Result Mended Stopped). MendedIs o own h Restart then_seen z) is on

  -- a changing command, after restarts that were due
  module _ (d : Dimensions) (op : Op) (apt : IsApt d op) (seen then_seen : List Gv) (b : MendedBy o own h seen) (how : Result Mended Stopped) (x : MendedIs o own (h ++ b.front) op then_seen how) where
    pub mends_ready : how ≡ Ok mended.Ready → MendedBy o own h then_seen
    mends_ready is =
        let y = subst (λ (z : Result Mended Stopped). MendedIs o own (h ++ b.front) op then_seen z) is x in
        mended_more seen then_seen b y.0 y.1 (due_now d op ((h ++ b.front) ++ y.1.passed) apt y.2)

    pub mends_wait : how ≡ Ok mended.Waits → MendedBy o own h then_seen
    mends_wait is = mended_back seen then_seen b (subst (λ (z : Result Mended Stopped). MendedIs o own (h ++ b.front) op then_seen z) is x)
