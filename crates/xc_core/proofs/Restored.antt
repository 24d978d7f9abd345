-- What a turn does in which a restart was to begin, and what comes of the Provisioner that it takes out.
use Rattle.std.proofs.Common.{◌≡◌, ◌⊎◌, ◌≤◌, ◌+◌, ℕ, arith, true, false, List, Option, refl, sym, ◌∙◌, ap, subst, inl, inr}
use Rattle.dxc_causes.specs.Causes.{Rose}
use Rattle.dxc_disk.specs.Disks.{CountsOn, DiskState, IsDisk, LeavesOnly, Spends}
use Rattle.dxc_disk.proofs.DiskSteps.{spends_more, spends_on}
use Rattle.dxc_model.specs.declared.cause.Cause.TheVariants.{DiskFault, JournalAstray}
use Rattle.dxc_model.specs.declared.op.Op.{Op}
use Rattle.dxc_model.specs.declared.op.Op.TheVariants.{Restart}
use Rattle.dxc_model.specs.declared.op.Change.{Change}
use Rattle.dxc_model.specs.declared.entry.Entry.{Entry}
use Rattle.dxc_model.specs.Steps.{IsDriven}
use Rattle.dxc_model.specs.Histories.{changes_of}
use Rattle.dxc_model.specs.Tables.{Board}
use Rattle.xc_core.specs.declared.provisioner.Provisioner.{Provisioner}
use Rattle.xc_core.specs.declared.restarts.Held.TheVariants as held
use Rattle.xc_core.specs.declared.state.Errand.TheVariants as errand
use Rattle.xc_core.specs.declared.state.Home.TheVariants.{In, Out}
use Rattle.xc_core.specs.declared.state.State.{State}
use Rattle.xc_core.specs.Reckonings.{Past}
use Rattle.xc_core.specs.Journals.{IsOldOrDoubted}
use Rattle.xc_core.specs.Operations.{HasRead, restart}
use Rattle.xc_core.specs.Provisioners.{Boxed, IsHome, KeepsPast, StillDoubts, ground_of}
use Rattle.xc_core.specs.Restarts.{IsHalted, Resumes}
use Rattle.roll_engine.specs.Rollings.{RollingAt}
use Rattle.xc_core.specs.Seeing.{HasFailed, HasHeld, HasRestart, HasStopped, IsDueFor}
use Rattle.xc_core.specs.States.{IsReadyOrHalted, Opening, StandsFor, most_room, outset_of, with_home}
use Rattle.xc_core.specs.Turns.{HeldIs}
use Rattle.xc_core.proofs.Copying.{room_copied, stage_replayed}
use Rattle.xc_core.proofs.Homing.{held_failed, held_resumed, held_stopped, held_taken}
use Rattle.xc_core.proofs.Journalling.{home_images}
use Rattle.xc_core.proofs.Operating.{read_more}
use Rattle.xc_core.proofs.Rereading.{halted_images}
use Rattle.xc_core.proofs.Restarting.{found_stage}
use Rattle.xc_core.proofs.Within.{stands_back}

-- what settling and recovering take of the room
restart_room : (a b c : DiskState) → Spends 3 a b → Spends 131_079 b c → Spends most_room a c
restart_room a b c settled recovered = spends_more (3 + 131_079) most_room a c (omega arith) (spends_on 3 131_079 a b c settled recovered)

settled_room : (a b : DiskState) → Spends 3 a b → Spends most_room a b
settled_room a b settled = spends_more 3 most_room a b (omega arith) settled

module _ {D : Type 0} (told : Type 0) (state : D → DiskState) (counts : (d : D) → CountsOn (state d)) (o : Opening) (s : State D) (h : List Entry) (st : StandsFor told state o s h) (d : Boxed D) (is : s.home ≡ In d) where
  abbrev p : Provisioner D
  p = d.value.p

  -- it is ready, or halted
  abbrev pub found_home : (b : Past) × (IsHome told state b p ⊎ IsHalted told state b p)
  found_home = (st.now, elim (found_stage told state o s h st d is) [ inl a ↦ inl a.0 | inr b ↦ inr b.0 ])

  -- a restart is due where it is halted
  due_found : (asked : Op) → (p.halted ≡ true) ⊎ (asked ≡ Restart) → IsDueFor asked h
  due_found asked why = elim why [
    | inl halted ↦ elim (found_stage told state o s h st d is) [ inl a ↦ absurd (let e : false ≡ true = sym a.0.ready ∙ halted in cc) | inr b ↦ inr b.1 ]
    | inr same ↦ inl same
  ]

  -- nothing is done where it is ready, and no restart was asked for
  pub was_ready : (own : ℕ) (asked : Op) → ((p.halted ≡ true) ⊎ (asked ≡ Restart) → ⊥) → HeldIs told state o own h asked (with_home (In d) s) held.Waits
  was_ready own asked not = (stands_back told state counts o s h st (In d) is, inr (λ same. not (inr same), elim (found_stage told state o s h st d is) [ inl a ↦ a.1 | inr b ↦ absurd (not (inl b.0.halted)) ]))

  -- it keeps what there is after the changes
  pub keeps_found : KeepsPast st.now p
  keeps_found = elim (found_stage told state o s h st d is) [ inl a ↦ a.0.past | inr a ↦ a.0.past ]

  -- or it is taken out, with a copy of the table
  pub was_taken : (own : ℕ) (asked : Op) → (p.halted ≡ true) ⊎ (asked ≡ Restart) → (e : Board) → e ≡ s.table → (f : Boxed D) → f.value.p ≡ record p { replayed = record p.replayed { expected = e } } → HeldIs told state o own h asked (with_home (Out errand.Restart) s) (held.Held f)
  was_taken own asked why e copied f same =
      let room = room_copied st.now p keeps_found e (copied ∙ st.table) in
      held_taken told state o s h st d is own asked (due_found asked why) f (ap (λ (x : Provisioner D). x.journal) same) (ap (λ (x : Provisioner D). ground_of x) same) (ap (λ (x : Provisioner D). x.doubt) same) (ap (λ (x : Provisioner D). x.halted) same)
      (subst (λ (x : Provisioner D). IsReadyOrHalted told state st.now h x) (sym same) (stage_replayed told state st.now p (record p.replayed { expected = e }) room h (found_stage told state o s h st d is)))
      (ap (λ (x : Provisioner D). x.replayed.expected) same ∙ copied)

-- what settling and recovering left of a Provisioner that was taken out: m after the one, q after both
module _ {D : Type 0} (told : Type 0) (state : D → DiskState) (o : Opening) (own : ℕ) (asked : Op) (h : List Entry) (p m : Provisioner D) (x : HasHeld told state o own asked h p) (driven : IsDriven asked)
    (ground : ground_of m ≡ ground_of p) (kept : StillDoubts p m) (later : (state p.journal.0).faults ≤ (state m.journal.0).faults) (spent : Spends 3 (state p.journal.0) (state m.journal.0))
    (disk : (d : D) → told → IsDisk (state d)) (same : p.halted ≡ true → m ≡ p) (left : told → (b : Past) → IsHome told state b p → LeavesOnly (state p.journal.0) (state m.journal.0) (IsOldOrDoubted b p.doubt)) where
  -- what the disk read meanwhile is of a restart
  read_settled : told → HasRead (outset_of o) (changes_of h) x.out.now (state m.journal.0)
  read_settled k = elim x.stage [
    | inl a ↦ read_more (outset_of o) (changes_of h) x.out.now (state p.journal.0) (state m.journal.0) p.doubt restart (disk p.journal.0 k) (disk m.journal.0 k)
        (home_images told (state p.journal.0) p.journal.1 x.out.now p.doubt (sym a.0.past.shape) a.0.journal k a.0.past.book) (left k x.out.now a.0) (x.out.read k)
    | inr b ↦ subst (λ (y : Provisioner D). HasRead (outset_of o) (changes_of h) x.out.now (state y.journal.0)) (sym (same b.0.halted)) (x.out.read k)
  ]

  -- the settling failed
  pub was_unsettled : (p.halted ≡ false) × ((b : Past) → IsHome told state b p → IsHome told state b m) → Rose (state p.journal.0).faults (state m.journal.0).faults → HasFailed told state o own Restart asked DiskFault h m
  was_unsettled unsettled rose = held_failed told state o own asked DiskFault h p m x ground later (settled_room (state p.journal.0) (state m.journal.0) spent) read_settled kept driven (inl refl) (λ _. rose) (λ t y. let z : DiskFault ≡ JournalAstray = y in cc)
      (elim x.stage [ inl a ↦ inl (unsettled.1 x.out.now a.0, a.1) | inr b ↦ absurd (let e : false ≡ true = sym unsettled.0 ∙ b.0.halted in cc) ])

  module _ (halted : (b : Past) → IsHome told state b p ⊎ IsHalted told state b p → IsHalted told state b m) where
    pub halted_now : IsHalted told state x.out.now m
    halted_now = halted x.out.now (elim x.stage [ inl a ↦ inl a.0 | inr b ↦ inr b.0 ])

    module _ (q : Provisioner D) (same_ground : ground_of q ≡ ground_of m) (same_doubt : q.doubt ≡ m.doubt) (then_later : (state m.journal.0).faults ≤ (state q.journal.0).faults) (recovered : Spends 131_079 (state m.journal.0) (state q.journal.0))
        (then_left : told → LeavesOnly (state m.journal.0) (state q.journal.0) (IsOldOrDoubted x.out.now m.doubt)) (still : IsHalted told state x.out.now q) where
      all_ground : ground_of q ≡ ground_of p
      all_ground = same_ground ∙ ground

      all_later : (state p.journal.0).faults ≤ (state q.journal.0).faults
      all_later = omega (arith, later, then_later)

      all_spent : Spends most_room (state p.journal.0) (state q.journal.0)
      all_spent = restart_room (state p.journal.0) (state m.journal.0) (state q.journal.0) spent recovered

      read_recovered : told → HasRead (outset_of o) (changes_of h) x.out.now (state q.journal.0)
      read_recovered k = read_more (outset_of o) (changes_of h) x.out.now (state m.journal.0) (state q.journal.0) m.doubt restart (disk m.journal.0 k) (disk q.journal.0 k)
          (halted_images told state x.out.now m halted_now k) (then_left k) (read_settled k)

      all_kept : StillDoubts p q
      all_kept y here = let k = kept y (sym same_doubt ∙ here) in (k.0, λ marked. k.1 halted_now.halted)

      pub was_resumed : (r : RollingAt) (l : Option Change) (g : Past) → Resumes told state x.out.now l g q r → HasRestart told state o own asked h q r
      was_resumed r l g resumes = held_resumed told state o own asked h p q x all_ground all_later all_spent read_recovered all_kept r l g resumes

      pub was_stopped : HasStopped told state o own asked h q
      was_stopped = held_stopped told state o own asked h p q x all_ground all_later all_spent read_recovered all_kept still

      -- the disk failed
      pub was_faulty : Rose (state m.journal.0).faults (state q.journal.0).faults → HasFailed told state o own Restart asked DiskFault h q
      was_faulty rose = held_failed told state o own asked DiskFault h p q x all_ground all_later all_spent read_recovered all_kept driven (inl refl) (λ _. omega (arith, later, rose)) (λ t y. let z : DiskFault ≡ JournalAstray = y in cc) (inr still)

      -- the journal reads otherwise than it was written
      pub was_astray : (told → ⊥) → HasFailed told state o own Restart asked JournalAstray h q
      was_astray never = held_failed told state o own asked JournalAstray h p q x all_ground all_later all_spent read_recovered all_kept driven (inr refl) (λ is. absurd (let z : JournalAstray ≡ DiskFault = is in cc)) (λ t y. never t) (inr still)
