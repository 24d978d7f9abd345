-- A journal that was opened and couldn't be read: what holds of either fault.
use Rattle.std.specs.Prelude.{IsErrOf}
use Rattle.std.proofs.Common.{◌≡◌, ◌≤◌, ℕ, false, Result, Ok, Err, refl, subst}
use Rattle.dxc_causes.specs.Causes.{HasCause, Rose}
use Rattle.dxc_num.specs.Dimensions.{Dimensions}
use Rattle.dxc_disk.specs.Disks.{DiskState, IsDisk}
use Rattle.dxc_model.specs.Tables.{Board}
use Rattle.journal_core.specs.declared.book.Book.{Book}
use Rattle.journal_core.specs.declared.head.Head.{Head}
use Rattle.journal_core.specs.Headers.{IsNew}
use Rattle.journal_core.specs.Books.{IsWhole, listed}
use Rattle.journal_core.specs.Opens.{OpensNew, OpensOld}
use Rattle.paull_matrix.specs.Colourings.{Colouring}
use Rattle.roll_plan.specs.declared.work.Work.{Work}
use Rattle.xc_recovery.specs.declared.fault.ReplayFault.{ReplayFault}
use Rattle.xc_recovery.specs.declared.fault.ReplayFault.TheVariants.{BadRecord, Disk}
use Rattle.xc_recovery.specs.Replays.{Replays}
use Rattle.xc_core.specs.Openings.{Fails, HasBadRecord, IsDiskFault, IsStopFault, disk_of_fault}
use Rattle.xc_core.specs.Starts.{read_fault}
use Rattle.xc_core.proofs.Opened.{bad_record}
use Rattle.xc_core.proofs.Rooms.{fault_on}

abbrev pub as_read : ReplayFault → Result Work ReplayFault
as_read fault = Err fault

-- what the fault says where the disk tells, the shape under either name
pub unread_fails : {D : Type 0} (state : D → DiskState) (d e : Dimensions) (head : Head) (a b : DiskState) (book : Book) (t : Board) (m : Colouring) (left : D) → d ≡ e → (state left).reads_as ≡ b.reads_as → IsDisk b → IsWhole book → book.to_mend ≡ false → book.turning ≡ false → ((IsNew a.reads_as → ⊥) → OpensOld d a b (Ok book)) → (IsNew a.reads_as → OpensNew d head a b (Ok book))
    → (fault : ReplayFault) → Replays book.shape book.head (listed book b.reads_as) (as_read fault) t m → Fails state a e (read_fault fault left)
unread_fails state d e head a b book t m left same looked disk whole mended still old new (BadRecord i) bad =
    let refused = bad_record d head a b book i t m (state left).reads_as looked disk whole mended still old new bad in
    (refused.0, subst (λ (x : Dimensions). HasBadRecord a.reads_as (state left).reads_as x i) same refused.1)
unread_fails state d e head a b book t m left same looked disk whole mended still old new Disk bad = tt

-- what holds of the disk holds of the one that is handed back
pub unread_disk : {D : Type 0} (fault : ReplayFault) (d : D) (P : D → Type 0) → P d → P (disk_of_fault (read_fault fault d))
unread_disk (BadRecord i) d P is = is
unread_disk Disk d P is = is

pub unread_cause : {D : Type 0} (state : D → DiskState) (fault : ReplayFault) (d : D) (a b : ℕ) → a ≤ b → b ≤ (state d).faults → (IsErrOf (as_read fault) Disk → Rose b (state d).faults) → HasCause a (state (disk_of_fault (read_fault fault d))).faults (IsDiskFault (read_fault fault d))
unread_cause state (BadRecord i) d a b called looked rose = fault_on a b (state d).faults ⊥ called looked (λ none. absurd none)
unread_cause state Disk d a b called looked rose = fault_on a b (state d).faults (Unit {0}) called looked (λ _. rose refl)

pub unread_sound : {D : Type 0} (fault : ReplayFault) (d : D) → (IsErrOf (as_read fault) Disk → ⊥) → IsDiskFault (read_fault fault d) → ⊥
unread_sound (BadRecord i) d sound is = is
unread_sound Disk d sound is = sound refl

-- nor is it a stop
pub unread_unstopped : {D : Type 0} (fault : ReplayFault) (d : D) → IsStopFault (read_fault fault d) → ⊥
unread_unstopped (BadRecord i) d is = is
unread_unstopped Disk d is = is
