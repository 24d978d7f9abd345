-- A journal that was opened and whose records couldn't be taken: what holds of either fault.
use Rattle.std.specs.Prelude.{IsErrOf}
use Rattle.std.proofs.Common.{◌≡◌, ◌≤◌, ℕ, arith, false, Result, Ok, Err, refl}
use Rattle.dxc_causes.specs.Causes.{HasCause, Rose}
use Rattle.dxc_disk.specs.Disks.{DiskState, IsDisk}
use Rattle.journal_core.specs.declared.book.Book.{Book}
use Rattle.journal_core.specs.declared.head.Head.{Head}
use Rattle.journal_core.specs.Headers.{IsNew}
use Rattle.journal_core.specs.Books.{IsWhole, listed}
use Rattle.journal_core.specs.Opens.{OpensNew, OpensOld}
use Rattle.shelf_file.specs.Contents.{Contents}
use Rattle.user_admin.specs.declared.fault.UserOpenFault.{UserOpenFault}
use Rattle.user_admin.specs.declared.fold.FoldFault.{FoldFault}
use Rattle.user_admin.specs.declared.fold.FoldFault.TheVariants.{BadRecord, Disk}
use Rattle.user_admin.specs.declared.state.UserState.{UserState}
use Rattle.user_admin.specs.Journals.{Replays}
use Rattle.user_admin.specs.Openings.{Fails, IsDiskErr, disk_left, read_fault}
use Rattle.user_admin.specs.Users.{Users, shelf_users}
use Rattle.user_admin.proofs.Opened.{bad_record}

abbrev pub as_taken : FoldFault → Result (Unit {0}) FoldFault
as_taken fault = Err fault

-- what the opening answers then
abbrev pub as_opened : {D : Type 0} → UserOpenFault D → Result (UserState D) (UserOpenFault D)
as_opened fault = Err fault

-- what the fault says where the disk tells
pub unread_fails : {D : Type 0} (state : D → DiskState) (shelf : Contents) (head : Head) (a b : DiskState) (book : Book) (users : Users) (left : D) → (state left).reads_as ≡ b.reads_as → IsDisk b → IsWhole book → book.to_mend ≡ false → book.turning ≡ false → ((IsNew a.reads_as → ⊥) → OpensOld shelf.shape a b (Ok book)) → (IsNew a.reads_as → OpensNew shelf.shape head a b (Ok book))
    → (fault : FoldFault) → Replays (shelf_users shelf) (listed book b.reads_as) (as_taken fault) users → Fails state a shelf (read_fault fault left)
unread_fails state shelf head a b book users left looked disk whole mended still old new (BadRecord i) bad = bad_record shelf head a b book i users (state left).reads_as looked disk whole mended still old new bad
unread_fails state shelf head a b book users left looked disk whole mended still old new Disk bad = tt

-- what holds of the disk holds of the one that is handed back
pub unread_disk : {D : Type 0} (fault : FoldFault) (d : D) (P : D → Type 0) → P d → P (disk_left (as_opened (read_fault fault d)))
unread_disk (BadRecord i) d P is = is
unread_disk Disk d P is = is

-- a fault of the second of two calls
fault_on : (a b c : ℕ) (failed : Type 0) → a ≤ b → b ≤ c → (failed → Rose b c) → HasCause a c failed
fault_on a b c failed called looked rose = record { later = omega (arith, called, looked); cause = λ f. let r = rose f in omega (arith, called, r) }

pub unread_cause : {D : Type 0} (state : D → DiskState) (fault : FoldFault) (d : D) (a b : ℕ) → a ≤ b → b ≤ (state d).faults → (IsErrOf (as_taken fault) Disk → Rose b (state d).faults) → HasCause a (state (disk_left (as_opened (read_fault fault d)))).faults (IsDiskErr (as_opened (read_fault fault d)))
unread_cause state (BadRecord i) d a b called looked rose = fault_on a b (state d).faults ⊥ called looked (λ none. absurd none)
unread_cause state Disk d a b called looked rose = fault_on a b (state d).faults (Unit {0}) called looked (λ _. rose refl)

pub unread_sound : {D : Type 0} (fault : FoldFault) (d : D) → (IsErrOf (as_taken fault) Disk → ⊥) → IsDiskErr (as_opened (read_fault fault d)) → ⊥
unread_sound (BadRecord i) d sound is = is
unread_sound Disk d sound is = sound refl
