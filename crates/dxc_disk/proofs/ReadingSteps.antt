-- What a disk read, and how that goes on.
use Rattle.std.proofs.Common.{◌≡◌, ⊎_elim, ℕ, ◌≤◌, List, [], ◌∷◌, ◌++◌, Result, Ok, Err, refl, sym, ◌∙◌, ap, subst, append_assoc}
use Rattle.std.specs.List.{AllByRecursion}
use Rattle.std.proofs.lemmas.List.{append-nil, map-append}
use Rattle.dxc_disk.specs.Alls.{all_append, all_behind, all_weaker}
use Rattle.dxc_disk.specs.Disks.{DiskState, IsDisk, LeavesOnly, Passes, Reading, Reads, ReadsOnce, ReadsOnly, files, last_read, reading_at}
use Rattle.dxc_disk.proofs.DiskSteps.{leaves_only}

-- more after it
pub last_on : (file : List ℕ) (xs ys : List (List ℕ)) → last_read file (xs ++ ys) ≡ last_read (last_read file xs) ys
last_on file [] ys = refl
last_on file (x ∷ xs) ys = last_on x xs ys

pub files_on : (xs ys : List Reading) → files (xs ++ ys) ≡ files xs ++ files ys
files_on xs ys = map-append (λ (r : Reading). r.file) xs ys

-- what it read last is what it reads
pub reads_last : (s : DiskState) → IsDisk s → last_read [] (files s.readings) ≡ s.reads_as
reads_last s disk =
    let l = disk.reads_last in
    let r : Reading = reading_at l.at s.reads_as in
    ap (λ (rs : List Reading). last_read [] (files rs)) l.readings ∙ (ap (last_read []) (files_on l.before (r ∷ [])) ∙ last_on [] (files l.before) (s.reads_as ∷ []))

all_left : (P : List ℕ → Type 0) (s : DiskState) (t : ℕ) (more : List Reading) → ((c : List ℕ) → s.left_since t c → P c) → AllByRecursion (λ r. (u : ℕ) → u ≤ r.at → s.left_since u r.file) more → AllByRecursion (λ r. t ≤ r.at) more → AllByRecursion P (files more)
all_left P s t [] each left since = tt
all_left P s t (r ∷ rs) each left since = (each r.file (left.0 t since.0), all_left P s t rs each left.1 since.1)

-- what holds of a crash at any moment from a to b holds of all that was read meanwhile
pub all_read : (P : List ℕ → Type 0) (a b : DiskState) → IsDisk b → (only : LeavesOnly a b P) → AllByRecursion P (files only.on.more)
all_read P a b disk only =
    let Left : Reading → Type 0 = λ r. (u : ℕ) → u ≤ r.at → b.left_since u r.file in
    all_left P b a.moment only.on.more only.each (all_behind Left a.readings only.on.more (subst (λ (rs : List Reading). AllByRecursion Left rs) only.on.readings disk.readings_left)) only.on.since

-- what was read has P: in a call that neither writes nor syncs
pub only_none : (P : List ℕ → Type 0) (a b : DiskState) → b.readings ≡ a.readings → ReadsOnly a b P
only_none P a b same = record { more = []; readings = same ∙ sym (append-nil a.readings); each = tt }

only_once : (P : List ℕ → Type 0) (a b : DiskState) → P b.reads_as → ReadsOnce a b → ReadsOnly a b P
only_once P a b has once = record { more = reading_at once.at b.reads_as ∷ []; readings = once.readings; each = (has, tt) }

-- in a write or a sync
pub only_one : {T E : Type 0} (P : List ℕ → Type 0) (a b : DiskState) (result : Result T E) → P b.reads_as → Reads a b result → ReadsOnly a b P
only_one P a b (Ok v) has reads = only_once P a b has reads.made
only_one P a b (Err e) has reads = ⊎_elim (only_once P a b has) (only_none P a b) reads.failed

-- where a crash leaves nothing else
pub only_left : (P : List ℕ → Type 0) (a b : DiskState) → IsDisk a → IsDisk b → Passes a b P → ((x : List ℕ) → a.may_leave x → P x) → ReadsOnly a b P
only_left P a b disk_a disk_b passes start =
    let leaves = leaves_only a b P disk_a passes start in
    record { more = leaves.on.more; readings = leaves.on.readings; each = all_read P a b disk_b leaves }

pub only_as : (P Q : List ℕ → Type 0) (a b : DiskState) → ((x : List ℕ) → P x → Q x) → ReadsOnly a b P → ReadsOnly a b Q
only_as P Q a b so only = record { more = only.more; readings = only.readings; each = all_weaker P Q (files only.more) so only.each }

-- and in one after the other
pub only_then : (P : List ℕ → Type 0) (a b c : DiskState) → ReadsOnly a b P → ReadsOnly b c P → ReadsOnly a c P
only_then P a b c first next = record {
  more = first.more ++ next.more;
  readings = next.readings ∙ (ap (λ (rs : List Reading). rs ++ next.more) first.readings ∙ append_assoc a.readings first.more next.more);
  each = subst (AllByRecursion P) (sym (files_on first.more next.more)) (all_append P (files first.more) (files next.more) first.each next.each);
}
