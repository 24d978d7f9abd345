-- The users that records lead to.
use Rattle.std.proofs.Common.{◌≡◌, ℕ, ◌+◌, ◌<◌, ◌≤◌, Bool, true, false, nat_lt, List, [], ◌∷◌, ◌++◌, append-nil, length, length-append, take, Option, Some, None, refl, sym, ◌∙◌, ap, subst, arith}
use Rattle.std.proofs.lemmas.Bool.Decides.{nat_tests}
use Rattle.std.specs.Prelude.{get_or}
use Rattle.std.proofs.lemmas.List.{take_more}
use Rattle.dxc_disk.specs.Disks.{DiskState}
use Rattle.journal_core.specs.declared.book.Book.{Book}
use Rattle.std.specs.FinMap.{get}
use Rattle.journal_core.specs.declared.version.Version.{Version}
use Rattle.journal_core.specs.declared.version.Version.TheVariants.{One, Two}
use Rattle.journal_core.specs.Areas.{version_number}
use Rattle.journal_core.specs.Books.{IsKept, listed, padding}
use Rattle.user_admin.specs.declared.op.User.{User}
use Rattle.user_admin.specs.declared.op.UserChange.{UserChange}
use Rattle.user_admin.specs.declared.op.UserChange.TheVariants.{Enter, Edit, Delete}
use Rattle.user_admin.specs.Users.{Users}
use Rattle.user_admin.specs.Changes.{Fits, after, effect}
use Rattle.user_admin.specs.Records.{HasShelfSecrets, IsName, MayBeSpelled, MaySpell, Means, has_long_salt, is_long}
use Rattle.user_admin.specs.Spellable.{AreDescribed, AreSpellable}
use Rattle.user_admin.specs.Files.{AreMeant, FoldsTo}
use Rattle.user_admin.specs.Journals.{IsBadRecord}
use Rattle.user_admin.proofs.Always.{record_stands}
use Rattle.user_admin.proofs.Readback.{spelled_size}
use Rattle.user_admin.proofs.Spelling.{always_spellable, at_most, shelf_spellable}

-- a user who was spelled with the shelf's secrets may be spelled as the salt's length asks
by_secrets : (shelf : Users) (w : Option User) (u : User) (b : Bool) → is_long u ≡ b → w ≡ get shelf u.uid → AreDescribed shelf → IsName u.uid → HasShelfSecrets w u → MaySpell shelf b u
by_secrets shelf None u b is there d n has = absurd has
by_secrets shelf (Some w) u true is there d n has = (n, subst (λ (x : Option User). HasShelfSecrets x u) there has)
by_secrets shelf (Some w) u false is there d n has = (n, at_most 16 (length u.salt.items) is, ap (λ (x : List ℕ). length x) has.1 ∙ (d u.uid w (sym there)).2)

short_salt : (m n : ℕ) → n ≤ m → nat_lt m n ≡ false
short_salt m n le = grind (arith, nat_tests)

spelled_again : (shelf : Users) (b : Bool) (u : User) → AreDescribed shelf → MaySpell shelf b u → MaySpell shelf (is_long u) u
spelled_again shelf true u d m = by_secrets shelf (get shelf u.uid) u (is_long u) refl refl d m.0 m.1
spelled_again shelf false u d m = subst (λ (b : Bool). MaySpell shelf b u) (sym (short_salt 16 (length u.salt.items) m.1)) m

-- a change that a record means may be spelled
meant_spelled : (shelf : Users) (bytes : List ℕ) (c : UserChange) → AreDescribed shelf → Means shelf bytes c → MayBeSpelled shelf (has_long_salt c) c
meant_spelled shelf bytes (Enter u) d m = spelled_again shelf m.0 u d m.1
meant_spelled shelf bytes (Edit u) d m = spelled_again shelf m.0 u d m.1
meant_spelled shelf bytes (Delete k) d m = (refl, m.1.1)

from_spellable : (shelf : Users) (rs : List (List ℕ)) (cs : List UserChange) (users : Users) → AreDescribed shelf → AreMeant shelf rs cs → AreSpellable shelf users → AreSpellable shelf (after cs users)
from_spellable shelf [] [] users d m s = s
from_spellable shelf [] (c ∷ cs) users d m s = absurd m
from_spellable shelf (r ∷ rs) [] users d m s = absurd m
from_spellable shelf (r ∷ rs) (c ∷ cs) users d m s = from_spellable shelf rs cs (effect c users) d m.1 (always_spellable shelf c users s (meant_spelled shelf r c d m.0))

-- the users to which records lead may be spelled
pub fold_spellable : (shelf : Users) (rs : List (List ℕ)) (users : Users) → AreDescribed shelf → FoldsTo shelf rs users → AreSpellable shelf users
fold_spellable shelf rs users d f = subst (λ (m : Users). AreSpellable shelf m) f.3 (from_spellable shelf rs f.0 shelf d f.1 (shelf_spellable shelf d))

-- no record leads to the shelf's own
pub none_folded : (shelf users : Users) → users ≡ shelf → FoldsTo shelf [] users
none_folded shelf users same = ([], tt, tt, sym same)

-- a record means no change where it has no 64 bytes
pub short_meant : (shelf : Users) (bytes whole : List ℕ) (c : UserChange) → length whole ≡ 64 → whole ≡ bytes ++ padding One → Means shelf bytes c → ⊥
short_meant shelf bytes whole c size is m =
    let spelled = ap (λ (x : List ℕ). length x) m.2 ∙ spelled_size shelf m.0 c m.1 in
    let both = ap (λ (x : List ℕ). length x) is ∙ length-append bytes (padding One) in
    let filled : length (padding One) ≡ 32 = refl in
    omega (arith, size, spelled, both, filled)

-- what was read as a record of version 2 is one of the list
pub whole_read : (v : Version) (n : ℕ) (entry bytes : List ℕ) → n ≡ version_number v → n ≡ 2 → bytes ≡ entry ++ padding v → bytes ≡ entry
whole_read One n entry bytes is two read = absurd (let one : n ≡ 1 = is in let z : ⊥ = omega (arith, one, two) in z)
whole_read Two n entry bytes is two read = read ∙ append-nil entry

-- a record that wasn't taken means no change that fits
pub not_meant : (v : Version) (n : ℕ) (entry bytes : List ℕ) (shelf users : Users) → n ≡ version_number v → bytes ≡ entry ++ padding v → length bytes ≡ 64 → (n ≡ 2 → (c : UserChange) → Means shelf bytes c → Fits c users → ⊥) → (c : UserChange) → Means shelf entry c → Fits c users → ⊥
not_meant One n entry bytes shelf users is read size bad c means fits = short_meant shelf entry bytes c size read means
not_meant Two n entry bytes shelf users is read size bad c means fits = bad is c (subst (λ (w : List ℕ). Means shelf w c) (sym (read ∙ append-nil entry)) means) fits

-- one record more was taken
pub folds_more : (shelf : Users) (records : List (List ℕ)) (bytes : List ℕ) (users later : Users) → FoldsTo shelf records users → ((c : UserChange) × Means shelf bytes c × Fits c users × (later ≡ effect c users)) → FoldsTo shelf (records ++ bytes ∷ []) later
folds_more shelf records bytes users later so_far taken = subst (λ (m : Users). FoldsTo shelf (records ++ bytes ∷ []) m) (sym taken.3) (record_stands shelf users records bytes taken.0 so_far taken.1 taken.2)

-- or it is the first bad one
pub refused : (shelf : Users) (records l : List (List ℕ)) (i : ℕ) (users later : Users) → i < length l → records ≡ take i l → FoldsTo shelf records users → later ≡ users → ((c : UserChange) → Means shelf (get_or l i []) c → Fits c users → ⊥) → IsBadRecord shelf l i later
refused shelf records l i users later low front so_far same bad = record {
  within = low;
  before = subst (λ (w : List (List ℕ) × Users). FoldsTo shelf w.0 w.1) (λ j. (front j, sym same j)) so_far;
  bad = λ c means fits. bad c means (subst (Fits c) same fits);
}

-- What a read in the middle tells of the journal at first: b is its book, s and u the disk at first and then.
module _ (s mid u : DiskState) (b at now : Book) (same_book : at ≡ b) (kept_book : now ≡ at) (same : mid.reads_as ≡ s.reads_as) (still : u.reads_as ≡ mid.reads_as) where
  -- it counts its list
  pub counted : IsKept u now → b.count ≡ length (listed b s.reads_as)
  counted kept = subst (λ (w : Book × List ℕ). w.0.count ≡ length (listed w.0 w.1)) (λ i. ((kept_book ∙ same_book) i, (still ∙ same) i)) kept.counts

  -- what was read is of it
  pub was_read : (i : ℕ) (bytes : List ℕ) → bytes ≡ get_or (listed at mid.reads_as) i [] ++ padding at.head.version → bytes ≡ get_or (listed b s.reads_as) i [] ++ padding b.head.version
  was_read i bytes is = is ∙ (λ j. get_or (listed (same_book j) (same j)) i [] ++ padding (same_book j).head.version)

-- a list of records that was read is one longer
pub read_more : (records l : List (List ℕ)) (i : ℕ) (bytes : List ℕ) → i < length l → records ≡ take i l → bytes ≡ get_or l i [] → records ++ bytes ∷ [] ≡ take (i + 1) l
read_more records l i bytes low so_far is = (λ j. so_far j ++ is j ∷ []) ∙ sym (take_more l i [] low)
