-- What a crash might have left of the users' journal, in words of their history.
use Rattle.std.proofs.Common.{◌≡◌, ◌⊎◌, inl, ℕ, zero, suc, ◌≤◌, List, [], ◌∷◌, length, take, refl, ap, subst, arith}
use Rattle.std.specs.Prelude.{slice_get}
use Rattle.dxc_disk.specs.Disks.{DiskState}
use Rattle.user_admin.specs.declared.op.UserEntry.{UserEntry}
use Rattle.user_admin.specs.Histories.{Opening}
use Rattle.user_admin.specs.Operations.{EndedBy, IsFileAfter, Operation, StandsAt, StandsForFirst, entries_in}
use Rattle.user_laws.specs.Crashes.{CrashesStand, IsFileWithNext, StandsForEntries, ended}

-- the entries of the first n operations are the first n entries
entries_first : (n : ℕ) (ps : List Operation) → entries_in (take n ps) ≡ take n (entries_in ps)
entries_first zero ps = refl
entries_first (suc n) [] = refl
entries_first (suc n) (p ∷ ps) = ap (λ (es : List UserEntry). p.entry ∷ es) (entries_first n ps)

number_of : (ps : List Operation) → length (entries_in ps) ≡ length ps
number_of [] = refl
number_of (p ∷ ps) = ap suc (number_of ps)

-- and a file that stands at an operation stands at its entry
at_entry : (o : Opening) (first : List UserEntry) (ps : List Operation) (n : ℕ) (file : List ℕ) → StandsAt o first (slice_get ps n) file → IsFileAfter o first file ⊎ IsFileWithNext o first (slice_get (entries_in ps) n) file
at_entry o first [] n file stands = inl stands
at_entry o first (p ∷ ps) zero file stands = stands
at_entry o first (p ∷ ps) (suc n) file stands = at_entry o first ps n file stands

module _ (o : Opening) (h : List UserEntry) (ps : List Operation) (are : entries_in ps ≡ h) (n : ℕ) (few : n ≤ length h) (HadEnded : ℕ → Type 0) (had : HadEnded n) (file : List ℕ) (x : StandsForFirst o ps HadEnded file) where
  pub in_words : StandsForEntries o h n file
  in_words = record {
    number = x.number;
    holds = x.holds n (let same = number_of ps in let whole : length (entries_in ps) ≡ length h = ap length are in omega (arith, same, whole, few)) had;
    stands = subst (λ (es : List UserEntry). IsFileAfter o (take x.number es) file ⊎ IsFileWithNext o (take x.number es) (slice_get es x.number) file) are
        (at_entry o (take x.number (entries_in ps)) ps x.number file (subst (λ (es : List UserEntry). StandsAt o es (slice_get ps x.number) file) (entries_first x.number ps) x.stands));
  }

pub crashes_stand : {D : Type 0} (told : Type 0) (state : D → DiskState) → CrashesStand told state
crashes_stand told state t o h s st n file few left =
    let x = st.read t in
    in_words o h x.operations x.entered n few (EndedBy x.begun x.operations (ended x n)) (omega arith) file (x.left n file left)
