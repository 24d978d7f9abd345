-- What a file stands for that the users' journal's disk has read.
use Rattle.std.proofs.Common.{◌≡◌, inl, inr, ⊎_elim, ℕ, zero, suc, ◌+◌, ◌-◌, ◌≤◌, ◌<◌, List, [], ◌∷◌, ◌++◌, length, take, Some, None, slice_get, sym, ◌∙◌, ap, subst, arith, length-append, append_assoc}
use Rattle.std.specs.List.{AllByRecursion}
use Rattle.std.proofs.lemmas.Bool.{cases_lt}
use Rattle.std.proofs.lemmas.List.{append-nil}
use Rattle.std.proofs.lemmas.Option.{IfSome_then}
use Rattle.dxc_disk.specs.Disks.{DiskState, IsDisk, last_read}
use Rattle.dxc_disk.proofs.ReadingSteps.{last_on}
use Rattle.standby_link.specs.Mirrored.{CopiesAreReadings, IsReadFrom}
use Rattle.standby_link.proofs.ActSteps.{get_front}
use Rattle.user_admin.specs.declared.op.UserEntry.{UserEntry}
use Rattle.user_admin.specs.declared.state.UserState.{UserState}
use Rattle.user_admin.specs.Histories.{Opening}
use Rattle.user_admin.specs.Operations.{AreOperations, HasRead, IsFileAfter, MayBe, MayBeAtStart, Operation, StandsAt, entries_in, readings_in}
use Rattle.user_admin.specs.States.{StandsFor}
use Rattle.user_admin.proofs.Operating.{read_so_far}
use Rattle.user_laws.specs.Mirrorings.{CopiesStand, ReadingsStand, StandsForOperations, readings_before}

-- what holds of all holds of each
all_at : {A : Type 0} (P : A → Type 0) (xs : List A) (n : ℕ) (x : A) → AllByRecursion P xs → slice_get xs n ≡ Some x → P x
all_at P [] n x all at = absurd (let e : None ≡ Some x = at in cc)
all_at P (y ∷ xs) zero x all at = subst P (let e : Some y ≡ Some x = at in cc) all.0
all_at P (y ∷ xs) (suc n) x all at = all_at P xs n x all.1 at

-- behind some files the last of them is the first
behind : (file : List ℕ) (fs gs : List (List ℕ)) (n : ℕ) → slice_get (file ∷ (fs ++ gs)) (length fs + n) ≡ slice_get (last_read file fs ∷ gs) n
behind file [] gs n = ap (slice_get (file ∷ gs)) (let none : 0 + n ≡ n = omega arith in none)
behind file (f ∷ fs) gs n = ap (slice_get (file ∷ (f ∷ (fs ++ gs)))) (let one : suc (length fs) + n ≡ suc (length fs + n) = omega arith in one) ∙ behind f fs gs n

-- Operations after this history, what was read last before them and this file, which stands for one of them and the users before it.
module _ (o : Opening) where
  record Found (h : List UserEntry) (ps : List Operation) (by : ℕ) (file : List ℕ) : Type 0 where
    pub number : ℕ
    pub holds : (n : ℕ) → n ≤ length ps → length (readings_in (take n ps)) ≤ by → n ≤ number
    pub stands : StandsAt o (h ++ entries_in (take number ps)) (slice_get ps number) file

  -- a file that was read before the first operation ended
  in_first : (h : List UserEntry) (first : List ℕ) (p : Operation) (ps : List Operation) (by n : ℕ) (file : List ℕ) → AllByRecursion (MayBe o h p.entry.op) (first ∷ p.readings) → by ≤ n → n < length p.readings
      → slice_get (first ∷ (p.readings ++ readings_in ps)) n ≡ Some file → Found h (p ∷ ps) by file
  in_first h first p ps by n file all le before at = record {
    number = zero;
    holds = none_ended;
    stands = subst (λ (g : List UserEntry). MayBe o g p.entry.op file) (sym (append-nil h))
        (all_at (MayBe o h p.entry.op) (first ∷ p.readings) n file all (sym (get_front (first ∷ p.readings) (readings_in ps) n (omega (arith, before))) ∙ at));
  }
    where
      none_ended : (k : ℕ) → k ≤ length (p ∷ ps) → length (readings_in (take k (p ∷ ps))) ≤ by → k ≤ zero
      none_ended zero few ended = omega arith
      none_ended (suc k) few ended =
          let both : length (p.readings ++ readings_in (take k ps)) ≤ by = ended in
          absurd (omega (arith, le, before, both, length-append p.readings (readings_in (take k ps))))

  -- or after that
  in_rest : (h : List UserEntry) (p : Operation) (ps : List Operation) (by : ℕ) (file : List ℕ) → Found (h ++ p.entry ∷ []) ps (by - length p.readings) file → Found h (p ∷ ps) by file
  in_rest h p ps by file x = record {
    number = suc x.number;
    holds = all_ended;
    stands = subst (λ (g : List UserEntry). StandsAt o g (slice_get ps x.number) file) (append_assoc h (p.entry ∷ []) (entries_in (take x.number ps))) x.stands;
  }
    where
      all_ended : (k : ℕ) → k ≤ length (p ∷ ps) → length (readings_in (take k (p ∷ ps))) ≤ by → k ≤ suc x.number
      all_ended zero few ended = omega arith
      all_ended (suc k) few ended =
          let both : length (p.readings ++ readings_in (take k ps)) ≤ by = ended in
          let within : suc k ≤ suc (length ps) = few in
          let rest : k ≤ x.number = x.holds k (omega (arith, within)) (omega (arith, both, length-append p.readings (readings_in (take k ps)))) in
          omega (arith, rest)

  -- whichever it is
  find : (h : List UserEntry) (first : List ℕ) (ps : List Operation) → AreOperations o h first ps → IsFileAfter o (h ++ entries_in ps) (last_read first (readings_in ps))
      → (by n : ℕ) (file : List ℕ) → by ≤ n → slice_get (first ∷ readings_in ps) n ≡ Some file → Found h ps by file
  find h first [] are ends by zero file le at = record {
    number = zero;
    holds = λ k few ended. few;
    stands = subst (λ (f : List ℕ). IsFileAfter o (h ++ []) f) (let e : Some first ≡ Some file = at in cc) ends;
  }
  find h first [] are ends by (suc n) file le at = absurd (let e : None ≡ Some file = at in cc)
  find h first (p ∷ ps) are ends by n file le at = ⊎_elim
      (λ before. in_first h first p ps by n file are.0 le before at)
      (λ late.
      let there : length p.readings + (n - length p.readings) ≡ n = omega (arith, late) in
      in_rest h p ps by file (find (h ++ p.entry ∷ []) (last_read first p.readings) ps are.1
      (subst (λ (w : List UserEntry × List ℕ). IsFileAfter o w.0 w.1) (λ i. (sym (append_assoc h (p.entry ∷ []) (entries_in ps)) i, last_on first p.readings (readings_in ps) i)) ends)
      (by - length p.readings) (n - length p.readings) file (omega (arith, le))
      (sym (behind first p.readings (readings_in ps) (n - length p.readings)) ∙ ap (slice_get (first ∷ (p.readings ++ readings_in ps))) there ∙ at)))
      (cases_lt n (length p.readings))

module _ {D : Type 0} (told : Type 0) (state : D → DiskState) (disks : (d : D) → told → IsDisk (state d)) (t : told) (o : Opening) (h : List UserEntry) (s : UserState D) (st : StandsFor told state o s h) where
  abbrev disk : DiskState
  disk = state s.journal.0

  abbrev has : HasRead o h disk
  has = st.read t

  -- what was read before the start, and what was read last then
  abbrev first : List ℕ
  first = last_read [] o.readings

  ends : IsFileAfter o (entries_in has.operations) (last_read (last_read first has.started) (readings_in has.operations))
  ends = subst (λ (w : List UserEntry × List ℕ). IsFileAfter o w.0 w.1) (λ i. (sym has.entered i, sym (read_so_far o h disk (disks s.journal.0 t) has) i)) (⊎_elim (λ old. inl old) (λ more. inr more.0) (st.reads t))

  module _ (by : ℕ) (file : List ℕ) (handed : length o.readings ≤ by) (read : IsReadFrom by disk.readings file) where
    -- its place from the last of what was read before the start on
    abbrev place : ℕ
    place = read.place + 1 - length o.readings

    placed : slice_get (first ∷ (has.started ++ readings_in has.operations)) place ≡ Some file
    placed =
        let late = read.late in
        let one : length o.readings + place ≡ suc read.place = omega (arith, late, handed) in
        sym (behind [] o.readings (has.started ++ readings_in has.operations) place)
        ∙ (ap (slice_get ([] ∷ (o.readings ++ (has.started ++ readings_in has.operations)))) one
        ∙ (ap (λ (fs : List (List ℕ)). slice_get fs read.place) (sym has.readings) ∙ read.is))

    pub stands : StandsForOperations has by file
    stands =
        let late = read.late in
        let started = length has.started in
        ⊎_elim
        (λ before. inl (record {
          earlier = omega (arith, late, before, handed);
          stands = all_at (MayBeAtStart o) (first ∷ has.started) place file has.start (sym (get_front (first ∷ has.started) (readings_in has.operations) place (omega (arith, before))) ∙ placed);
        }))
        (λ after.
        let n : ℕ = place - length has.started in
        let same : length has.started + n ≡ place = omega (arith, after) in
        let found = find o [] (last_read first has.started) has.operations has.are ends (by - readings_before has) n file (omega (arith, late, after, handed))
        (sym (behind first has.started (readings_in has.operations) n) ∙ (ap (slice_get (first ∷ (has.started ++ readings_in has.operations))) same ∙ placed)) in
        inr (record { number = found.number; holds = λ k few ended. found.holds k few (omega (arith, ended)); stands = found.stands }))
        (cases_lt place (length has.started))

pub readings_stand : {D : Type 0} (told : Type 0) (state : D → DiskState) → ((d : D) → told → IsDisk (state d)) → ReadingsStand told state
readings_stand told state disks t o h s st by file handed read = stands told state disks t o h s st by file handed read

pub copies_stand : {D : Type 0} (told : Type 0) (state : D → DiskState) → ((d : D) → told → IsDisk (state d)) → CopiesAreReadings state → CopiesStand told state
copies_stand told state disks copies t o h s st pair by handed keeps along = IfSome_then _ (copies s.journal.0 by pair keeps along) (λ file read. readings_stand told state disks t o h s st by file handed read)
