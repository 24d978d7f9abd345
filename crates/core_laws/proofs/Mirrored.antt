-- What a file stands for that a journal's disk read in an operation, or that a crash might have left.
use Rattle.std.proofs.Common.{◌≡◌, ⊎_elim, ℕ, zero, suc, ◌+◌, ◌-◌, ◌≤◌, ◌<◌, true, false, List, [], ◌∷◌, ◌++◌, length, take, Option, Some, None, slice_get, refl, sym, ◌∙◌, ap, subst, arith, length-append}
use Rattle.std.proofs.lemmas.Bool.{cases_lt}
use Rattle.std.specs.List.{AllByRecursion}
use Rattle.dxc_disk.specs.Disks.{DiskState, IsDisk, Leaves, files, last_read}
use Rattle.dxc_disk.proofs.ReadingSteps.{last_on}
use Rattle.dxc_model.specs.declared.op.Op.{Op}
use Rattle.dxc_model.specs.declared.op.Change.{Change}
use Rattle.roll_engine.specs.Rollings.{RollingAt}
use Rattle.standby_link.proofs.ActSteps.{get_front}
use Rattle.xc_core.specs.declared.provisioner.Provisioner.{Provisioner}
use Rattle.xc_core.specs.Journals.{IsOldOrDoubted}
use Rattle.core_laws.specs.Mirrorings.{CrashesStand, EndedBy, EndedByReading, IsBetween, ReadingsStand, StandsForFirst}
use Rattle.xc_core.specs.Operations.{AreOperations, EndsAt, HasRead, LeftAfter, MayBe, Operation, Outset, made_in, readings_in}
use Rattle.xc_core.specs.Provisioners.{Rolls, with_halt}
use Rattle.xc_core.specs.Reckonings.{Past, ReckonsTo}
use Rattle.xc_core.specs.Restarts.{IsHalted}
use Rattle.xc_core.proofs.Halting.{halted_rolls, resumes_halted}
use Rattle.xc_core.proofs.Operating.{last_file, reckons_on}
use Rattle.xc_core.proofs.Pasts.{past_marked}
use Rattle.xc_core.proofs.Rereading.{halted_images}
use Rattle.xc_core.proofs.Standing.{marked_home}

-- of these files the one at this place
all_get : (P : List ℕ → Type 0) (xs : List (List ℕ)) (n : ℕ) (file : List ℕ) → AllByRecursion P xs → slice_get xs n ≡ Some file → P file
all_get P [] n file all at = absurd (let e : None ≡ Some file = at in cc)
all_get P (x ∷ xs) zero file all at = subst P (let e : Some x ≡ Some file = at in cc) all.0
all_get P (x ∷ xs) (suc n) file all at = all_get P xs n file all.1 at

-- from the last one on
over_last : (file : List ℕ) (xs ys : List (List ℕ)) (n : ℕ) → slice_get (file ∷ (xs ++ ys)) (length xs + n) ≡ slice_get (last_read file xs ∷ ys) n
over_last file [] ys n = ap (slice_get (file ∷ ys)) (let none : 0 + n ≡ n = omega arith in none)
over_last file (x ∷ xs) ys n = ap (slice_get (file ∷ x ∷ (xs ++ ys))) (let one : suc (length xs) + n ≡ suc (length xs + n) = omega arith in one) ∙ over_last x xs ys n

-- the first n had ended by so many readings, which are counted from the beginning of these operations on
abbrev ReadBy : List Operation → ℕ → ℕ → Type 0
ReadBy xs by n = length (readings_in (take n xs)) ≤ by

-- of the first operation nothing had ended
at_first : (b : Past) (x : Operation) (xs : List Operation) (doubt : Option Op) (HadEnded : ℕ → Type 0) (f : List ℕ) → ((n : ℕ) → HadEnded (suc n) → ⊥) → MayBe b x.doubt x.task f → StandsForFirst b (x ∷ xs) doubt HadEnded f
at_first b x xs doubt HadEnded f none may = record { number = zero; holds = λ n few ended. none_ended n ended; past = b; reckoned = refl; stands = may }
  where
    none_ended : (n : ℕ) → HadEnded n → n ≤ zero
    none_ended zero ended = omega arith
    none_ended (suc n) ended = absurd (none n ended)

-- or it is among those that a file holds
in_rest : (b next : Past) (x : Operation) (xs : List Operation) (doubt : Option Op) (HadEnded : ℕ → Type 0) (f : List ℕ) → ReckonsTo b x.made next → StandsForFirst next xs doubt (λ n. HadEnded (suc n)) f → StandsForFirst b (x ∷ xs) doubt HadEnded f
in_rest b next x xs doubt HadEnded f made h = record {
  number = suc h.number;
  holds = λ n few ended. all_ended n few ended;
  past = h.past;
  reckoned = reckons_on b next h.past x.made (made_in (take h.number xs)) made h.reckoned;
  stands = h.stands;
}
  where
    all_ended : (n : ℕ) → n ≤ length (x ∷ xs) → HadEnded n → n ≤ suc h.number
    all_ended zero few ended = omega arith
    all_ended (suc n) few ended =
        let within : suc n ≤ suc (length xs) = few in
        let rest : n ≤ h.number = h.holds n (omega (arith, within)) ended in
        omega (arith, rest)

-- or all are
behind_all : (b : Past) (file : List ℕ) (xs : List Operation) (now : Past) (doubt : Option Op) (HadEnded : ℕ → Type 0) (f : List ℕ) → AreOperations b file xs now → IsOldOrDoubted now doubt f → StandsForFirst b xs doubt HadEnded f
behind_all b file [] now doubt HadEnded f are rests = record { number = zero; holds = λ n few ended. few; past = b; reckoned = refl; stands = subst (λ (y : Past). IsOldOrDoubted y doubt f) are rests }
behind_all b file (x ∷ xs) now doubt HadEnded f are rests = in_rest b are.1.0 x xs doubt HadEnded f are.1.1 (behind_all are.1.0 (last_read file x.readings) xs now doubt (λ n. HadEnded (suc n)) f are.1.2 rests)

-- what counts as ended less often is held too
had_fewer : (b : Past) (xs : List Operation) (doubt : Option Op) (P Q : ℕ → Type 0) (f : List ℕ) → ((n : ℕ) → Q n → P n) → StandsForFirst b xs doubt P f → StandsForFirst b xs doubt Q f
had_fewer b xs doubt P Q f fewer h = record { number = h.number; holds = λ n few ended. h.holds n few (fewer n ended); past = h.past; reckoned = h.reckoned; stands = h.stands }

-- whichever operation it was read in
find : (b : Past) (file : List ℕ) (xs : List Operation) (now : Past) (doubt : Option Op) → AreOperations b file xs now → IsOldOrDoubted now doubt (last_read file (readings_in xs)) → (a m : ℕ) (f : List ℕ) → a ≤ m → slice_get (file ∷ readings_in xs) m ≡ Some f → StandsForFirst b xs doubt (ReadBy xs a) f
find b file [] now doubt are rests a zero f le at = behind_all b file [] now doubt (ReadBy [] a) f are (subst (IsOldOrDoubted now doubt) (let e : Some file ≡ Some f = at in let same : file ≡ f = cc in same) rests)
find b file [] now doubt are rests a (suc m) f le at = absurd (let e : None ≡ Some f = at in cc)
find b file (x ∷ xs) now doubt are rests a m f le at = ⊎_elim
    (λ before. at_first b x xs doubt (ReadBy (x ∷ xs) a) f
    (λ n ended. let both : length (x.readings ++ readings_in (take n xs)) ≤ a = ended in omega (arith, le, before, both, length-append x.readings (readings_in (take n xs))))
    (all_get (MayBe b x.doubt x.task) (file ∷ x.readings) m f are.0 (sym (get_front (file ∷ x.readings) (readings_in xs) m (omega (arith, before))) ∙ at)))
    (λ behind.
    let n : ℕ = m - length x.readings in
    let there : m ≡ length x.readings + n = omega (arith, behind) in
    in_rest b are.1.0 x xs doubt (ReadBy (x ∷ xs) a) f are.1.1
    (had_fewer are.1.0 xs doubt (ReadBy xs (a - length x.readings)) (λ k. ReadBy (x ∷ xs) a (suc k)) f
    (λ k ended. let both : length (x.readings ++ readings_in (take k xs)) ≤ a = ended in omega (arith, both, length-append x.readings (readings_in (take k xs))))
    (find are.1.0 (last_read file x.readings) xs now doubt are.1.2 (subst (IsOldOrDoubted now doubt) (last_on file x.readings (readings_in xs)) rests) (a - length x.readings) n f (omega (arith, le, behind))
    (sym (over_last file x.readings (readings_in xs) n) ∙ (ap (slice_get (file ∷ (x.readings ++ readings_in xs))) (sym there) ∙ at)))))
    (cases_lt m (length x.readings))

-- or a crash left it in, which ended later
find_left : (b : Past) (xs : List Operation) (doubt : Option Op) (t : ℕ) (f : List ℕ) → LeftAfter b xs t f → StandsForFirst b xs doubt (EndedBy xs t) f
find_left b [] doubt t f left = absurd left
find_left b (x ∷ xs) doubt t f left = ⊎_elim
    (λ here. at_first b x xs doubt (EndedBy (x ∷ xs) t) f (λ n ended. let over : x.ended ≤ t = ended.0 in let under_way : t < x.ended = here.0 in omega (arith, over, under_way)) here.1)
    (λ rest. in_rest b rest.0 x xs doubt (EndedBy (x ∷ xs) t) f rest.1 (had_fewer rest.0 xs doubt (EndedBy xs t) (λ n. EndedBy (x ∷ xs) t (suc n)) f (λ n ended. ended.1) (find_left rest.0 xs doubt t f rest.2)))
    left

module _ {D : Type 0} (told : Type 0) (state : D → DiskState) (t : told) (disk : (d : D) → IsDisk (state d)) where
  -- between two operations a crash leaves what stands for the changes, or for the one in doubt besides
  rolls_halted : (b : Past) (p : Provisioner D) (op : Op) (c : Change) (r : RollingAt) → Rolls told state b op c p r → IsHalted told state b (with_halt true p)
  rolls_halted b p op c r x = halted_rolls told state b op c (with_halt true p) r refl (record {
    ready = refl;
    past = past_marked b p x.past false;
    doubt = x.doubt;
    granted = x.granted;
    within = x.within;
    planned = x.planned;
    journalled = x.journalled;
    under_way = x.under_way;
    switches = x.switches;
    alone = x.alone;
    few = x.few;
  })

  images : (b : Past) (p : Provisioner D) → IsBetween told state b p → Leaves (state p.journal.0) (IsOldOrDoubted b p.doubt)
  images b p is file now = ⊎_elim
      (λ home. halted_images told state b (with_halt true p) (marked_home told state b p home) t file now)
      (λ other. ⊎_elim
      (λ halted. halted_images told state b p halted t file now)
      (λ way. ⊎_elim
      (λ rolls. halted_images told state b (with_halt true p) (rolls_halted b p rolls.0 rolls.1 rolls.2 rolls.3) t file now)
      (λ rest. halted_images told state b p (resumes_halted told state b rest.0 rest.1 p rest.2 rest.3) t file now)
      way)
      other)
      is

  -- as the readings are counted that the disk has made
  found_by : (from : Outset) (made : List Change) (b : Past) (p : Provisioner D) → IsBetween told state b p → (x : HasRead from made b (state p.journal.0)) (by place : ℕ) (file : List ℕ) → slice_get (files (state p.journal.0).readings) place ≡ Some file → by ≤ place + 1 → length from.readings ≤ place + 1
      → StandsForFirst from.past x.operations p.doubt (EndedByReading from x.operations by) file
  found_by from made b p is x by place file at late since =
      let s = state p.journal.0 in
      let xs = x.operations in
      let begun : ℕ = length from.readings in
      let n : ℕ = place + 1 - begun in
      let there : suc place ≡ begun + n = omega (arith, since) in
      let get : slice_get ([] ∷ (from.readings ++ readings_in xs)) (suc place) ≡ Some file = ap (λ (l : List (List ℕ)). slice_get l place) (sym x.readings) ∙ at in
      let reads = images b p is s.reads_as (disk p.journal.0).reads_now in
      had_fewer from.past xs p.doubt (ReadBy xs (by - begun)) (EndedByReading from xs by) file (λ k ended. let both : begun + length (readings_in (take k xs)) ≤ by = ended in omega (arith, both))
      (find from.past (last_read [] from.readings) xs b p.doubt x.are (subst (IsOldOrDoubted b p.doubt) (sym (last_file from made b s (disk p.journal.0) x)) reads) (by - begun) n file (omega (arith, late, since))
      (sym (over_last [] from.readings (readings_in xs) n) ∙ (ap (slice_get ([] ∷ (from.readings ++ readings_in xs))) (sym there) ∙ get)))

  -- a crash in a later operation, or now
  left_by : (from : Outset) (made : List Change) (b : Past) (p : Provisioner D) → IsBetween told state b p → (x : HasRead from made b (state p.journal.0)) (at : ℕ) (file : List ℕ) → EndsAt x.operations at → (state p.journal.0).left_since at file
      → StandsForFirst from.past x.operations p.doubt (EndedBy x.operations at) file
  left_by from made b p is x at file ends left = ⊎_elim
      (λ earlier. find_left from.past x.operations p.doubt at file earlier)
      (λ image. behind_all from.past (last_read [] from.readings) x.operations b p.doubt (EndedBy x.operations at) file x.are (images b p is file image))
      (x.left at file ends left)

pub readings_stand : {D : Type 0} (told : Type 0) (state : D → DiskState) → ((d : D) → told → IsDisk (state d)) → ReadingsStand told state
readings_stand told state disk t from made b p is x by place file at late since = found_by told state t (λ d. disk d t) from made b p is x by place file at late since

pub crashes_stand : {D : Type 0} (told : Type 0) (state : D → DiskState) → ((d : D) → told → IsDisk (state d)) → CrashesStand told state
crashes_stand told state disk t from made b p is x at file ends left = left_by told state t (λ d. disk d t) from made b p is x at file ends left
