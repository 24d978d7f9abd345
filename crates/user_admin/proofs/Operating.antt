-- What the users' journal's disk has read, and what a crash might have left of it, one operation of the history after the other.
use Rattle.std.proofs.Common.{◌≡◌, ◌⊎◌, inl, ⊎_elim, ℕ, suc, ◌+◌, ◌≤◌, ◌<◌, List, [], ◌∷◌, ◌++◌, length, take, drop, append-nil, append_assoc, length-append, refl, sym, ◌∙◌, ap, subst, arith}
use Rattle.std.specs.List.{AllByRecursion}
use Rattle.std.proofs.Math.ListN.{drop_of_length-le}
use Rattle.std.proofs.lemmas.Bool.{cases_lt}
use Rattle.std.proofs.lemmas.List.{length-map, take-append-le, take_all}
use Rattle.dxc_disk.specs.Alls.{all_weaker}
use Rattle.dxc_disk.specs.Disks.{DiskState, IsDisk, IsSynced, Leaves, LeavesOnly, Reading, files, last_read}
use Rattle.dxc_disk.proofs.ReadingSteps.{all_read, files_on, last_on, reads_last}
use Rattle.user_admin.specs.declared.op.UserChange.{UserChange}
use Rattle.user_admin.specs.declared.op.UserEntry.{UserEntry}
use Rattle.user_admin.specs.Histories.{IsInDoubt, Opening}
use Rattle.user_admin.specs.Operations.{AreOperations, EndInOrder, EndedBy, HasRead, IsFileAfter, MayBe, Operation, StandsForFirst, ended_at, entries_in, readings_in}
use Rattle.user_admin.proofs.Ending.{dropped_more, ended_before, ended_behind, ended_front, holds_all, holds_front, holds_still, order_more}

entries_append : (ps qs : List Operation) → entries_in (ps ++ qs) ≡ entries_in ps ++ entries_in qs
entries_append [] qs = refl
entries_append (p ∷ ps) qs = ap (λ (es : List UserEntry). p.entry ∷ es) (entries_append ps qs)

readings_append : (ps qs : List Operation) → readings_in (ps ++ qs) ≡ readings_in ps ++ readings_in qs
readings_append [] qs = refl
readings_append (p ∷ ps) qs = ap (λ (fs : List (List ℕ)). p.readings ++ fs) (readings_append ps qs) ∙ sym (append_assoc p.readings (readings_in ps) (readings_in qs))

-- one operation more
are_more : (o : Opening) (h : List UserEntry) (file : List ℕ) (ps : List Operation) (p : Operation) → AreOperations o h file ps
    → AllByRecursion (MayBe o (h ++ entries_in ps) p.entry.op) (last_read file (readings_in ps) ∷ p.readings) → AreOperations o h file (ps ++ p ∷ [])
are_more o h file [] p are all = (subst (λ (g : List UserEntry). AllByRecursion (MayBe o g p.entry.op) (file ∷ p.readings)) (append-nil h) all, tt)
are_more o h file (q ∷ ps) p are all = (
  are.0,
  are_more o (h ++ q.entry ∷ []) (last_read file q.readings) ps p are.1
      (subst (λ (w : List UserEntry × List ℕ). AllByRecursion (MayBe o w.0 p.entry.op) (w.1 ∷ p.readings)) (λ i. (sym (append_assoc h (q.entry ∷ []) (entries_in ps)) i, last_on file q.readings (readings_in ps) i)) all),
)

-- how many readings these are
number_of : (s : DiskState) (before started later : List (List ℕ)) → files s.readings ≡ before ++ (started ++ later) → length s.readings ≡ length before + (length started + length later)
number_of s before started later are =
    sym (length-map s.readings (λ (r : Reading). r.file))
    ∙ (ap length are ∙ (length-append before (started ++ later) ∙ ap (λ (n : ℕ). length before + n) (length-append started later)))

-- behind all of them there is none
pub since_end : (P : Reading → Type 0) (s : DiskState) (before started : List (List ℕ)) (ps : List Operation) (n : ℕ) → length ps ≤ n → files s.readings ≡ before ++ (started ++ readings_in ps)
    → AllByRecursion P (drop (length before + (length started + length (readings_in (take n ps)))) s.readings)
since_end P s before started ps n all are =
    let number = number_of s before started (readings_in ps) are in
    let none : drop (length before + (length started + length (readings_in ps))) s.readings ≡ [] = drop_of_length-le s.readings (omega (arith, number)) in
    subst (λ (qs : List Operation). AllByRecursion P (drop (length before + (length started + length (readings_in qs))) s.readings)) (sym (take_all n ps all)) (subst (AllByRecursion P) (sym none) tt)

module _ (o : Opening) (h : List UserEntry) (old : DiskState) (disk : IsDisk old) (x : HasRead o h old) where
  -- what was read last is what it reads
  pub read_so_far : last_read (last_read (last_read [] o.readings) x.started) (readings_in x.operations) ≡ old.reads_as
  read_so_far =
      sym (last_on (last_read [] o.readings) x.started (readings_in x.operations))
      ∙ (sym (last_on [] o.readings (x.started ++ readings_in x.operations)) ∙ (ap (last_read []) (sym x.readings) ∙ reads_last old disk))

  module _ (new : DiskState) (disk_now : IsDisk new) (e : UserEntry) (only : LeavesOnly old new (MayBe o h e.op)) where
    abbrev read : List (List ℕ)
    read = files only.on.more

    abbrev done : Operation
    done = record { entry = e; readings = read; ended = new.moment }

    abbrev all : List Operation
    all = x.operations ++ done ∷ []

    -- behind what was read in all operations before
    behind : readings_in x.operations ++ read ≡ readings_in all
    behind = ap (λ (fs : List (List ℕ)). readings_in x.operations ++ fs) (sym (append-nil read)) ∙ sym (readings_append x.operations (done ∷ []))

    reads_more : files new.readings ≡ o.readings ++ (x.started ++ readings_in all)
    reads_more =
        ap files only.on.readings
        ∙ (files_on old.readings only.on.more
        ∙ (ap (λ (fs : List (List ℕ)). fs ++ read) x.readings
        ∙ (append_assoc o.readings (x.started ++ readings_in x.operations) read
        ∙ ap (λ (fs : List (List ℕ)). o.readings ++ fs) (append_assoc x.started (readings_in x.operations) read ∙ ap (λ (fs : List (List ℕ)). x.started ++ fs) behind))))

    entered_more : entries_in all ≡ h ++ e ∷ []
    entered_more = entries_append x.operations (done ∷ []) ∙ ap (λ (es : List UserEntry). es ++ e ∷ []) x.entered

    in_order : EndInOrder x.begun all new.moment
    in_order = order_more x.begun x.operations done old.moment new.moment x.in_order only.on.later (omega arith)

    -- the first n are those before, or all
    module _ (n : ℕ) where
      abbrev then : ℕ
      then = ended_at x.begun all n

      then_is : n ≤ length x.operations → then ≡ ended_at x.begun x.operations n
      then_is few = ended_front x.begun x.operations done n few

      abbrev Later : ℕ → Reading → Type 0
      Later t r = t ≤ r.at

      since_front : n ≤ length x.operations → AllByRecursion (Later then) (drop (length o.readings + (length x.started + length (readings_in (take n all)))) new.readings)
      since_front few =
          let t : ℕ = ended_at x.begun x.operations n in
          let le : t ≤ old.moment = ended_before x.begun x.operations old.moment n x.in_order in
          subst (λ (w : (ℕ × List Operation) × List Reading). AllByRecursion (Later w.0.0) (drop (length o.readings + (length x.started + length (readings_in w.0.1))) w.1))
          (λ i. ((sym (then_is few) i, sym (take-append-le n x.operations (done ∷ []) few) i), sym only.on.readings i))
          (dropped_more (Later t) (length o.readings + (length x.started + length (readings_in (take n x.operations)))) old.readings only.on.more (x.since n)
          (all_weaker (Later old.moment) (Later t) only.on.more (λ r late. omega (arith, le, late)) only.on.since))

      since_all : length x.operations < n → AllByRecursion (Later then) (drop (length o.readings + (length x.started + length (readings_in (take n all)))) new.readings)
      since_all more =
          let one : length all ≡ length x.operations + 1 = length-append x.operations (done ∷ []) in
          since_end (Later then) new o.readings x.started all n (omega (arith, one, more)) reads_more

      module _ (file : List ℕ) (left : new.left_since then file) where
        abbrev Ended : ℕ → Type 0
        Ended = EndedBy x.begun all then

        -- by that moment it hadn't ended
        left_front : then < new.moment → StandsForFirst o all Ended file
        left_front early =
            let t : ℕ = ended_at x.begun x.operations n in
            let before : (k : ℕ) → Ended k → (k ≤ length x.operations) × (ended_at x.begun x.operations k ≤ then) = λ k ended. ⊎_elim
            (λ less. let few : k ≤ length x.operations = omega (arith, less) in (few, let same = ended_front x.begun x.operations done k few in omega (arith, same, ended)))
            (λ more. absurd (let own : ended_at x.begun all k ≡ new.moment = ended_behind x.begun x.operations done k (omega (arith, more)) in omega (arith, own, ended, early)))
            (cases_lt k (suc (length x.operations))) in
            let same : then ≡ t = then_is (before n (omega arith)).0 in
            let le : t ≤ old.moment = ended_before x.begun x.operations old.moment n x.in_order in
            ⊎_elim
            (λ was. holds_still o x.operations file done Ended (EndedBy x.begun x.operations t) (λ k ended. ((before k ended).0, let at = (before k ended).1 in omega (arith, at, same))) (x.left n file was))
            (λ may. holds_front o x.operations file done Ended (λ k ended. (before k ended).0) (subst (λ (g : List UserEntry). MayBe o g e.op file) (sym x.entered) may))
            (only.before t file le (subst (λ (u : ℕ). new.left_since u file) same left))

        -- or all had
        left_all : Leaves new (IsFileAfter o (h ++ e ∷ [])) → new.moment ≤ then → StandsForFirst o all Ended file
        left_all images late =
            let early = ended_before x.begun all new.moment n in_order in
            let now : then ≡ new.moment = omega (arith, early, late) in
            holds_all o all file Ended (subst (λ (g : List UserEntry). IsFileAfter o g file) (sym entered_more) (images file (disk_now.only_now file (subst (λ (u : ℕ). new.left_since u file) now left))))

    -- one operation more
    pub read_more : IsFileAfter o h old.reads_as → Leaves new (IsFileAfter o (h ++ e ∷ [])) → (IsSynced new ⊎ ((c : UserChange) × IsInDoubt o (h ++ e ∷ []) c)) → HasRead o (h ++ e ∷ []) new
    read_more stands images synced = record {
      started = x.started;
      operations = all;
      start = x.start;
      are = are_more o [] (last_read (last_read [] o.readings) x.started) x.operations done x.are
          (subst (λ (w : List UserEntry × List ℕ). AllByRecursion (MayBe o w.0 e.op) (w.1 ∷ read)) (λ i. (sym x.entered i, sym read_so_far i)) (inl stands, all_read (MayBe o h e.op) old new disk_now only));
      entered = entered_more;
      readings = reads_more;
      synced = synced;
      begun = x.begun;
      in_order = in_order;
      since = λ n. ⊎_elim (λ less. since_front n (omega (arith, less))) (λ more. since_all n (omega (arith, more))) (cases_lt n (suc (length x.operations)));
      left = λ n file left. ⊎_elim (left_front n file left) (left_all n file left images) (cases_lt (then n) new.moment);
    }
