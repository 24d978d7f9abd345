-- What a mirrored disk's calls are of a primary.
use Rattle.std.proofs.Common.{◌≡◌, inl, inr, ⊎_elim, ℕ, ◌+◌, ◌^◌, ◌≤◌, ◌<◌, max, Bool, true, false, ◌&&◌, List, [], ◌∷◌, ◌++◌, length, drop, append_assoc, Option, Some, None, IsSome, Result, Ok, Err, nat_le, if◌then◌else◌, refl, sym, ◌∙◌, ap, arith, length-append}
use Rattle.std.proofs.lemmas.Bool.{le-leb}
use Rattle.std.proofs.lemmas.List.{append-nil}
use Rattle.dxc_disk.specs.Disks.{DiskState, Writes, Looks, bytes_at}
use Rattle.dxc_causes.specs.Causes.{Rose}
use Rattle.dxc_outside.specs.Links.{LinkState}
use Rattle.standby_link.specs.Messages.{spelled_all, numbered}
use Rattle.standby_link.specs.Serves.{bytes_in}
use Rattle.standby_link.proofs.LineSteps.{line, Sending, spelled_more}
use Rattle.dxc_outside.specs.declared.link.Lost.{Lost}
use Rattle.dxc_outside.specs.declared.link.Lost.TheVariants.{Link, Disk}
use Rattle.standby_link.specs.Acts.{Act, write, sync, acted, pieces}
use Rattle.standby_link.specs.Lines.{LineState, SentActs, Syncs}
use Rattle.standby_link.specs.Mirrors.{Primary, sends, called, syncing, failed, lose, is_awaited, takes, joining}
use Rattle.standby_link.specs.Moves.{Both, mirrored, first_line, Moved, lost_by, takes_all, IsSmall, TellsWrite, TellsSync, StepsByWrite, LinkTook, Took, TookHaves, StepsBySync, SendsFile, Joins}

-- a Have leaves what is sent and read as it is
record Keeps (p q : Primary) : Type 0 where
  file : q.file ≡ p.file
  acts : q.acts ≡ p.acts
  lost : q.lost ≡ p.lost

takes_by : (b : Bool) (p : Primary) (n : ℕ) → Keeps p (if b then record p { greatest = max p.greatest n; waits = false; answered = length p.before } else record p { greatest = max p.greatest n })
takes_by true p n = record { file = refl; acts = refl; lost = refl }
takes_by false p n = record { file = refl; acts = refl; lost = refl }

takes_keep : (numbers : List ℕ) (p : Primary) → Keeps p (takes_all p numbers)
takes_keep [] p = record { file = refl; acts = refl; lost = refl }
takes_keep (n ∷ numbers) p =
    let one = takes_by (is_awaited p n) p n in
    let rest = takes_keep numbers (takes p n) in
    record { file = rest.file ∙ one.file; acts = rest.acts ∙ one.acts; lost = rest.lost ∙ one.lost }

takes_all-append : (xs : List ℕ) (p : Primary) (n : ℕ) → takes_all p (xs ++ n ∷ []) ≡ takes (takes_all p xs) n
takes_all-append [] p n = refl
takes_all-append (x ∷ xs) p n = takes_all-append xs (takes p x) n

-- the Have that is waited for ends the wait
waits_by : (w b : Bool) (p : Primary) (n : ℕ) → p.waits ≡ w → b ≡ true → (if w && b then record p { greatest = max p.greatest n; waits = false; answered = length p.before } else record p { greatest = max p.greatest n }).waits ≡ false
waits_by true true p n is reached = refl
waits_by true false p n is reached = cc
waits_by false b p n is reached = is

ends_wait : (p : Primary) (n : ℕ) → length p.acts ≤ n → (takes p n).waits ≡ false
ends_wait p n reached = waits_by p.waits (nat_le (length p.acts) n) p n refl (le-leb (length p.acts) n reached)

none_is : (o : Option Lost) (why : Lost) → o ≡ None → o ≡ Some why → ⊥
none_is o why none some = cc

-- a primary whose line is lost
lost_moved : (told : Type 0) (d' : DiskState) (why : Lost) (n' : ℕ) (p : Primary) → (told → d'.reads_as ≡ p.file) → Moved told d' (Some why) n' (lose p)
lost_moved told d' why n' p content = record {
  on = record { joined = λ none. absurd (none_is (Some why) why none refl); gone = λ some. refl; idle = refl };
  content = content;
}

failed_moved : (told : Type 0) (d' : DiskState) (lost lost' : Option Lost) (n' : ℕ) (p : Primary) → p.waits ≡ false → (lost ≡ None → lost' ≡ Some Disk) → (IsSome lost → lost' ≡ lost) → Moved told d' lost' n' (failed p d'.reads_as)
failed_moved told d' None lost' n' p idle here gone = record {
  on = record { joined = λ none. absurd (none_is lost' Disk none (here refl)); gone = λ some. refl; idle = idle };
  content = λ t. refl;
}
failed_moved told d' (Some why) lost' n' p idle here gone = record {
  on = record { joined = λ none. absurd (none_is lost' why none (gone refl)); gone = λ some. refl; idle = idle };
  content = λ t. refl;
}

sent_length : (lost : Bool) (acts more : List Act) → lost ≡ false → length (sends lost acts more) ≡ length acts + length more
sent_length true acts more here = cc
sent_length false acts more here = length-append acts more

took_nothing : (told : Type 0) (k k' : LinkState) (part : List ℕ) → (told → k'.left ≡ k.left) → Took told k k' part part []
took_nothing told k k' part same = record { came = []; spells = append-nil part; small = tt; left = λ t. sym (same t) }

-- a primary whose line was lost before
lost_before : (told link_told : Type 0) (d' : DiskState) (l : LineState) (k' : LinkState) (n' : ℕ) (held : List ℕ) (why : Lost) (lost' : Option Lost) (q : Primary) → (told → d'.reads_as ≡ q.file) → (link_told → k'.left ≡ l.link.left) → lost' ≡ Some why
    → TookHaves told link_told l (mirrored d' (line k' n' held lost')) q
lost_before told link_told d' l k' n' held why None q content left gone = absurd (none_is None why refl gone)
lost_before told link_told d' l k' n' held why (Some other) q content left gone = record {
  numbers = [];
  rest = l.held;
  took = took_nothing link_told l.link k' l.held left;
  moved = lost_moved told d' other n' q content;
}

-- the same, where its link was read once more
lost_asked : (told link_told : Type 0) (d' : DiskState) (l : LineState) (k' : LinkState) (n' : ℕ) (held : List ℕ) (why : Lost) (lost' : Option Lost) (q : Primary) → (told → d'.reads_as ≡ q.file) → LinkTook link_told l.link k' → lost' ≡ Some why
    → TookHaves told link_told l (mirrored d' (line k' n' held lost')) q
lost_asked told link_told d' l k' n' held why None q content took gone = absurd (none_is None why refl gone)
lost_asked told link_told d' l k' n' held why (Some other) q content took gone = record {
  numbers = [];
  rest = l.held ++ bytes_in took.came;
  took = record { came = took.came; spells = refl; small = tt; left = took.left };
  moved = lost_moved told d' other n' q content;
}

-- a primary whose Sync was sent over its line
module _ (told link_told : Type 0) (d' : DiskState) (l : LineState) (k' : LinkState) (n' : ℕ) (rest : List ℕ) (q : Primary) (content : told → d'.reads_as ≡ q.file) (here : q.lost ≡ false) (size : length q.acts ≡ l.number + 1) where
  went : (lost' : Option Lost) → Syncs link_told l (line k' n' rest lost') → TookHaves told link_told l (mirrored d' (line k' n' rest lost')) q
  went (Some why) syncs = ⊎_elim
      (λ cut. record {
        numbers = [];
        rest = l.held;
        took = took_nothing link_told l.link k' l.held cut.1.wrote.left;
        moved = lost_moved told d' why n' q content;
      })
      (λ sent.
      let vain = sent.1.vain why refl in
      record {
        numbers = vain.taken;
        rest = vain.rest;
        took = record { came = vain.listened.came; spells = vain.listened.spells; small = vain.listened.small; left = λ t. sym (sent.1.wrote.left t) ∙ vain.listened.exchanged.left t };
        moved = lost_moved told d' why n' (takes_all q vain.taken) (λ t. content t ∙ sym (takes_keep vain.taken q).file);
      })
      syncs
  went None syncs = ⊎_elim
      (λ cut. absurd (none_is None Link refl cut.0))
      (λ sent.
      let came = sent.1.came refl in
      let numbers = came.taken ++ came.number ∷ [] in
      let keeps = takes_keep numbers q in
      let before = takes_keep came.taken q in
      let all : length (takes_all q came.taken).acts ≤ came.number = omega (arith, size, ap length before.acts, came.reached) in
      record {
        numbers = numbers;
        rest = rest;
        took = record { came = came.listened.came; spells = came.listened.spells; small = came.listened.small; left = λ t. sym (sent.1.wrote.left t) ∙ came.listened.exchanged.left t };
        moved = record {
          on = record {
            joined = λ none. (keeps.lost ∙ here, omega (arith, size, ap length keeps.acts, sent.1.number));
            gone = λ some. cc;
            idle = ap (λ (p : Primary). p.waits) (takes_all-append came.taken q came.number) ∙ ends_wait (takes_all q came.taken) came.number all;
          };
          content = λ t. content t ∙ sym keeps.file;
        };
      })
      syncs

module _ (told link_told : Type 0) (d d' : DiskState) (k k' : LinkState) (n n' : ℕ) where
  -- a write that was made
  write_moved : (lost lost' : Option Lost) (at : ℕ) (from : List ℕ) (p : Primary) → (told → d'.reads_as ≡ acted d.reads_as (write at from)) → Moved told d lost n p
      → (lost ≡ None → SentActs link_told k k' n n' lost' (pieces at from)) → (IsSome lost → lost' ≡ lost) → Moved told d' lost' n' (lost_by lost' (called p (acted p.file (write at from)) (pieces at from)))
  write_moved lost (Some why) at from p holds moved tells gone = lost_moved told d' why n' (called p (acted p.file (write at from)) (pieces at from)) (λ t. holds t ∙ ap (λ (f : List ℕ). acted f (write at from)) (moved.content t))
  write_moved (Some why) None at from p holds moved tells gone = absurd (none_is None why refl (gone refl))
  write_moved None None at from p holds moved tells gone =
      let here = moved.on.joined refl in
      let whole = (tells refl).whole refl in
      record {
        on = record {
          joined = λ none. (here.0, omega (arith, here.1, whole.1, sent_length p.lost p.acts (pieces at from) here.0));
          gone = λ some. cc;
          idle = moved.on.idle;
        };
        content = λ t. holds t ∙ ap (λ (f : List ℕ). acted f (write at from)) (moved.content t);
      }

  -- a sync that was made
  sync_moved : (part rest : List ℕ) (lost lost' : Option Lost) (p : Primary) → (told → d'.reads_as ≡ d.reads_as) → Moved told d lost n p
      → (lost ≡ None → Syncs link_told (line k n part lost) (line k' n' rest lost')) → (IsSome lost → lost' ≡ lost) → (IsSome lost → LinkTook link_told k k')
      → TookHaves told link_told (line k n part lost) (mirrored d' (line k' n' rest lost')) (syncing p)
  sync_moved part rest (Some why) lost' p same moved syncs gone vain =
      lost_asked told link_told d' (line k n part (Some why)) k' n' rest why lost' (syncing p) (λ t. same t ∙ moved.content t) (vain refl) (gone refl)
  sync_moved part rest None lost' p same moved syncs gone vain =
      let here = moved.on.joined refl in
      went told link_told d' (line k n part None) k' n' rest (syncing p) (λ t. same t ∙ moved.content t) here.0 (omega (arith, here.1, sent_length p.lost p.acts (sync ∷ []) here.0)) lost' (syncs refl)

module _ (told link_told : Type 0) (d d' : DiskState) (l m : LineState) where
  pub steps_by_write : {T E : Type 0} → (at : ℕ) (from : List ℕ) (result : Result T E) → (told → Writes d d' result at from) → TellsWrite link_told l m (bytes_at at from) result → StepsByWrite told (mirrored d l) (mirrored d' m) (bytes_at at from) result
  steps_by_write at from (Ok x) writes tells p moved small =
      write_moved told link_told d d' l.link m.link l.number m.number l.lost m.lost at from p (λ t. (writes t).ok) moved (λ here. tells.sends here small) (λ some. (tells.gone some).0)
  steps_by_write at from (Err x) writes tells p moved small = failed_moved told d' l.lost m.lost m.number p moved.on.idle (λ here. (tells.failing here).0) (λ some. (tells.gone some).0)

  pub steps_by_sync : {T E : Type 0} → (result : Result T E) → (told → Looks d d') → TellsSync link_told l m result → StepsBySync told link_told (mirrored d l) (mirrored d' m) result
  steps_by_sync (Ok x) looks tells p moved small =
      sync_moved told link_told d d' l.link m.link l.number m.number l.held m.held l.lost m.lost p (λ t. (looks t).same) moved (λ here. tells.syncs here small) tells.gone tells.vain
  steps_by_sync (Err x) looks tells p moved small = failed_moved told d' l.lost m.lost m.number p moved.on.idle (λ here. (tells.failing here).0) tells.gone

-- the line before and after
pub both_then : {A : Type 0} (x y : Option A) (P Q : A → A → Type 0) → ((l m : A) → P l m → Q l m) → Both x y P → Both x y Q
both_then None None P Q on both = both
both_then None (Some m) P Q on both = both
both_then (Some l) None P Q on both = both
both_then (Some l) (Some m) P Q on both = on l m both

unlost : (lost : Option Lost) → (IsSome lost → ⊥) → lost ≡ None
unlost None never = refl
unlost (Some why) never = absurd (never refl)

-- A file that is sent.
module _ (told : Type 0) (d d' : DiskState) (k0 : LinkState) (m : LineState) where
  pub file_sent : SentActs told k0 m.link 0 m.number m.lost (pieces 0 d.reads_as) → SendsFile told d d' k0 m
  file_sent all = record {
    sent = all.part;
    unsent = all.rest;
    split = all.split;
    wrote = all.wrote;
    whole = λ none. ((all.whole none).0, omega (arith, (all.whole none).1));
    cause = λ some. inl (all.cause some);
    no_fault = λ here. all.no_fault (unlost m.lost (λ some. here (all.cause some).0));
  }

  pub file_unread : (n at : ℕ) → Sending told k0 m.link 0 n 0 at d.reads_as → m.lost ≡ Some Disk → Rose d.faults d'.faults → SendsFile told d d' k0 m
  file_unread n at sending gone rose =
      let more = pieces (0 + at) (drop at d.reads_as) in
      record {
        sent = sending.sends.part;
        unsent = sending.sends.rest ++ spelled_all (numbered (0 + length sending.done) more);
        split =
            ap (λ (l : List Act). spelled_all (numbered 0 l)) (sym sending.all)
            ∙ spelled_more sending.done more 0
            ∙ ap (λ (l : List ℕ). l ++ spelled_all (numbered (0 + length sending.done) more)) sending.sends.split
            ∙ append_assoc sending.sends.part sending.sends.rest (spelled_all (numbered (0 + length sending.done) more));
        wrote = sending.sends.wrote;
        whole = λ none. absurd (none_is m.lost Disk none gone);
        cause = λ some. inr (gone, rose);
        no_fault = λ _. sending.sends.no_fault refl;
      }

-- a joining is a primary's first step
module _ (told link_told : Type 0) (d d' : DiskState) (k : LinkState) (m : LineState) (t : told) (same : d'.reads_as ≡ d.reads_as) (small : IsSmall 0 0 d.reads_as) (few : length (pieces 0 d.reads_as) + 1 < 2 ^ 64) where
  joined_by : (mid : LinkState) (n : ℕ) (held : List ℕ) (lost : Option Lost) → held ≡ [] → SendsFile link_told d d' k (line mid n held lost) → (lost ≡ None → n + 1 < 2 ^ 64 → Syncs link_told (line mid n held lost) m) → (IsSome lost → (m.lost ≡ lost) × (m.link ≡ mid))
      → TookHaves told link_told (first_line k) (mirrored d' m) (joining d.reads_as)
  joined_by mid n held (Some why) none sends syncs gone =
      lost_before told link_told d' (first_line k) m.link m.number m.held why m.lost (joining d.reads_as) (λ u. same) (λ l. ap (λ (s : LinkState). s.left) (gone refl).1 ∙ sends.wrote.left l) (gone refl).0
  joined_by mid n held None none sends syncs gone =
      let count : n ≡ length (pieces 0 d.reads_as) = (sends.whole refl).1 in
      let size : length (joining d.reads_as).acts ≡ n + 1 = omega (arith, count, length-append (pieces 0 d.reads_as) (sync ∷ [])) in
      let step = went told link_told d' (line mid n held None) m.link m.number m.held (joining d.reads_as) (λ u. same) refl size m.lost (syncs refl (omega (arith, count, few))) in
      record {
        numbers = step.numbers;
        rest = step.rest;
        took = record {
          came = step.took.came;
          spells = ap (λ (l : List ℕ). l ++ bytes_in step.took.came) (sym none) ∙ step.took.spells;
          small = step.took.small;
          left = λ l. sym (sends.wrote.left l) ∙ step.took.left l;
        };
        moved = step.moved;
      }

  pub join_step : Joins told link_told d d' k m → TookHaves told link_told (first_line k) (mirrored d' m) (joining d.reads_as)
  join_step joins = joined_by joins.mid.link joins.mid.number joins.mid.held joins.mid.lost joins.none (joins.sends t small) joins.syncs joins.gone
