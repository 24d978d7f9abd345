-- What a disk reads along with a primary, and what a standby's file is of that.
use Rattle.std.specs.Prelude.{MatchResult}
use Rattle.std.proofs.Common.{◌≡◌, ◌⊎◌, inl, inr, ⊎_elim, ℕ, zero, suc, ◌+◌, ◌≤◌, max, Bool, true, false, List, [], ◌∷◌, ◌++◌, length, Option, Some, None, Result, Ok, Err, slice_get, if◌then◌else◌, refl, sym, ◌∙◌, ap, subst, arith, length-append}
use Rattle.std.proofs.lemmas.Bool.{cases_lt}
use Rattle.std.proofs.lemmas.List.{length-map, map-append}
use Rattle.std.proofs.lemmas.Option.{IfSome_then}
use Rattle.dxc_disk.specs.declared.disk.DiskFault.{DiskFault}
use Rattle.dxc_disk.specs.Disks.{DiskState, GoesOn, IsDisk, IsSync, IsSynced, IsWrite, Reading, ReadsLast, ReadsNoMore, ReadsOnce, bytes_at, files, reading_at}
use Rattle.dxc_outside.specs.Links.{LinkState}
use Rattle.dxc_outside.specs.declared.link.Lost.{Lost}
use Rattle.standby_link.specs.declared.line.Line.{Line}
use Rattle.standby_link.specs.Acts.{write as put, acted, pieces}
use Rattle.standby_link.specs.Calls.{HasMoment, HasSynced}
use Rattle.standby_link.specs.Laws.{IsWhole, named}
use Rattle.standby_link.specs.Lines.{line_at}
use Rattle.standby_link.specs.Mirrored.{CallsKeepMirrors, CopiesAreReadings, CurrentCopiesAreWhole, IsInStep, IsReadFrom, JoinedAreCurrent, Mirrors, ReadsAlong, number_by}
use Rattle.standby_link.specs.Mirrors.{Primary, called, failed, is_awaited, joining, moments, syncing, takes}
use Rattle.standby_link.specs.Moves.{IsOn, TookHaves, first_line, lost_by, mirrored, takes_all}
use Rattle.standby_link.proofs.ActSteps.{get_front, get_last, get_more}
use Rattle.standby_link.proofs.CallSteps.{calls_moments}
use Rattle.standby_link.proofs.CopySteps.{whole_named}

-- the one after a list
last_one : {A : Type 0} (xs : List A) (x y : A) (k : ℕ) → slice_get (xs ++ x ∷ []) k ≡ Some y → length xs ≤ k → y ≡ x
last_one [] x y zero is le = cc
last_one [] x y (suc k) is le = absurd (let none : None ≡ Some y = is in cc)
last_one (z ∷ xs) x y zero is le = absurd (omega (arith, le))
last_one (z ∷ xs) x y (suc k) is le = last_one xs x y k is (omega (arith, le))

-- what a disk reads is its last reading
read_last : (s : DiskState) → ReadsLast s → (number : ℕ) → number ≤ length s.readings → IsReadFrom number s.readings s.reads_as
read_last s last number within =
    let are : files s.readings ≡ files last.before ++ s.reads_as ∷ [] = ap files last.readings ∙ map-append (λ (r : Reading). r.file) last.before (reading_at last.at s.reads_as ∷ []) in
    let many : length (files s.readings) ≡ length (files last.before) + 1 = ap length are ∙ length-append (files last.before) (s.reads_as ∷ []) in
    record {
      place = length (files last.before);
      late = omega (arith, within, many, length-map s.readings (λ (r : Reading). r.file));
      is = ap (λ (fs : List (List ℕ)). slice_get fs (length (files last.before))) are ∙ get_last (files last.before) s.reads_as;
    }

read_on : (old new : DiskState) → GoesOn old new → (number : ℕ) (file : List ℕ) → IsReadFrom number old.readings file → IsReadFrom number new.readings file
read_on old new on number file r =
    let are : files new.readings ≡ files old.readings ++ files on.more = ap files on.readings ∙ map-append (λ (x : Reading). x.file) old.readings on.more in
    record { place = r.place; late = r.late; is = ap (λ (fs : List (List ℕ)). slice_get fs r.place) are ∙ get_more (files old.readings) (files on.more) r.place file r.is }

there_on : (old new : DiskState) → GoesOn old new → length old.readings ≤ length new.readings
there_on old new on = let many : length new.readings ≡ length old.readings + length on.more = ap length on.readings ∙ length-append old.readings on.more in omega (arith, many)

stays_along : (old new : DiskState) (p : Primary) (number : ℕ) → ReadsAlong old p number → GoesOn old new → ReadsAlong new p number
stays_along old new p number along on = record {
  there = omega (arith, along.there, there_on old new on);
  moments_are = λ moment file le at. read_on old new on number file (along.moments_are moment file le at);
}

-- no sync was answered meanwhile, or only at moments that came
abbrev IsLater : (p q : Primary) → Type 0
IsLater p q = (q.answered ≡ p.answered) ⊎ (length (moments p) ≤ q.answered)

-- a moment more, at which a primary reads what the disk then does
along_more : (old new : DiskState) (p q : Primary) (number : ℕ) → ReadsAlong old p number → GoesOn old new → ReadsLast new → moments q ≡ moments p ++ new.reads_as ∷ [] → IsLater p q → ReadsAlong new q number
along_more old new p q number along on last are later =
    let there : number ≤ length new.readings = omega (arith, along.there, there_on old new on) in
    record {
      there = there;
      moments_are = λ moment file le at. let here : slice_get (moments p ++ new.reads_as ∷ []) moment ≡ Some file = ap (λ (fs : List (List ℕ)). slice_get fs moment) (sym are) ∙ at in ⊎_elim
          (λ front. read_on old new on number file (along.moments_are moment file (⊎_elim (λ (same : q.answered ≡ p.answered). omega (arith, same, le)) (λ (past : length (moments p) ≤ q.answered). absurd (omega (arith, past, le, front))) later) (sym (get_front (moments p) (new.reads_as ∷ []) moment front) ∙ here)))
          (λ behind. subst (λ (f : List ℕ). IsReadFrom number new.readings f) (sym (last_one (moments p) new.reads_as file moment here behind)) (read_last new last number there))
          (cases_lt moment (length (moments p)));
    }

-- the last moment was answered
along_now : (s : DiskState) (q : Primary) → ReadsLast s → s.reads_as ≡ q.file → length q.before ≤ q.answered → ReadsAlong s q (length s.readings)
along_now s q last same answered = record {
  there = omega arith;
  moments_are = λ moment file le at. subst (λ (f : List ℕ). IsReadFrom (length s.readings) s.readings f)
      (same ∙ sym (last_one q.before q.file file moment at (omega (arith, answered, le))))
      (read_last s last (length s.readings) (omega arith));
}

-- Haves and a loss move no moment
takes_before : (b : Bool) (q : Primary) (n : ℕ) → (if b then record q { greatest = max q.greatest n; waits = false; answered = length q.before } else record q { greatest = max q.greatest n }).before ≡ q.before
takes_before true q n = refl
takes_before false q n = refl

all_before : (numbers : List ℕ) (q : Primary) → (takes_all q numbers).before ≡ q.before
all_before [] q = refl
all_before (n ∷ numbers) q = all_before numbers (takes q n) ∙ takes_before (is_awaited q n) q n

-- what is answered is what was, or the last moment
takes_answered : (b : Bool) (q : Primary) (n : ℕ) → let r = if b then record q { greatest = max q.greatest n; waits = false; answered = length q.before } else record q { greatest = max q.greatest n } in (r.answered ≡ q.answered) ⊎ (r.answered ≡ length q.before)
takes_answered true q n = inr refl
takes_answered false q n = inl refl

all_answered : (numbers : List ℕ) (q : Primary) → ((takes_all q numbers).answered ≡ q.answered) ⊎ ((takes_all q numbers).answered ≡ length q.before)
all_answered [] q = inl refl
all_answered (n ∷ numbers) q =
    let same : (takes q n).before ≡ q.before = takes_before (is_awaited q n) q n in
    ⊎_elim
    (λ stays. ⊎_elim (λ one. inl (stays ∙ one)) (λ last. inr (stays ∙ last)) (takes_answered (is_awaited q n) q n))
    (λ last. inr (last ∙ ap length same))
    (all_answered numbers (takes q n))

lost_answered : (lost : Option Lost) (q : Primary) → (lost_by lost q).answered ≡ q.answered
lost_answered None q = refl
lost_answered (Some why) q = refl

lost_before : (lost : Option Lost) (q : Primary) → (lost_by lost q).before ≡ q.before
lost_before None q = refl
lost_before (Some why) q = refl

lost_lost : (b : Bool) (q : Primary) (n : ℕ) → (if b then record q { greatest = max q.greatest n; waits = false; answered = length q.before } else record q { greatest = max q.greatest n }).lost ≡ q.lost
lost_lost true q n = refl
lost_lost false q n = refl

all_lost : (numbers : List ℕ) (q : Primary) → (takes_all q numbers).lost ≡ q.lost
all_lost [] q = refl
all_lost (n ∷ numbers) q = all_lost numbers (takes q n) ∙ lost_lost (is_awaited q n) q n

-- a line over which more is sent was there
was_joined : (lost : Option Lost) (number : ℕ) (p : Primary) → IsOn lost number p → p.lost ≡ false → lost ≡ None
was_joined None number p on here = refl
was_joined (Some why) number p on here = absurd (let no : true ≡ false = sym (on.gone refl) ∙ here in cc)

many : (p : Primary) → length (moments p) ≡ length p.before + 1
many p = length-append p.before (p.file ∷ [])

one_more : (p q : Primary) (file : List ℕ) → moments q ≡ moments p ++ file ∷ [] → length q.before ≡ length p.before + 1
one_more p q file are = let long : length (moments q) ≡ length (moments p) + 1 = ap length are ∙ length-append (moments p) (file ∷ []) in omega (arith, long, many p, many q)

once_more : (old new : DiskState) → ReadsOnce old new → length new.readings ≡ length old.readings + 1
once_more old new once = ap length once.readings ∙ length-append old.readings (reading_at once.at new.reads_as ∷ [])

-- The calls on a mirrored disk.
module _ {D K : Type 0} (told link_told : Type 0) (state : D → DiskState) (link : K → LinkState) (disk : (d : D) → told → IsDisk (state d)) where
  -- after a call that neither writes nor syncs
  looked : told → (d e : D) (l : Line K) (p : Primary) (number : ℕ) → Mirrors told (mirrored (state d) (line_at link l)) p number → (state e).reads_as ≡ (state d).reads_as → GoesOn (state d) (state e) → ReadsNoMore (state d) (state e)
      → Mirrors told (mirrored (state e) (line_at link l)) p number
  looked t d e l p number m same on no_more = record {
    moved = record { on = m.moved.on; content = λ t. same ∙ m.moved.content t };
    along = λ t. stays_along (state d) (state e) p number (m.along t) on;
    in_step = λ t none. record {
      since = ap (λ (rs : List Reading). p.answered + length rs) no_more.readings ∙ (m.in_step t none).since;
      synced = subst (λ (n : ℕ). n ≤ number) (sym no_more.synced) (m.in_step t none).synced;
    };
  }

  module _ (t : told) (d e : D) (l m : Line K) (p : Primary) (number : ℕ) (was : Mirrors told (mirrored (state d) (line_at link l)) p number) (on : GoesOn (state d) (state e)) where
    abbrev now_is : Primary → ℕ → Type 0
    now_is = Mirrors told (mirrored (state e) (line_at link m))

    -- a moment more of a primary, and of its disk
    more_now : (q : Primary) → HasMoment told (mirrored (state e) (line_at link m)) p q → IsLater p q → (m.lost ≡ None → IsInStep (state e) q number) → now_is q number
    more_now q has later step = record {
      moved = has.0;
      along = λ t. along_more (state d) (state e) p q number (was.along t) on (disk e t).reads_last has.1 later;
      in_step = λ t none. step none;
    }

    failed_now : HasMoment told (mirrored (state e) (line_at link m)) p (failed p (state e).reads_as) → now_is (failed p (state e).reads_as) number
    failed_now has = more_now (failed p (state e).reads_as) has (inl refl) (λ none. absurd (let no : true ≡ false = (has.0.on.joined none).0 in cc))

    module _ (at : ℕ) (from : List ℕ) where
      abbrev written : Primary
      written = lost_by m.lost (called p (acted p.file (put at from)) (pieces at from))

      same_answered : written.answered ≡ p.answered
      same_answered = lost_answered m.lost (called p (acted p.file (put at from)) (pieces at from))

      still_here : (lost : Option Lost) → lost ≡ None → (lost_by lost (called p (acted p.file (put at from)) (pieces at from))).lost ≡ p.lost
      still_here None none = refl
      still_here (Some why) none = absurd (let no : Some why ≡ None = none in cc)

      write_step : HasMoment told (mirrored (state e) (line_at link m)) p written → ReadsOnce (state d) (state e) → (state e).synced ≡ (state d).synced → m.lost ≡ None → IsInStep (state e) written number
      write_step has once unsynced none =
          let here : p.lost ≡ false = sym (still_here m.lost none) ∙ (has.0.on.joined none).0 in
          let step = was.in_step t (was_joined l.lost l.number p was.moved.on here) in
          record {
            since = omega (arith, step.since, same_answered, once_more (state d) (state e) once, one_more p written (state e).reads_as has.1);
            synced = subst (λ (n : ℕ). n ≤ number) (sym unsynced) step.synced;
          }

      written_now : HasMoment told (mirrored (state e) (line_at link m)) p written → ReadsOnce (state d) (state e) → (state e).synced ≡ (state d).synced → now_is written number
      written_now has once unsynced = more_now written has (inl same_answered) (write_step has once unsynced)

      write_now : (result : Result (Unit {0}) DiskFault) → IsWrite told (state d) (state e) result (bytes_at at from)
          → MatchResult result (λ _. HasMoment told (mirrored (state e) (line_at link m)) p written) (λ _. HasMoment told (mirrored (state e) (line_at link m)) p (failed p (state e).reads_as))
          → MatchResult result (λ _. now_is written number) (λ _. now_is (failed p (state e).reads_as) number)
      write_now (Ok x) is has = written_now has (is.writes t).reads.made (is.writes t).unsynced
      write_now (Err x) is has = failed_now has

    abbrev synced_by : List ℕ → Primary
    synced_by numbers = lost_by m.lost (takes_all (syncing p) numbers)

    synced_later : (numbers : List ℕ) → IsLater p (synced_by numbers)
    synced_later numbers =
        let same = lost_answered m.lost (takes_all (syncing p) numbers) in
        ⊎_elim
        (λ stays. inl (same ∙ stays))
        (λ last. let now : (synced_by numbers).answered ≡ length (moments p) = same ∙ last in inr (omega (arith, now)))
        (all_answered numbers (syncing p))

    -- where it is Joined
    joined_now : (numbers : List ℕ) → HasSynced told (mirrored (state e) (line_at link m)) p (synced_by numbers) → IsSynced (state e) → m.lost ≡ None → now_is (synced_by numbers) (length (state e).readings)
    joined_now numbers has synced none =
        let last : (synced_by numbers).answered ≡ length (synced_by numbers).before = has.answered none in
        record {
          moved = has.has_moment.0;
          along = λ t. along_now (state e) (synced_by numbers) (disk e t).reads_last (has.has_moment.0.content t) (omega (arith, last));
          in_step = λ t none. record { since = omega (arith, last); synced = omega (arith, synced) };
        }

    sync_number : (lost : Option Lost) (numbers : List ℕ) → m.lost ≡ lost → HasSynced told (mirrored (state e) (line_at link m)) p (synced_by numbers) → IsSynced (state e) → now_is (synced_by numbers) (number_by lost number (length (state e).readings))
    sync_number None numbers is has synced = joined_now numbers has synced is
    sync_number (Some why) numbers is has synced = more_now (synced_by numbers) has.has_moment (synced_later numbers) (λ none. absurd (let no : Some why ≡ None = sym is ∙ none in cc))

    sync_now : (result : Result (Unit {0}) DiskFault) → IsSync told (state d) (state e) result
        → MatchResult result (λ _. (numbers : List ℕ) × HasSynced told (mirrored (state e) (line_at link m)) p (synced_by numbers)) (λ _. HasMoment told (mirrored (state e) (line_at link m)) p (failed p (state e).reads_as))
        → MatchResult result (λ _. (numbers : List ℕ) × now_is (synced_by numbers) (number_by m.lost number (length (state e).readings))) (λ _. now_is (failed p (state e).reads_as) number)
    sync_now (Ok x) is has = (has.0, sync_number m.lost has.0 refl has.1 (is.synced t))
    sync_now (Err x) is has = failed_now has

  module _ (t : told) (d e : D) (k : K) (l : Line K) (h : TookHaves told link_told (first_line (link k)) (mirrored (state e) (line_at link l)) (joining (state d).reads_as)) where
    abbrev joined_by : Primary
    joined_by = lost_by l.lost (takes_all (joining (state d).reads_as) h.numbers)

    none_before : joined_by.before ≡ []
    none_before = lost_before l.lost (takes_all (joining (state d).reads_as) h.numbers) ∙ all_before h.numbers (joining (state d).reads_as)

    first_answered : joined_by.answered ≡ 0
    first_answered = lost_answered l.lost (takes_all (joining (state d).reads_as) h.numbers) ∙ ⊎_elim (λ same. same) (λ last. last) (all_answered h.numbers (joining (state d).reads_as))

    pub joins_along : Mirrors told (mirrored (state e) (line_at link l)) joined_by (length (state e).readings)
    joins_along = record {
      moved = h.moved;
      along = λ t. along_now (state e) joined_by (disk e t).reads_last (h.moved.content t) (let none : length joined_by.before ≡ 0 = ap length none_before in omega (arith, none));
      in_step = λ t none. record {
        since = let none : length joined_by.before ≡ 0 = ap length none_before in omega (arith, first_answered, none);
        synced = (disk e t).synced_before;
      };
    }

  pub calls_keep : CallsKeepMirrors told link_told state link
  calls_keep =
      let calls = calls_moments told link_told state link in
      record {
        join = λ t d e k l h. joins_along t d e k l h;
        measured = λ t d e l result p number was is. looked t d e l p number was (is.looks t).same (is.looks t).time.on (is.no_more t);
        read = λ t d e l result at into p number was is. looked t d e l p number was (is.looks t).same (is.looks t).time.on (is.no_more t);
        write = λ t d e l m at from result p number was is small steps. write_now t d e l m p number was (is.writes t).time.on at from result is (calls.write t d e l m at from result p was.moved small steps);
        sync = λ t d e l m result p number was is few steps. sync_now t d e l m p number was (is.looks t).time.on result is (calls.sync t d e l m result p was.moved few steps);
        stays = λ t d e p number along on. stays_along (state d) (state e) p number along on;
      }

-- By its name a copy of a disk.
pub copies_read : {D : Type 0} (state : D → DiskState) → CopiesAreReadings state
copies_read state d number pair keeps along = IfSome_then (named pair.standby) {P = IsWhole pair} {Q = IsReadFrom number (state d).readings} (whole_named pair keeps)
    (λ file whole. along.moments_are whole.1.moment file whole.1.not_before (whole.1.read ∙ ap (λ (f : List ℕ). Some f) (sym whole.0)))

pub joined_current : {D : Type 0} (told : Type 0) (state : D → DiskState) → JoinedAreCurrent told state
joined_current told state t d line p number mirrors none synced =
    let along = mirrors.along t in
    let step = mirrors.in_step t none in
    record { answered = omega (arith, step.since, step.synced, along.there, synced); file = sym (mirrors.moved.content t) }

pub current_whole : {D : Type 0} (state : D → DiskState) → CurrentCopiesAreWhole state
current_whole state d pair keeps current = IfSome_then (named pair.standby) {P = IsWhole pair} {Q = λ (file : List ℕ). file ≡ (state d).reads_as} (whole_named pair keeps)
    (λ file whole.
    let p = pair.primary in
    let read : slice_get (p.before ++ p.file ∷ []) whole.1.moment ≡ Some file = whole.1.read ∙ ap (λ (f : List ℕ). Some f) (sym whole.0) in
    last_one p.before p.file file whole.1.moment read (omega (arith, current.answered, whole.1.not_before)) ∙ current.file)
