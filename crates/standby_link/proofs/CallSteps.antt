-- What a disk reads at the moments of a run of calls, and what a mirrored disk's calls are of its primary's moments.
use Rattle.std.proofs.Common.{◌≡◌, ◌⊎◌, inl, inr, ⊎_elim, ℕ, zero, suc, ◌+◌, ◌≤◌, max, Bool, true, false, not, List, [], ◌∷◌, ◌++◌, length, Option, Some, None, Result, Ok, Err, slice_get, if◌then◌else◌, refl, sym, ◌∙◌, ap, subst, arith, append_assoc}
use Rattle.std.specs.Prelude.{MatchResult}
use Rattle.std.proofs.lemmas.List.{append-nil}
use Rattle.dxc_disk.specs.declared.disk.DiskFault.{DiskFault}
use Rattle.dxc_disk.specs.Disks.{DiskState, IsDisk}
use Rattle.dxc_outside.specs.Links.{LinkState}
use Rattle.standby_link.specs.declared.line.Line.{Line}
use Rattle.dxc_outside.specs.declared.link.Lost.{Lost}
use Rattle.standby_link.specs.Acts.{write, acted, pieces}
use Rattle.standby_link.specs.Calls.{AreCalls, Call, CallsAreMoments, CallsAreOfRuns, HasMoment, HasSynced, MomentsAreLeft, RunsAreMoments, last_of, looks, moves, read_in}
use Rattle.standby_link.specs.Lines.{line_at}
use Rattle.standby_link.specs.Mirrors.{Primary, called, failed, is_awaited, joining, moments, syncing, takes}
use Rattle.standby_link.specs.Moves.{IsMoved, IsOn, MirrorState, TookHaves, lost_by, mirrored, takes_all}

pub calls_of_runs : {D : Type 0} (told : Type 0) (state : D → DiskState) → CallsAreOfRuns told state
calls_of_runs told state = record {
  measured = λ t d e result is. is.looks t;
  read = λ t d e result at into is. is.looks t;
  written = λ t d e result at from is. (is.writes t).time;
  synced = λ t d e result is. (is.looks t).time;
}

same : {A : Type 0} {x y : A} → Some x ≡ Some y → x ≡ y
same is = cc

module _ {D : Type 0} (state : D → DiskState) where
  -- what might have been left before the calls might have been left after them
  stays : (d : D) (cs : List (Call D)) → AreCalls state d cs → (t : ℕ) (file : List ℕ) → t ≤ (state d).moment → (state d).left_since t file → (state (last_of d cs)).left_since t file
  stays d [] are t file le left = left
  stays d (looks e ∷ cs) are t file le left = stays e cs are.1 t file (omega (arith, le, are.0.time.on.later)) (are.0.time.keeps t file le left)
  stays d (moves e ∷ cs) are t file le left = stays e cs are.1 t file (omega (arith, le, are.0.on.later)) (are.0.keeps t file le left)

  -- after the calls, what is read goes on from where they ended
  pub read_on : (d : D) (cs : List (Call D)) → AreCalls state d cs → (files : List (List ℕ)) (m n : ℕ) → m ≡ length (read_in state cs) + n → slice_get ((state d).reads_as ∷ (read_in state cs ++ files)) m ≡ slice_get ((state (last_of d cs)).reads_as ∷ files) n
  read_on d [] are files m n is = ap (λ (k : ℕ). slice_get ((state d).reads_as ∷ files) k) (let e : m ≡ n = omega (arith, is) in e)
  read_on d (looks e ∷ cs) are files m n is = ap (λ (f : List ℕ). slice_get (f ∷ (read_in state cs ++ files)) m) (sym are.0.same) ∙ read_on e cs are.1 files m n is
  read_on d (moves e ∷ cs) are files zero n is = absurd (let none : zero ≡ length ((state e).reads_as ∷ read_in state cs) + n = is in omega (arith, none))
  read_on d (moves e ∷ cs) are files (suc k) n is = read_on e cs are.1 files k n (let more : suc k ≡ length ((state e).reads_as ∷ read_in state cs) + n = is in omega (arith, more))

  module _ (disk : (d : D) → IsDisk (state d)) where
    left_first : (d : D) (cs : List (Call D)) → AreCalls state d cs → (t : ℕ) (file : List ℕ) → t ≤ (state d).moment → Some (state d).reads_as ≡ Some file → (state (last_of d cs)).left_since t file
    left_first d cs are t file le at = subst (λ (f : List ℕ). (state (last_of d cs)).left_since t f) (same at) (stays d cs are t (state d).reads_as le ((disk d).counts_now t (state d).reads_as le (disk d).reads_now))

    left_from : (d : D) (cs : List (Call D)) → AreCalls state d cs → (t : ℕ) → t ≤ (state d).moment → (n : ℕ) (file : List ℕ) → slice_get ((state d).reads_as ∷ read_in state cs) n ≡ Some file → (state (last_of d cs)).left_since t file
    left_from d [] are t le zero file at = left_first d [] are t file le at
    left_from d [] are t le (suc n) file at = absurd (let e : None ≡ Some file = at in cc)
    left_from d (looks e ∷ cs) are t le zero file at = left_first d (looks e ∷ cs) are t file le at
    left_from d (looks e ∷ cs) are t le (suc n) file at = left_from e cs are.1 t (omega (arith, le, are.0.time.on.later)) (suc n) file at
    left_from d (moves e ∷ cs) are t le zero file at = left_first d (moves e ∷ cs) are t file le at
    left_from d (moves e ∷ cs) are t le (suc n) file at = left_from e cs are.1 t (omega (arith, le, are.0.on.later)) n file at

    pub moment_left : (d : D) (cs : List (Call D)) → AreCalls state d cs → (n : ℕ) (file : List ℕ) → slice_get ((state d).reads_as ∷ read_in state cs) n ≡ Some file → (state (last_of d cs)).left_since (state d).moment file
    moment_left d cs are n file at = left_from d cs are (state d).moment (omega arith) n file at

pub moments_left : {D : Type 0} (told : Type 0) (state : D → DiskState) → ((d : D) → told → IsDisk (state d)) → MomentsAreLeft told state
moments_left told state disk t d cs are n file at = moment_left state (λ x. disk x t) d cs are n file at

pub runs_moments : {D : Type 0} (state : D → DiskState) → RunsAreMoments state
runs_moments state p q [] leads = leads ∙ sym (append-nil (moments p))
runs_moments state p q (looks d ∷ cs) leads = runs_moments state p q cs leads
runs_moments state p q (moves d ∷ cs) leads = runs_moments state leads.0 q cs leads.2 ∙ ap (λ (files : List (List ℕ)). files ++ read_in state cs) leads.1 ∙ append_assoc (moments p) ((state d).reads_as ∷ []) (read_in state cs)

-- its moments are these, and then what its disk reads
abbrev Ends : List (List ℕ) → Primary → Type 0
Ends files q = moments q ≡ files ++ q.file ∷ []

-- neither a loss nor a Have is a moment
ends_lost : (files : List (List ℕ)) (lost : Option Lost) (q : Primary) → Ends files q → Ends files (lost_by lost q)
ends_lost files None q is = is
ends_lost files (Some why) q is = is

ends_by : (b : Bool) (files : List (List ℕ)) (q : Primary) (n : ℕ) → Ends files q → Ends files (if b then record q { greatest = max q.greatest n; waits = false; answered = length q.before } else record q { greatest = max q.greatest n })
ends_by true files q n is = is
ends_by false files q n is = is

ends_taken : (numbers : List ℕ) (files : List (List ℕ)) (q : Primary) → Ends files q → Ends files (takes_all q numbers)
ends_taken [] files q is = is
ends_taken (n ∷ numbers) files q is = ends_taken numbers files (takes q n) (ends_by (is_awaited q n) files q n is)

-- where the disk is
ends_at : (told : Type 0) (t : MirrorState) (files : List (List ℕ)) (q : Primary) → told → IsMoved told t q → Ends files q → moments q ≡ files ++ t.disk.reads_as ∷ []
ends_at told t files q k moved is = is ∙ ap (λ (f : List ℕ). files ++ f ∷ []) (sym (moved.content k))

-- a call waits, or the last moment is the answered one
abbrev Waits : Primary → Type 0
Waits q = (q.waits ≡ true) ⊎ (q.answered ≡ length q.before)

waits_by : (b : Bool) (q : Primary) (n : ℕ) → Waits q → Waits (if b then record q { greatest = max q.greatest n; waits = false; answered = length q.before } else record q { greatest = max q.greatest n })
waits_by true q n is = inr refl
waits_by false q n is = is

waits_taken : (numbers : List ℕ) (q : Primary) → Waits q → Waits (takes_all q numbers)
waits_taken [] q is = is
waits_taken (n ∷ numbers) q is = waits_taken numbers (takes q n) (waits_by (is_awaited q n) q n is)

lost_as : (b : Bool) (q : Primary) (n : ℕ) → (if b then record q { greatest = max q.greatest n; waits = false; answered = length q.before } else record q { greatest = max q.greatest n }).lost ≡ q.lost
lost_as true q n = refl
lost_as false q n = refl

lost_taken : (numbers : List ℕ) (q : Primary) → (takes_all q numbers).lost ≡ q.lost
lost_taken [] q = refl
lost_taken (n ∷ numbers) q = lost_taken numbers (takes q n) ∙ lost_as (is_awaited q n) q n

-- so it is after a sync where the mirror is Joined
sync_answered : (lost : Option Lost) (number : ℕ) (numbers : List ℕ) (p : Primary) → IsOn lost number (lost_by lost (takes_all (syncing p) numbers)) → lost ≡ None → (lost_by lost (takes_all (syncing p) numbers)).answered ≡ length (lost_by lost (takes_all (syncing p) numbers)).before
sync_answered (Some why) number numbers p on none = absurd (let e : Some why ≡ None = none in cc)
sync_answered None number numbers p on none =
    let here : p.lost ≡ false = sym (lost_taken numbers (syncing p)) ∙ (on.joined refl).0 in ⊎_elim
    (λ waits. absurd (let e : true ≡ false = sym waits ∙ on.idle in cc))
    (λ is. is)
    (waits_taken numbers (syncing p) (inl (ap not here)))

-- the calls on a mirrored disk
module _ {D K : Type 0} (told link_told : Type 0) (state : D → DiskState) (link : K → LinkState) where
  module _ (t : told) (e : D) (m : Line K) (p : Primary) where
    abbrev now : MirrorState
    now = mirrored (state e) (line_at link m)

    abbrev then_written : ℕ → List ℕ → Primary
    then_written at from = lost_by m.lost (called p (acted p.file (write at from)) (pieces at from))

    abbrev then_synced : List ℕ → Primary
    then_synced numbers = lost_by m.lost (takes_all (syncing p) numbers)

    abbrev then_failed : Primary
    then_failed = failed p (state e).reads_as

    failed_moment : IsMoved told now then_failed → HasMoment told now p then_failed
    failed_moment moved = (moved, ends_at told now (moments p) then_failed t moved refl)

    write_moment : (at : ℕ) (from : List ℕ) (result : Result (Unit {0}) DiskFault) → MatchResult result (λ _. IsMoved told now (then_written at from)) (λ _. IsMoved told now then_failed)
        → MatchResult result (λ _. HasMoment told now p (then_written at from)) (λ _. HasMoment told now p then_failed)
    write_moment at from (Ok x) moved = (moved, ends_at told now (moments p) (then_written at from) t moved (ends_lost (moments p) m.lost (called p (acted p.file (write at from)) (pieces at from)) refl))
    write_moment at from (Err x) moved = failed_moment moved

    sync_moment : (l : Line K) (result : Result (Unit {0}) DiskFault) → MatchResult result (λ _. TookHaves told link_told (line_at link l) now (syncing p)) (λ _. IsMoved told now then_failed)
        → MatchResult result (λ _. (numbers : List ℕ) × HasSynced told now p (then_synced numbers)) (λ _. HasMoment told now p then_failed)
    sync_moment l (Ok x) took = (
      took.numbers,
      record {
        has_moment = (took.moved, ends_at told now (moments p) (then_synced took.numbers) t took.moved (ends_lost (moments p) m.lost (takes_all (syncing p) took.numbers) (ends_taken took.numbers (moments p) (syncing p) refl)));
        answered = λ none. sync_answered m.lost m.number took.numbers p took.moved.on none;
      },
    )
    sync_moment l (Err x) moved = failed_moment moved

  pub calls_moments : CallsAreMoments told link_told state link
  calls_moments = record {
    join = λ t d e k l took. ends_at told (mirrored (state e) (line_at link l)) [] (lost_by l.lost (takes_all (joining (state d).reads_as) took.numbers)) t took.moved
        (ends_lost [] l.lost (takes_all (joining (state d).reads_as) took.numbers) (ends_taken took.numbers [] (joining (state d).reads_as) refl));
    write = λ t d e l m at from result p moved small steps. write_moment t e m p at from result (steps p moved small);
    sync = λ t d e l m result p moved small steps. sync_moment t e m p l result (steps p moved small);
  }
