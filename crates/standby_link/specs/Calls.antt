-- Calls on a disk one after the other, and the moments that they are of a standby's primary.
use Rattle.std.specs.Prelude.{◌≡◌, ℕ, ◌+◌, ◌^◌, ◌<◌, List, [], ◌∷◌, ◌++◌, length, Some, None, slice_get, Result, MatchResult}
use Rattle.dxc_disk.specs.declared.disk.DiskFault.{DiskFault}
use Rattle.dxc_disk.specs.Disks.{DiskState, Elapses, IsLength, IsRead, IsSync, IsWrite, Looks, bytes_at}
use Rattle.dxc_outside.specs.Links.{LinkState}
use Rattle.standby_link.specs.declared.line.Line.{Line}
use Rattle.standby_link.specs.Acts.{write as put, acted, pieces}
use Rattle.standby_link.specs.Lines.{line_at}
use Rattle.standby_link.specs.Mirrors.{Primary, called, failed, joining, moments, syncing}
use Rattle.standby_link.specs.Moves.{IsMoved, IsSmall, MirrorState, StepsBySync, StepsByWrite, TookHaves, first_line, lost_by, mirrored, takes_all}

-- a call on a disk, with the disk after it
pub data Call (D : Type 0) : Type 0 where
  -- the length, or a read: a mirror tells nothing of it
  looks : D → Call D
  -- a write or a sync, made or failed
  moves : D → Call D

abbrev pub behind : {D : Type 0} → Call D → D
behind (looks d) = d
behind (moves d) = d

-- the disk after all of them
abbrev pub last_of : {D : Type 0} → D → List (Call D) → D
last_of d [] = d
last_of d (c ∷ cs) = last_of (behind c) cs

abbrev pub IsCall : {D : Type 0} → (D → DiskState) → D → Call D → Type 0
IsCall state d (looks e) = Looks (state d) (state e)
IsCall state d (moves e) = Elapses (state d) (state e)

-- each of them was made on the disk that the one before left
abbrev pub AreCalls : {D : Type 0} → (D → DiskState) → D → List (Call D) → Type 0
AreCalls state d [] = Unit {0}
AreCalls state d (c ∷ cs) = IsCall state d c × AreCalls state (behind c) cs

-- what the disk read after each write and each sync
abbrev pub read_in : {D : Type 0} → (D → DiskState) → List (Call D) → List (List ℕ)
read_in state [] = []
read_in state (looks d ∷ cs) = read_in state cs
read_in state (moves d ∷ cs) = (state d).reads_as ∷ read_in state cs

-- what a disk's trait says of a call makes it one of these
pub record CallsAreOfRuns {D : Type 0} (told : Type 0) (state : D → DiskState) : Type 0 where
  pub measured : told → (d e : D) (result : Result ℕ DiskFault) → IsLength told (state d) (state e) result → IsCall state d (looks e)
  pub read : told → (d e : D) (result : Result (Unit {0}) DiskFault) (at : ℕ) (into : List ℕ) → IsRead told (state d) (state e) result (bytes_at at into) → IsCall state d (looks e)
  pub written : told → (d e : D) (result : Result (Unit {0}) DiskFault) (at : ℕ) (from : List ℕ) → IsWrite told (state d) (state e) result (bytes_at at from) → IsCall state d (moves e)
  pub synced : told → (d e : D) (result : Result (Unit {0}) DiskFault) → IsSync told (state d) (state e) result → IsCall state d (moves e)

-- What the disk read before such calls or at a moment of them, a crash since then might have left.
abbrev pub MomentsAreLeft : {D : Type 0} → Type 0 → (D → DiskState) → Type 0
MomentsAreLeft {D} told state = told → (d : D) (cs : List (Call D)) → AreCalls state d cs → (n : ℕ) (file : List ℕ) → slice_get ((state d).reads_as ∷ read_in state cs) n ≡ Some file → (state (last_of d cs)).left_since (state d).moment file

-- a primary becomes another one by such calls: it has a moment more for each write and each sync, at which it read as the disk did
abbrev pub Leads : {D : Type 0} → (D → DiskState) → Primary → List (Call D) → Primary → Type 0
Leads state p [] q = moments q ≡ moments p
Leads state p (looks d ∷ cs) q = Leads state p cs q
Leads state p (moves d ∷ cs) q = (r : Primary) × (moments r ≡ moments p ++ (state d).reads_as ∷ []) × Leads state r cs q

-- then its moments are those from before, and what the disk read in the calls
abbrev pub RunsAreMoments : {D : Type 0} → (D → DiskState) → Type 0
RunsAreMoments {D} state = (p q : Primary) (cs : List (Call D)) → Leads state p cs q → moments q ≡ moments p ++ read_in state cs

-- a primary where the mirrored disk is, with a moment more than the one before, at which it read as that disk does
abbrev pub HasMoment : (told : Type 0) → MirrorState → (before now : Primary) → Type 0
HasMoment told t p q = IsMoved told t q × (moments q ≡ moments p ++ t.disk.reads_as ∷ [])

-- so has one that synced; and that moment is that of the last sync that was answered while Joined, where the mirror is Joined still
pub record HasSynced (told : Type 0) (t : MirrorState) (p q : Primary) : Type 0 where
  pub has_moment : HasMoment told t p q
  pub answered : t.line.lost ≡ None → q.answered ≡ length q.before

-- What a mirrored disk's calls say makes each write and each sync a moment of its primary, after the joining's.
pub record CallsAreMoments {D K : Type 0} (told link_told : Type 0) (state : D → DiskState) (link : K → LinkState) : Type 0 where
  pub join : told → (d e : D) (k : K) (l : Line K)
      → (h : TookHaves told link_told (first_line (link k)) (mirrored (state e) (line_at link l)) (joining (state d).reads_as))
      → moments (lost_by l.lost (takes_all (joining (state d).reads_as) h.numbers)) ≡ (state e).reads_as ∷ []
  pub write : told → (d e : D) (l m : Line K) (at : ℕ) (from : List ℕ) (result : Result (Unit {0}) DiskFault) (p : Primary) → IsMoved told (mirrored (state d) (line_at link l)) p → IsSmall l.number at from
      → StepsByWrite told (mirrored (state d) (line_at link l)) (mirrored (state e) (line_at link m)) (bytes_at at from) result
      → MatchResult result
      (λ _. HasMoment told (mirrored (state e) (line_at link m)) p (lost_by m.lost (called p (acted p.file (put at from)) (pieces at from))))
      (λ _. HasMoment told (mirrored (state e) (line_at link m)) p (failed p (state e).reads_as))
  pub sync : told → (d e : D) (l m : Line K) (result : Result (Unit {0}) DiskFault) (p : Primary) → IsMoved told (mirrored (state d) (line_at link l)) p → l.number + 1 < 2 ^ 64
      → StepsBySync told link_told (mirrored (state d) (line_at link l)) (mirrored (state e) (line_at link m)) result
      → MatchResult result
      (λ _. (numbers : List ℕ) × HasSynced told (mirrored (state e) (line_at link m)) p (lost_by m.lost (takes_all (syncing p) numbers)))
      (λ _. HasMoment told (mirrored (state e) (line_at link m)) p (failed p (state e).reads_as))
