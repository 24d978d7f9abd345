-- What a primary's moments are of its disk's readings, and so what a standby's file is of them.
use Rattle.std.specs.Prelude.{◌≡◌, ℕ, ◌+◌, ◌^◌, ◌≤◌, ◌<◌, List, length, Option, Some, None, IfSome, slice_get, Result, MatchResult}
use Rattle.dxc_disk.specs.declared.disk.DiskFault.{DiskFault}
use Rattle.dxc_disk.specs.Disks.{DiskState, GoesOn, IsLength, IsRead, IsSync, IsSynced, IsWrite, Reading, bytes_at, files}
use Rattle.dxc_outside.specs.Links.{LinkState}
use Rattle.dxc_outside.specs.declared.link.Lost.{Lost}
use Rattle.standby_link.specs.declared.line.Line.{Line}
use Rattle.standby_link.specs.Acts.{write as put, acted, pieces}
use Rattle.standby_link.specs.Laws.{KeepsUp, named}
use Rattle.standby_link.specs.Lines.{LineState, line_at}
use Rattle.standby_link.specs.Mirrors.{Pair, Primary, called, failed, joining, moments, syncing}
use Rattle.standby_link.specs.Moves.{IsMoved, IsSmall, MirrorState, StepsBySync, StepsByWrite, TookHaves, first_line, lost_by, mirrored, takes_all}

-- A file that a disk read, in the reading of this number or in a later one; the first has number 1.
pub record IsReadFrom (number : ℕ) (readings : List Reading) (file : List ℕ) : Type 0 where
  pub place : ℕ
  pub late : number ≤ place + 1
  pub is : slice_get (files readings) place ≡ Some file

-- What the primary read from the last sync on that it answered while Joined, or from the joining on, its disk read in the reading of this number and in later ones.
pub record ReadsAlong (disk : DiskState) (p : Primary) (number : ℕ) : Type 0 where
  pub there : number ≤ length disk.readings
  pub moments_are : (moment : ℕ) (file : List ℕ) → p.answered ≤ moment → slice_get (moments p) moment ≡ Some file → IsReadFrom number disk.readings file

-- The disk had one reading for each moment since, and made no sync since.
pub record IsInStep (disk : DiskState) (p : Primary) (number : ℕ) : Type 0 where
  pub since : p.answered + length disk.readings ≡ number + length p.before
  pub synced : disk.synced ≤ number

-- A mirrored disk is at this primary, and had so many readings at the last sync that was answered while Joined, or at the joining.
pub record Mirrors (told : Type 0) (t : MirrorState) (p : Primary) (number : ℕ) : Type 0 where
  pub moved : IsMoved told t p
  pub along : told → ReadsAlong t.disk p number
  pub in_step : told → t.line.lost ≡ None → IsInStep t.disk p number

-- the number after a sync: that of its reading where the mirror is Joined, else the one before
abbrev pub number_by : Option Lost → (before now : ℕ) → ℕ
number_by None before now = now
number_by (Some why) before now = before

-- What the clauses of a mirrored disk's calls say keeps it so, whatever it is at.
pub record CallsKeepMirrors {D K : Type 0} (told link_told : Type 0) (state : D → DiskState) (link : K → LinkState) : Type 0 where
  -- a joining makes it so, the first one and that of whoever stands by anew
  pub join : told → (d e : D) (k : K) (l : Line K)
      → (h : TookHaves told link_told (first_line (link k)) (mirrored (state e) (line_at link l)) (joining (state d).reads_as))
      → Mirrors told (mirrored (state e) (line_at link l)) (lost_by l.lost (takes_all (joining (state d).reads_as) h.numbers)) (length (state e).readings)
  pub measured : told → (d e : D) (l : Line K) (result : Result ℕ DiskFault) (p : Primary) (number : ℕ) → Mirrors told (mirrored (state d) (line_at link l)) p number
      → IsLength told (state d) (state e) result → Mirrors told (mirrored (state e) (line_at link l)) p number
  pub read : told → (d e : D) (l : Line K) (result : Result (Unit {0}) DiskFault) (at : ℕ) (into : List ℕ) (p : Primary) (number : ℕ) → Mirrors told (mirrored (state d) (line_at link l)) p number
      → IsRead told (state d) (state e) result (bytes_at at into) → Mirrors told (mirrored (state e) (line_at link l)) p number
  pub write : told → (d e : D) (l m : Line K) (at : ℕ) (from : List ℕ) (result : Result (Unit {0}) DiskFault) (p : Primary) (number : ℕ) → Mirrors told (mirrored (state d) (line_at link l)) p number
      → IsWrite told (state d) (state e) result (bytes_at at from) → IsSmall l.number at from
      → StepsByWrite told (mirrored (state d) (line_at link l)) (mirrored (state e) (line_at link m)) (bytes_at at from) result
      → MatchResult result
      (λ _. Mirrors told (mirrored (state e) (line_at link m)) (lost_by m.lost (called p (acted p.file (put at from)) (pieces at from))) number)
      (λ _. Mirrors told (mirrored (state e) (line_at link m)) (failed p (state e).reads_as) number)
  pub sync : told → (d e : D) (l m : Line K) (result : Result (Unit {0}) DiskFault) (p : Primary) (number : ℕ) → Mirrors told (mirrored (state d) (line_at link l)) p number
      → IsSync told (state d) (state e) result → l.number + 1 < 2 ^ 64
      → StepsBySync told link_told (mirrored (state d) (line_at link l)) (mirrored (state e) (line_at link m)) result
      → MatchResult result
      (λ _. (numbers : List ℕ) × Mirrors told (mirrored (state e) (line_at link m)) (lost_by m.lost (takes_all (syncing p) numbers)) (number_by m.lost number (length (state e).readings)))
      (λ _. Mirrors told (mirrored (state e) (line_at link m)) (failed p (state e).reads_as) number)
  -- whoever was joined before stays one whom the disk read along with, whatever is done to it
  pub stays : told → (d e : D) (p : Primary) (number : ℕ) → ReadsAlong (state d) p number → GoesOn (state d) (state e) → ReadsAlong (state e) p number

-- Whatever messages came, by its name a standby's copy of a disk is no file, or one that the disk read in the reading of that number or in a later one.
abbrev pub CopiesAreReadings : {D : Type 0} → (D → DiskState) → Type 0
CopiesAreReadings {D} state = (d : D) (number : ℕ) (pair : Pair) → (0 < pair.standby.synced → KeepsUp pair) → ReadsAlong (state d) pair.primary number
    → IfSome (named pair.standby) (IsReadFrom number (state d).readings)

-- No call came after the last sync that the primary answered while Joined, and the disk reads what it does.
pub record IsCurrent (disk : DiskState) (p : Primary) : Type 0 where
  pub answered : p.answered ≡ length p.before
  pub file : p.file ≡ disk.reads_as

-- So it is where the mirror is Joined, and the last that the disk did to its bytes is a sync.
abbrev pub JoinedAreCurrent : {D : Type 0} → Type 0 → (D → DiskState) → Type 0
JoinedAreCurrent {D} told state = told → (d : D) (line : LineState) (p : Primary) (number : ℕ) → Mirrors told (mirrored (state d) line) p number → line.lost ≡ None → IsSynced (state d)
    → IsCurrent (state d) p

-- By its name a standby's copy is then no file, or what the disk reads.
abbrev pub CurrentCopiesAreWhole : {D : Type 0} → (D → DiskState) → Type 0
CurrentCopiesAreWhole {D} state = (d : D) (pair : Pair) → (0 < pair.standby.synced → KeepsUp pair) → IsCurrent (state d) pair.primary
    → IfSome (named pair.standby) (λ file. file ≡ (state d).reads_as)
