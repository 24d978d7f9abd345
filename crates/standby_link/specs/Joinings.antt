-- A mirrored disk whose line was lost, and which joins whoever stands by anew.
use Rattle.std.specs.Prelude.{◌≡◌, ◌⊎◌, ◌+◌, ◌^◌, ◌<◌, length, None, IsSome, Result, OnOk, IsOk}
use Rattle.dxc_disk.specs.declared.disk.Disk.{Ghosts as DiskOf}
use Rattle.dxc_disk.specs.Disks.{DiskState, Looks}
use Rattle.dxc_outside.specs.declared.link.Link.{Ghosts as LinkOf}
use Rattle.standby_link.specs.declared.line.Line.{Line}
use Rattle.standby_link.specs.Acts.{pieces}
use Rattle.standby_link.specs.Fronts.{IsWhole, Known}
use Rattle.standby_link.specs.Lines.{BeginsAnew, IsHungUp, LineState, StaysLost, Syncs, line_at}
use Rattle.standby_link.specs.Mirrors.{joining}
use Rattle.standby_link.specs.Moves.{IsSmall, Joins, StepsBySync, TellsSync, TookHaves, first_line, mirrored}

-- the ghost members of a disk and of the link to its standby
pub record Means (D K : Type 0) : Type 1 where
  pub disk : DiskOf D
  pub link : LinkOf K

abbrev pub over : {D K : Type 0} → DiskOf D → LinkOf K → Means D K
over d k = record { disk = d; link = k }

module _ {D K : Type 0} (w : Means D K) where
  abbrev pub at : Line K → LineState
  at = line_at w.link.state

  abbrev pub state : Known D → DiskState
  state k = w.disk.state k.disk

  -- the file was sent over a link, as the disk read it, and a sync, whose Have was waited for: it is a line now
  abbrev pub JoinsFrom : (d e : D) (k : K) (m : Line K) → Type 0
  JoinsFrom d e k m = Joins w.disk.told w.link.told (w.disk.state d) (w.disk.state e) (w.link.state k) (at m)

  -- over that of a new line
  abbrev pub JoinsOver : (d e : D) (l m : Line K) → Type 0
  JoinsOver d e l m = JoinsFrom d e l.link m

  -- A joining of whoever is at the other end of a new line: the file was sent, and a sync, and its Have waited for. The disk isn't called.
  pub record IsJoining (k : Known D) (l m : Line K) : Type 0 where
    pub joins : JoinsOver k.disk k.disk l m
    pub step : w.disk.told → IsSmall 0 0 (state k).reads_as → length (pieces 0 (state k).reads_as) + 1 < 2 ^ 64
        → TookHaves w.disk.told w.link.told (first_line (w.link.state l.link)) (mirrored (state k) (at m)) (joining (state k).reads_as)
    pub hung_up : IsHungUp None m.lost (w.link.hung_up l.link) (w.link.hung_up m.link)

  -- The line was lost before, and somebody stood by anew, who was joined on what the disk reads.
  pub record Rejoins (k : Known D) (l m : Line K) : Type 0 where
    pub lost : IsSome l.lost
    pub new_line : Line K
    pub anew : BeginsAnew w.link.told w.link.begun w.link.state l new_line
    pub joining : IsJoining k new_line m

  -- A sync was told over the line. Or the line was lost, and stays so: nobody stands by; or the file isn't known, and nobody is asked.
  pub record Continues (k : Known D) (l m : Line K) : Type 0 where
    pub syncs : l.lost ≡ None → l.number + 1 < 2 ^ 64 → Syncs w.link.told (at l) (at m)
    pub stays : IsSome l.lost → (IsWhole k × StaysLost w.link.told w.link.begun w.link.state l m) ⊎ ((IsWhole k → ⊥) × (m ≡ l))
    pub hung_up : IsHungUp l.lost m.lost (w.link.hung_up l.link) (w.link.hung_up m.link)

  -- what came after a sync that the disk made
  abbrev pub TellsOrJoins : Known D → (l m : Line K) → Type 0
  TellsOrJoins k l m = Continues k l m ⊎ Rejoins k l m

  -- A sync that a line was told of, or that failed, as a step of the primary.
  pub record SyncsTold {T E : Type 0} (j k : Known D) (l m : Line K) (result : Result T E) : Type 0 where
    pub tells : TellsSync w.link.told (at l) (at m) result
    pub steps : StepsBySync w.disk.told w.link.told (mirrored (state j) (at l)) (mirrored (state k) (at m)) result
    pub hung_up : IsHungUp l.lost m.lost (w.link.hung_up l.link) (w.link.hung_up m.link)
    pub continues : OnOk result (Continues k l m)

  -- A sync that was made, after which somebody was joined who stood by anew.
  pub record SyncsAnew (j k : Known D) (l m : Line K) : Type 0 where
    pub looks : w.disk.told → Looks (state j) (state k)
    pub rejoins : Rejoins k l m

  -- a sync of a disk with a line
  abbrev pub SyncsOn : {T E : Type 0} (x y : Known D × Line K) → Result T E → Type 0
  SyncsOn x y result = SyncsTold x.0 y.0 x.1 y.1 result ⊎ (IsOk result × SyncsAnew x.0 y.0 x.1 y.1)
