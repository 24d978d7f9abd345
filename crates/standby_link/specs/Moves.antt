-- What a mirrored disk's calls are of a primary and its standby.
use Rattle.std.specs.Prelude.{◌≡◌, ◌≢◌, ◌⊎◌, ℕ, ◌+◌, ◌^◌, ◌<◌, true, false, List, [], ◌∷◌, ◌++◌, length, Option, Some, None, IsSome, Result, MatchResult, OnOk, OnErr}
use Rattle.dxc_causes.specs.Causes.{Rose}
use Rattle.dxc_disk.specs.Disks.{DiskState, Piece}
use Rattle.dxc_outside.specs.Items.{Item as LinkItem}
use Rattle.dxc_outside.specs.Links.{LinkState, Wrote}
use Rattle.dxc_outside.specs.declared.link.Lost.{Lost}
use Rattle.dxc_outside.specs.declared.link.Lost.TheVariants.{Link, Disk}
use Rattle.standby_link.specs.declared.mirror.Mirror.{Mirror}
use Rattle.standby_link.specs.declared.mirror.Mirror.TheVariants.{Joined, Lost as Gone}
use Rattle.standby_link.specs.Acts.{write, acted, pieces}
use Rattle.standby_link.specs.Listens.{AllBelow}
use Rattle.standby_link.specs.Lines.{LineState, Sends, Syncs}
use Rattle.standby_link.specs.Messages.{haves, spelled_all, numbered}
use Rattle.standby_link.specs.Mirrors.{Primary, called, syncing, failed, lose, takes}
use Rattle.standby_link.specs.Serves.{bytes_in}

-- a line, before and after a call; there is none before where there is none after
abbrev pub Both : {A : Type 0} → Option A → Option A → (A → A → Type 0) → Type 0
Both None None P = Unit {0}
Both None (Some y) P = ⊥
Both (Some x) None P = ⊥
Both (Some x) (Some y) P = P x y

-- how a disk stands to its standby, by what lost the line
abbrev pub mirror_of : Option Lost → Mirror
mirror_of None = Joined
mirror_of (Some why) = Gone why

-- a line is at this state of a primary
pub record IsOn (lost : Option Lost) (number : ℕ) (p : Primary) : Type 0 where
  pub joined : lost ≡ None → (p.lost ≡ false) × (number ≡ length p.acts)
  pub gone : IsSome lost → p.lost ≡ true
  pub idle : p.waits ≡ false

-- so is its disk
pub record Moved (told : Type 0) (disk : DiskState) (lost : Option Lost) (number : ℕ) (p : Primary) : Type 0 where
  pub on : IsOn lost number p
  pub content : told → disk.reads_as ≡ p.file

-- a primary whose line may have been lost in this call
abbrev pub lost_by : Option Lost → Primary → Primary
lost_by None p = p
lost_by (Some why) p = lose p

abbrev pub takes_all : Primary → List ℕ → Primary
takes_all p [] = p
takes_all p (n ∷ numbers) = takes_all (takes p n) numbers

-- neither an item's number nor a place passes what a message can say
abbrev pub IsSmall : ℕ → ℕ → List ℕ → Type 0
IsSmall number at from = (number + length (pieces at from) < 2 ^ 64) × (at + length from < 2 ^ 64)

-- what a line does for a write that was made, or failed
pub record TellsWrite {T E : Type 0} (told : Type 0) (l m : LineState) (from : Piece) (result : Result T E) : Type 0 where
  pub gone : IsSome l.lost → (m.lost ≡ l.lost) × (m.link ≡ l.link)
  pub sends : l.lost ≡ None → IsSmall l.number from.at from.bytes → OnOk result (Sends told l m (pieces from.at from.bytes))
  -- nothing was read
  pub held : m.held ≡ l.held
  pub failing : l.lost ≡ None → OnErr result ((m.lost ≡ Some Disk) × (m.link ≡ l.link))

-- what a read of a hung up link took
pub record LinkTook (told : Type 0) (k k' : LinkState) : Type 0 where
  pub came : List LinkItem
  pub left : told → k.left ≡ came ++ k'.left

-- What it does for a sync. A line that was lost, and is still lost, read its link once, in vain.
pub record TellsSync {T E : Type 0} (told : Type 0) (l m : LineState) (result : Result T E) : Type 0 where
  pub gone : IsSome l.lost → m.lost ≡ l.lost
  pub vain : IsSome l.lost → LinkTook told l.link m.link
  pub syncs : l.lost ≡ None → l.number + 1 < 2 ^ 64 → OnOk result (Syncs told l m)
  pub failing : l.lost ≡ None → OnErr result ((m.lost ≡ Some Disk) × (m.link ≡ l.link))

-- a disk with a line to its standby
pub record MirrorState : Type 1 where
  pub disk : DiskState
  pub line : LineState

abbrev pub mirrored : DiskState → LineState → MirrorState
mirrored disk line = record { disk = disk; line = line }

-- a line over which nothing was sent yet
abbrev pub first_line : LinkState → LineState
first_line link = record { link = link; number = 0; held = []; lost = None }

-- it is at this state of a primary
abbrev pub IsMoved : (told : Type 0) → MirrorState → Primary → Type 0
IsMoved told s p = Moved told s.disk s.line.lost s.line.number p

-- a write is a step of the primary: the disk's, with the loss of the line where it came in this call
abbrev pub StepsByWrite : {T E : Type 0} → (told : Type 0) (s t : MirrorState) (from : Piece) → Result T E → Type 0
StepsByWrite told s t from result = (p : Primary) → IsMoved told s p → IsSmall s.line.number from.at from.bytes → MatchResult result
    (λ _. IsMoved told t (lost_by t.line.lost (called p (acted p.file (write from.at from.bytes)) (pieces from.at from.bytes))))
    (λ _. IsMoved told t (failed p t.disk.reads_as))

-- the Haves that came over the link in a call
pub record Took (told : Type 0) (k k' : LinkState) (part rest numbers : List ℕ) : Type 0 where
  pub came : List LinkItem
  pub spells : part ++ bytes_in came ≡ haves numbers ++ rest
  pub small : AllBelow (2 ^ 64) numbers
  pub left : told → k.left ≡ came ++ k'.left

-- A primary whose Sync was sent over the line takes the Haves that came, and is then where line and disk are.
pub record TookHaves (told link_told : Type 0) (l : LineState) (t : MirrorState) (p : Primary) : Type 0 where
  pub numbers : List ℕ
  pub rest : List ℕ
  pub took : Took link_told l.link t.line.link l.held rest numbers
  pub moved : IsMoved told t (lost_by t.line.lost (takes_all p numbers))

-- a sync is a step of the primary, which then takes the Haves that came
abbrev pub StepsBySync : {T E : Type 0} → (told link_told : Type 0) (s t : MirrorState) → Result T E → Type 0
StepsBySync told link_told s t result = (p : Primary) → IsMoved told s p → s.line.number + 1 < 2 ^ 64 → MatchResult result
    (λ _. TookHaves told link_told s.line t (syncing p))
    (λ _. IsMoved told t (failed p t.disk.reads_as))

-- A file was sent in Writes, whole, or as far as the link took it or the disk gave it.
pub record SendsFile (told : Type 0) (d d' : DiskState) (k : LinkState) (m : LineState) : Type 0 where
  pub sent : List ℕ
  pub unsent : List ℕ
  pub split : spelled_all (numbered 0 (pieces 0 d.reads_as)) ≡ sent ++ unsent
  pub wrote : Wrote told k m.link sent
  pub whole : m.lost ≡ None → (unsent ≡ []) × (m.number ≡ length (pieces 0 d.reads_as))
  pub cause : IsSome m.lost → ((m.lost ≡ Some Link) × Rose k.write_faults m.link.write_faults) ⊎ ((m.lost ≡ Some Disk) × Rose d.faults d'.faults)
  -- a write that failed loses the line
  pub no_fault : m.lost ≢ Some Link → m.link.write_faults ≡ k.write_faults

-- A joining: the file is sent, and then a sync, whose Have it waits for.
pub record Joins (told link_told : Type 0) (d d' : DiskState) (k : LinkState) (m : LineState) : Type 0 where
  pub mid : LineState
  pub sends : told → IsSmall 0 0 d.reads_as → SendsFile link_told d d' k mid
  pub none : mid.held ≡ []
  pub syncs : mid.lost ≡ None → mid.number + 1 < 2 ^ 64 → Syncs link_told mid m
  pub gone : IsSome mid.lost → (m.lost ≡ mid.lost) × (m.link ≡ mid.link)
