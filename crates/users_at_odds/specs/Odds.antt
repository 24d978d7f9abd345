-- Whom a refused record of the users' journal is about.
use Rattle.std.specs.Prelude.{◌≡◌, ◌⊎◌, ◌≤◌, ◌<◌, ◌++◌, ◌∷◌, [], ℕ, List, Option, Some, codes, drop, get_or, length, slice_index, take}
use Rattle.dxc_args.specs.declared.status.JournalBad.TheVariants.{UsersRecord}
use Rattle.dxc_args.specs.declared.status.Status.{Status}
use Rattle.dxc_args.specs.declared.status.Status.TheVariants.{BadJournal}
use Rattle.dxc_causes.specs.Causes.{Rose}
use Rattle.dxc_disk.specs.Disks.{DiskState}
use Rattle.dxc_num.specs.Dimensions.{Dimensions}
use Rattle.dxc_outside.specs.Asked.{Asking, journal_named, shelf_named}
use Rattle.dxc_outside.specs.Openings.{IsShelfPart, OpenerState}
use Rattle.journal_core.specs.declared.half.Half.{Half}
use Rattle.journal_core.specs.declared.head.Head.{Head}
use Rattle.journal_core.specs.Books.{padding}
use Rattle.journal_core.specs.Headers.{IsCurrent, IsNew, Stands}
use Rattle.shelf_file.specs.Contents.{Contents, IsShelf}

-- the name of the users' journal beside a journal of this name
abbrev pub users_name : List ℕ → List ℕ
users_name journal = journal ++ codes ".users"

-- the name in a record of a user: its length stands before it
abbrev pub name_in : List ℕ → List ℕ
name_in bytes = take (slice_index bytes 3) (drop 4 bytes)

-- the most bytes of a name
abbrev pub most_bytes : ℕ
most_bytes = 10

-- what is asked for, by the words after the mode
abbrev pub odds_asked : List (List ℕ) → List Asking
odds_asked [] = []
odds_asked (mode ∷ []) = []
odds_asked (mode ∷ shelf ∷ []) = []
odds_asked (mode ∷ shelf ∷ journal ∷ rest) = shelf_named shelf ∷ journal_named (users_name journal) ∷ []

-- the file stands for a journal of this shape, whose record of that number has these bytes
pub record IsRecordOf (shape : Dimensions) (file : List ℕ) (number : ℕ) (bytes : List ℕ) : Type 0 where
  pub head : Head
  pub records : List (List ℕ)
  pub stands : Stands shape head records file
  pub within : number < length records
  pub is : bytes ≡ get_or records number [] ++ padding head.version

-- the name stands in the record of that number, where the disk tells what it holds
pub record HasName (told : Type 0) (shape : Dimensions) (disk : DiskState) (number : ℕ) (name : List ℕ) : Type 0 where
  pub bytes : List ℕ
  pub record_is : told → IsRecordOf shape disk.reads_as number bytes
  pub name_is : name ≡ name_in bytes

-- whether opener and disk tell what they hold, and what the opener holds: shelf files, and disks by name
pub record Held (D : Type 0) : Type 1 where
  pub opener_told : Type 0
  pub disk_told : Type 0
  pub disk : D → DiskState
  pub opener : OpenerState
  pub journal_at : List ℕ → Option D

abbrev pub held : {D : Type 0} → (opener_told disk_told : Type 0) → (D → DiskState) → OpenerState → (List ℕ → Option D) → Held D
held opener_told disk_told disk opener at = record { opener_told = opener_told; disk_told = disk_told; disk = disk; opener = opener; journal_at = at }

-- the shelf that the file of that name describes
pub record HasShelf {D : Type 0} (h : Held D) (name : List ℕ) (contents : Contents) : Type 0 where
  pub file : List ℕ
  pub file_is : h.opener_told → IsShelfPart h.opener name file
  pub described : IsShelf file contents

-- the name stands in the record of that number of the journal beside the one of that name, of that shelf's shape
pub record IsUserOf {D : Type 0} (h : Held D) (shelf journal : List ℕ) (number : ℕ) (name : List ℕ) : Type 0 where
  pub contents : Contents
  pub described : HasShelf h shelf contents
  pub disk : D
  pub handed : h.opener_told → h.journal_at (users_name journal) ≡ Some disk
  pub named : HasName h.disk_told contents.shape (h.disk disk) number name

-- the program refused a record of the users' journal, and the name stands in that very record, by the files that the words name
pub record IsAtOdds {D : Type 0} (h : Held D) (words : List (List ℕ)) (status : Status) (name : List ℕ) : Type 0 where
  pub number : ℕ
  pub refused : status ≡ BadJournal (UsersRecord number)
  pub mode : List ℕ
  pub shelf : List ℕ
  pub journal : List ℕ
  pub rest : List (List ℕ)
  pub words_are : words ≡ mode ∷ shelf ∷ journal ∷ rest
  pub user : IsUserOf h shelf journal number name

module _ {D : Type 0} (told : Type 0) (state : D → DiskState) (shape : Dimensions) (disk : D) where
  -- the file isn't new, and no area of it is current
  pub record IsRefused : Type 0 where
    pub old : IsNew (state disk).reads_as → ⊥
    pub bad : (half : Half) (head : Head) → IsCurrent shape half head (state disk).reads_as → ⊥

  -- the file stands for fewer records
  pub record HasFewer (number : ℕ) : Type 0 where
    pub head : Head
    pub records : List (List ℕ)
    pub stands : Stands shape head records (state disk).reads_as
    pub fewer : length records ≤ number

  -- the record of that number has no name: what stands before it is more than the length of one
  pub record HasNoName (number : ℕ) : Type 0 where
    pub bytes : List ℕ
    pub record_is : told → IsRecordOf shape (state disk).reads_as number bytes
    pub longer : most_bytes < slice_index bytes 3

  -- Why no name is read: a call of the disk failed, its file is refused, it has no such record where it isn't new, or the record has no name.
  abbrev pub IsUnnamed : ℕ → Type 0
  IsUnnamed number = ((later : D) × Rose (state disk).faults (state later).faults)
      ⊎ ((told → IsRefused) ⊎ ((told → (IsNew (state disk).reads_as → ⊥) → HasFewer number) ⊎ HasNoName number))

-- what was done by an opener: what it was asked for, and what it would hand out at the end
pub record Done (D : Type 0) : Type 1 where
  pub asked : List Asking → Type 0
  pub journal_at : List ℕ → Option D

abbrev pub done : {D : Type 0} → (List Asking → Type 0) → (List ℕ → Option D) → Done D
done asked at = record { asked = asked; journal_at = at }

-- the disk of that name was handed out, and no name was read of it, by the shelf
pub record WasUnnamed {D : Type 0} (h : Held D) (shelf journal : List ℕ) (number : ℕ) : Type 0 where
  pub contents : Contents
  pub described : HasShelf h shelf contents
  pub disk : D
  pub handed : h.opener_told → h.journal_at (users_name journal) ≡ Some disk
  pub unnamed : IsUnnamed h.disk_told h.disk contents.shape disk number

-- Why there is no name: nothing was asked for but the shelf file, or the journal wasn't handed out, or no name was read of it.
abbrev pub NoUser : {D : Type 0} → Held D → Done D → (shelf journal : List ℕ) → ℕ → Type 0
NoUser h d shelf journal number = d.asked (shelf_named shelf ∷ [])
    ⊎ (d.asked (shelf_named shelf ∷ journal_named (users_name journal) ∷ [])
    × ((h.opener_told → d.journal_at (users_name journal) ≡ h.journal_at (users_name journal)) ⊎ WasUnnamed h shelf journal number))

-- Where the program refused that record, and the words name the files, this is why.
abbrev pub NotAtOdds : {D : Type 0} → Held D → Done D → List (List ℕ) → Status → Type 0
NotAtOdds h d words status = (number : ℕ) (mode shelf journal : List ℕ) (rest : List (List ℕ)) → status ≡ BadJournal (UsersRecord number) → words ≡ mode ∷ shelf ∷ journal ∷ rest → NoUser h d shelf journal number
