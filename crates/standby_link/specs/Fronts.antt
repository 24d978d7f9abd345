-- What is known of a disk's file without a call.
use Rattle.std.specs.Prelude.{◌≡◌, ℕ, ◌≤◌, ◌<◌, List, length, take, Result}
use Rattle.dxc_causes.specs.Causes.{last}
use Rattle.dxc_disk.specs.declared.disk.Disk.{Ghosts as DiskOf}
use Rattle.dxc_disk.specs.Disks.{DiskState, IsRead, IsWrite, Piece}

-- A disk, the front of its file as far as calls showed it, and a length that the file doesn't pass, if any is known.
pub record Known (D : Type 0) : Type 0 where
  pub disk : D
  pub front : List ℕ
  -- the last value where none is known
  pub most : ℕ

-- the file begins with that front, and isn't longer
pub record IsKnown (s : DiskState) (front : List ℕ) (most : ℕ) : Type 0 where
  pub begins : take (length front) s.reads_as ≡ front
  pub within : most < last → length s.reads_as ≤ most

-- the whole file is known
pub record IsWhole {D : Type 0} (k : Known D) : Type 0 where
  pub told : k.most < last
  pub all : k.most ≤ length k.front

-- a read and a write of the disk
module _ {D T E : Type 0} (d : DiskOf D) (j k : Known D) (result : Result T E) where
  abbrev pub IsReadBy : Piece → Type 0
  IsReadBy into = IsRead d.told (d.state j.disk) (d.state k.disk) result into

  abbrev pub IsWriteBy : Piece → Type 0
  IsWriteBy from = IsWrite d.told (d.state j.disk) (d.state k.disk) result from
