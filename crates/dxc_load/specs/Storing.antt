-- The disk of the load's journal.
use Rattle.dxc_disk.specs.Disks.{CountsOn, DiskState, IsDisk}
use Rattle.dxc_disk.specs.MemLaws.{mem_counts_on, mem_is_disk}
use Rattle.dxc_disk.specs.MemView.{mem_state}
use Rattle.dxc_load.specs.declared.disk.LoadDisk.{LoadDisk}

-- it is to contracts what its disk in memory is
abbrev pub load_disk : LoadDisk → DiskState
load_disk d = mem_state d.inner

-- facts of a disk that tells its content, by that disk
pub load_is_disk : (d : LoadDisk) → IsDisk (load_disk d)
load_is_disk d = mem_is_disk d.inner

pub load_counts_on : (d : LoadDisk) → CountsOn (load_disk d)
load_counts_on d = mem_counts_on d.inner
