-- The disk of a journal, for the contracts of its own calls.
use Rattle.std.specs.Prelude.{Bool, true, false, []}
use Rattle.dxc_disk.specs.Disks.{DiskState}
use Rattle.dxc_host.specs.declared.host_disk.HostDisk.{HostDisk}
use Rattle.dxc_host.specs.declared.host_disk.Bytes.{Bytes}
use Rattle.dxc_host.specs.declared.host_disk.Bytes.TheVariants.{File, Copy, Staged}

-- It tells nothing but its count of faults.
abbrev pub host_disk : HostDisk → DiskState
host_disk d = record {
  reads_as = [];
  may_leave = λ _. Unit {0};
  moment = 0;
  left_since = λ _ _. Unit {0};
  readings = [];
  synced = 0;
  faults = d.faults;
  margin = 0;
  room = 0;
}

-- whether they are a copy in memory, which no call brings to a file
abbrev pub is_copied : Bytes → Bool
is_copied (File file) = false
is_copied (Copy copy) = true
is_copied (Staged file) = false
