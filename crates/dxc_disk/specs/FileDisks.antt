-- A disk over a file, for the contracts of its own calls.
use Rattle.std.specs.Prelude.{[], Result, IsErr, IsTrue}
use Rattle.dxc_disk.specs.Disks.{DiskState}
use Rattle.dxc_disk.specs.declared.file_disk.FileDisk.{FileDisk}

-- It tells nothing but its count of faults.
abbrev pub file_state : FileDisk → DiskState
file_state d = record {
  reads_as = [];
  may_leave = λ _. Unit {0};
  moment = 0;
  left_since = λ _ _. Unit {0};
  readings = [];
  synced = 0;
  faults = d.faults;
  margin = 0;
  room = 0;
}

-- a disk that went astray by a sync that failed refuses the call, and stays astray
abbrev pub Refuses : {T E : Type 0} → FileDisk → FileDisk → Result T E → Type 0
Refuses old new result = IsTrue old.is_astray → IsErr result × IsTrue new.is_astray
