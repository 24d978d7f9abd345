-- The laws of a disk, of one in memory.
use Rattle.dxc_disk.specs.declared.mem_disk.MemDisk.{MemDisk}
use Rattle.dxc_disk.specs.Disks.{CountsOn, IsDisk}
use Rattle.dxc_disk.specs.MemView.{mem_state}
use Rattle.dxc_disk.specs.Replay.{events}
use Rattle.dxc_disk.specs.ReplayLaws.{replay_is_disk, room_counts_on}

pub mem_is_disk : (d : MemDisk) → IsDisk (mem_state d)
mem_is_disk d = replay_is_disk d.first.items (events d.calls.items d.log.items) d.bytes.items _ _ _ d.same

pub mem_counts_on : (d : MemDisk) → CountsOn (mem_state d)
mem_counts_on d = room_counts_on d.calls d.log d.bytes d.made d.faults d.counted
