use Rattle.std.proofs.Common.{◌-◌, ◌≤◌}
use Rattle.dxc_disk.specs.Disks.{Looks, Spends}
use Rattle.standby_link.proofs.joins.read_on.Given as goal

-- the file was read up to here
abbrev pub invariant-loop-at : goal.invariant-loop-at
invariant-loop-at g l =
    let disk = g.D.Disk.state in
    record {
      begun : l.fn.from ≤ l.at;
      within : l.at ≤ l.fn.end;
      looks : g.D.Disk.told → Looks (disk l.fn.disk) (disk l.disk);
      faults : (disk l.fn.disk).faults ≤ (disk l.disk).faults;
      room : Spends (l.at - l.fn.from) (disk l.fn.disk) (disk l.disk);
    }

abbrev pub decreases-loop-at : goal.decreases-loop-at
decreases-loop-at g l = l.fn.end - l.at
