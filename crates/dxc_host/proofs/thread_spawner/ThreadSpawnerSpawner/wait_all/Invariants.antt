use Rattle.std.proofs.Common.{◌≡◌, length}
use Rattle.dxc_host.proofs.thread_spawner.ThreadSpawnerSpawner.wait_all.Given as goal

abbrev pub invariant-loop-handle : goal.invariant-loop-handle
invariant-loop-handle g l = record {
  starts : l.self.starts ≡ l.fn.self.starts;
  faults : l.self.faults ≡ l.fn.self.faults;
  last_failed : l.self.last_failed ≡ l.fn.self.last_failed;
}

abbrev pub decreases-loop-handle : goal.decreases-loop-handle
decreases-loop-handle g l = length l.self.running.items
