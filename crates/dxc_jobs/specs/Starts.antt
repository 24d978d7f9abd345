-- What became of the starts of some jobs, one after another.
use Rattle.std.specs.Prelude.{◌≡◌, ℕ, ◌+◌, ◌≤◌, ◌<◌, true}
use Rattle.dxc_causes.specs.Causes.{Counted}
use Rattle.dxc_outside.specs.declared.spawner.Started.{Started}
use Rattle.dxc_outside.specs.declared.spawner.Started.TheVariants.{Running, Failed}
use Rattle.dxc_outside.specs.Threads.{SpawnerState}
use Rattle.dxc_jobs.specs.Counts.{RoseBy}

-- one start failed, the last that was called: fewer than so many jobs were started
pub record IsLastFailed (jobs : ℕ) (old new : SpawnerState) : Type 0 where
  pub fewer : new.starts < old.starts + jobs
  pub one : Counted old.faults new.faults 1
  pub last : new.last_failed ≡ true

-- so many jobs were started, or as many of them as stand before the first whose start failed
pub record AreStarts (jobs : ℕ) (old new : SpawnerState) (started : Started) : Type 0 where
  pub running : started ≡ Running → RoseBy jobs old.starts new.starts × (new.faults ≡ old.faults)
  pub no_more : new.starts ≤ old.starts + jobs
  pub later : old.faults ≤ new.faults
  pub failed : started ≡ Failed → IsLastFailed jobs old new
