use Rattle.std.proofs.Common.{[], ◌∷◌}
use Rattle.dxc_outside.specs.Jobs.{any_job}
use Rattle.dxc_jobs.proofs.threads.start.Goals as goal

pub returns-in-Caller-clause-handed : goal.returns-in-Caller-clause-handed
returns-in-Caller-clause-handed g c = g.P.Spawner.handed_on c.args.spawner.now c.way.new.self c.ran.new.self (any_job c.args.job ∷ []) [] c.way.ensures.handed c.ran.ensures.handed

pub returns-in-Ok-clause-handed : goal.returns-in-Ok-clause-handed
returns-in-Ok-clause-handed g c = g.P.Spawner.handed_on c.args.spawner.now c.way.new.self c.ran-in-Ok.new.self (any_job c.args.job ∷ []) [] c.way.ensures.handed c.ran-in-Ok.ensures.handed

pub returns-in-Thread-clause-handed : goal.returns-in-Thread-clause-handed
returns-in-Thread-clause-handed g c = g.P.Spawner.handed_on c.args.spawner.now c.way.new.self c.refused.new.self (any_job c.args.job ∷ []) [] c.way.ensures.handed c.refused.ensures.handed
