use Rattle.std.proofs.Common.{[], ◌∷◌}
use Rattle.dxc_outside.specs.Jobs.{any_job}
use Rattle.dxc_outside.proofs.spawner.Spawner.start.Goals as goal

pub returns-in-Caller-clause-handed : goal.returns-in-Caller-clause-handed
returns-in-Caller-clause-handed g c = g.Self.Spawner.handed_on c.args.self.now c.way.new.self c.ran.new.self (any_job c.args.job ∷ []) [] c.way.ensures.handed c.ran.ensures.handed

pub returns-in-Ok-clause-handed : goal.returns-in-Ok-clause-handed
returns-in-Ok-clause-handed g c = g.Self.Spawner.handed_on c.args.self.now c.way.new.self c.keep.new.self (any_job c.args.job ∷ []) [] c.way.ensures.handed c.keep.ensures.handed

pub returns-in-Err-clause-handed : goal.returns-in-Err-clause-handed
returns-in-Err-clause-handed g c = g.Self.Spawner.handed_on c.args.self.now c.way.new.self c.refused.new.self (any_job c.args.job ∷ []) [] c.way.ensures.handed c.refused.ensures.handed
