use Rattle.std.proofs.Common.{subst}
use Rattle.std.specs.Prelude.{vec_len}
use Rattle.dxc_outside.specs.Jobs.{any_jobs}
use Rattle.dxc_outside.specs.declared.spawner.Started.{Started}
use Rattle.dxc_jobs.specs.Leaves.{left_by}
use Rattle.dxc_jobs.specs.Starts.{AreStarts}
use Rattle.dxc_jobs.proofs.Beginning.{begun_none}
use Rattle.dxc_jobs.proofs.Starting.{more_starts, no_further}
use Rattle.dxc_jobs.proofs.threads.start_all.Goals as goal

pub returns-in-Running-clause-starts : goal.returns-in-Running-clause-starts
returns-in-Running-clause-starts g c =
    let first = g.P.Spawner.state c.args.spawner.now in
    let mid = g.P.Spawner.state c.begin_each-first.new.spawner in
    more_starts (vec_len c.args.workers) (vec_len c.args.sessions) first mid (g.P.Spawner.state c.begin_each-second.new.spawner) c.begin_each-second.result.started
    (subst (λ (s : Started). AreStarts (vec_len c.args.workers) first mid s) c.in-Running.is c.begin_each-first.ensures.starts) c.begin_each-second.ensures.starts

pub returns-in-Failed-clause-starts : goal.returns-in-Failed-clause-starts
returns-in-Failed-clause-starts g c =
    let first = g.P.Spawner.state c.args.spawner.now in
    let new = g.P.Spawner.state c.begin_each-first.new.spawner in
    no_further (vec_len c.args.workers) (vec_len c.args.sessions) first new (subst (λ (s : Started). AreStarts (vec_len c.args.workers) first new s) c.in-Failed.is c.begin_each-first.ensures.starts)

pub returns-in-Running-clause-handed : goal.returns-in-Running-clause-handed
returns-in-Running-clause-handed g c = λ running.
    g.P.Spawner.handed_on c.args.spawner.now c.begin_each-first.new.spawner c.begin_each-second.new.spawner (any_jobs c.args.workers.items) (any_jobs c.args.sessions.items) (c.begin_each-first.ensures.handed c.in-Running.is) (c.begin_each-second.ensures.handed running)

pub returns-in-Failed-clause-handed : goal.returns-in-Failed-clause-handed
returns-in-Failed-clause-handed g c = λ running. cc

pub returns-in-Running-clause-workers : goal.returns-in-Running-clause-workers
returns-in-Running-clause-workers g c = let b = c.begin_each-first.ensures.begun in record { front = b.front; back = b.back; split = b.split; are = b.are; all = λ _. b.all c.in-Running.is }

pub returns-in-Failed-clause-workers : goal.returns-in-Failed-clause-workers
returns-in-Failed-clause-workers g c = let b = c.begin_each-first.ensures.begun in record { front = b.front; back = b.back; split = b.split; are = b.are; all = λ running. cc }

pub returns-in-Failed-clause-sessions : goal.returns-in-Failed-clause-sessions
returns-in-Failed-clause-sessions g c = begun_none (left_by g.K.Task.ran) c.args.sessions.items _ c.new.ensures.items
