use Rattle.std.proofs.Common.{List, [], ◌++◌, append-nil, subst}
use Rattle.dxc_outside.specs.Jobs.{AnyJob, any_jobs}
use Rattle.dxc_jobs.specs.Leaves.{left_by}
use Rattle.dxc_jobs.proofs.Beginning.{ran_to}
use Rattle.dxc_jobs.proofs.Starting.{waited_for}
use Rattle.dxc_jobs.proofs.threads.run_all.Goals as goal

pub returns-clause-starts : goal.returns-clause-starts
returns-clause-starts g c = waited_for _ _ _ _ _ c.start_all-begun.ensures.starts c.wait_all.ensures.waited

pub returns-clause-handed : goal.returns-clause-handed
returns-clause-handed g c = λ running.
    let jobs = any_jobs c.args.workers.items ++ any_jobs c.args.sessions.items in
    subst (λ (l : List AnyJob). g.P.Spawner.handed c.args.spawner.now c.wait_all.new.self l) (append-nil jobs)
    (g.P.Spawner.handed_on c.args.spawner.now c.start_all-begun.new.spawner c.wait_all.new.self jobs [] (c.start_all-begun.ensures.handed running) c.wait_all.ensures.handed)

pub returns-clause-workers : goal.returns-clause-workers
returns-clause-workers g c = ran_to g.row.P-Threads.Denot (left_by g.J.Task.ran) c.args.workers.items _ _ _ c.start_all-begun.ensures.workers c.wait_each-workers.ensures

pub returns-clause-sessions : goal.returns-clause-sessions
returns-clause-sessions g c = ran_to g.row.P-Threads.Denot (left_by g.K.Task.ran) c.args.sessions.items _ _ _ c.start_all-begun.ensures.sessions c.wait_each-sessions.ensures
