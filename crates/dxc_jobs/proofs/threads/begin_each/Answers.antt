use Rattle.std.proofs.Common.{◌≡◌, arith, length, rules}
use Rattle.std.specs.Prelude.{vec_len}
use Rattle.dxc_jobs.specs.Leaves.{left_by}
use Rattle.dxc_jobs.proofs.Beginning.{begun_few, begun_none}
use Rattle.dxc_jobs.proofs.threads.begin_each.Goals as goal

pub returns-clause-room : goal.returns-clause-room
returns-clause-room g c =
    let few = begun_few (left_by g.J.Task.ran) c.args.jobs.items c.start_each-started.result c.start_each-started.new.begun.items c.start_each-started.ensures.begun in
    let jobs : vec_len c.args.jobs ≡ length c.args.jobs.items = search rules in
    let begun : vec_len c.start_each-started.new.begun ≡ length c.start_each-started.new.begun.items = search rules in
    let len = c.len.ensures in
    let room = c.in-Ok.ensures.capacity in
    omega (arith, few, jobs, begun, len, room)

pub returns-in_default-clause-begun : goal.returns-in_default-clause-begun
returns-in_default-clause-begun g c = begun_none (left_by g.J.Task.ran) c.args.jobs.items c.new-begun.result.items c.new-begun.ensures.items
