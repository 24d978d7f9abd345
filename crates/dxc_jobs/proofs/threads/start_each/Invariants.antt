use Rattle.std.proofs.Common.{◌≡◌, ◌+◌, ◌++◌, length}
use Rattle.std.specs.Prelude.{vec_len}
use Rattle.std.specs.Vec.Iter.{into_iter_items, into_iter_len}
use Rattle.dxc_outside.specs.Jobs.{any_jobs}
use Rattle.dxc_outside.specs.declared.spawner.Started.TheVariants.{Running}
use Rattle.dxc_jobs.specs.Leaves.{left_by}
use Rattle.dxc_jobs.specs.Begun.{AreBegun}
use Rattle.dxc_jobs.specs.Starts.{AreStarts}
use Rattle.dxc_jobs.proofs.threads.start_each.Given as goal

abbrev pub invariant-loop-job : goal.invariant-loop-job
invariant-loop-job g l = record {
  started : AreStarts (length l.yielded) (g.P.Spawner.state l.fn.spawner) (g.P.Spawner.state l.spawner) Running;
  handed : g.P.Spawner.handed l.fn.spawner l.spawner (any_jobs l.yielded);
  begun : AreBegun (left_by g.J.Task.ran) l.yielded l.begun.items;
  left : length l.yielded + into_iter_len l.job-iterator ≡ vec_len l.fn.jobs;
  all : l.yielded ++ into_iter_items l.job-iterator ≡ l.fn.jobs.items;
  count : into_iter_len l.job-iterator ≡ length (into_iter_items l.job-iterator);
}
