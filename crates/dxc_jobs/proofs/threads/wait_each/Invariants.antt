use Rattle.std.proofs.Common.{◌≡◌, ◌+◌, ◌≤◌, ◌++◌, length, List}
use Rattle.std.specs.Prelude.{vec_len, vec_capacity}
use Rattle.std.specs.Vec.Iter.{into_iter_items, into_iter_len}
use Rattle.dxc_jobs.specs.Leaves.{left_by}
use Rattle.dxc_jobs.specs.Begun.{AreBegun, AreRan}
use Rattle.dxc_jobs.proofs.threads.wait_each.Given as goal

abbrev pub invariant-loop-one : goal.invariant-loop-one
invariant-loop-one g l = record {
  ran : (jobs : List g.row.J.Denot) → AreBegun (left_by g.J.Task.ran) jobs l.yielded → AreRan (left_by g.J.Task.ran) jobs l.lefts.items;
  each : vec_len l.lefts ≡ length l.yielded;
  room : vec_len l.fn.begun ≤ vec_capacity l.lefts;
  left : length l.yielded + into_iter_len l.one-iterator ≡ vec_len l.fn.begun;
  all : l.yielded ++ into_iter_items l.one-iterator ≡ l.fn.begun.items;
  count : into_iter_len l.one-iterator ≡ length (into_iter_items l.one-iterator);
}
