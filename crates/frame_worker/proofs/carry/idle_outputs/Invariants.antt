use Rattle.std.proofs.Common.{◌≡◌, ◌≢◌, ◌-◌, ◌≤◌, ◌%◌, List, [], ℕ}
use Rattle.fabric_core.specs.declared.size.Size.{Size}
use Rattle.frame_worker.specs.Rows.{IsWritten}
use Rattle.frame_worker.proofs.carry.idle_outputs.Given as goal

abbrev pub invariant-loop-port : goal.invariant-loop-port
invariant-loop-port l = record {
  from : l.first ≤ l.port;
  written : (z : Size) (w : ℕ) (input : List ℕ) → z.shape ≡ l.fn.shape → l.output_module % z.workers ≢ w → IsWritten z w input l.first (l.port - l.first) l.initial.output l.output [];
}
