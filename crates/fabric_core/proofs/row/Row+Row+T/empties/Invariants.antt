use Rattle.std.proofs.Common.{◌≡◌, [], replicate, vec_capacity}
use Rattle.fabric_core.proofs.row.Row+Row+T.empties.Given as goal

abbrev pub invariant-loop : goal.invariant-loop
invariant-loop g l = record { items : l.rows.items ≡ replicate l.counter []; room : vec_capacity l.rows ≡ l.count }
