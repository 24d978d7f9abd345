use Rattle.std.proofs.Common.{◌≡◌, ◌++◌, [], map, take, drop}
use Rattle.fabric_core.proofs.row.Row+Row+T.clear_each.Given as goal

abbrev pub invariant-loop-place : goal.invariant-loop-place
invariant-loop-place g l = l.self-inside.items.items ≡ take l.place (map (λ _. []) l.initial.self-inside.items.items) ++ drop l.place l.initial.self-inside.items.items
