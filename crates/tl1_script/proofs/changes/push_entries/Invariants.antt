use Rattle.std.proofs.Common.{◌≡◌, ◌++◌, map, take}
use Rattle.dxc_model.specs.declared.op.Change.TheVariants.{Enter}
use Rattle.tl1_script.proofs.changes.push_entries.Given as goal

abbrev pub invariant-loop-at : goal.invariant-loop-at
invariant-loop-at l = l.changes.items ≡ l.fn.changes.items ++ map Enter (take l.at l.rows)
