use Rattle.std.proofs.Common.{◌≡◌}
use Rattle.std.specs.Prelude.{flat_map}
use Rattle.std.specs.List.{range_with_len}
use Rattle.dxc_model.specs.Equipment.{has_bit}
use Rattle.dxc_model.specs.Tables.{is_equipped}
use Rattle.tl1_script.specs.Scripts.{module_changes}
use Rattle.tl1_script.proofs.changes.equipment_changes.Given as goal

abbrev pub invariant-loop-at : goal.invariant-loop-at
invariant-loop-at l = l.changes.items ≡ flat_map (λ m. module_changes (has_bit l.equipped m) (is_equipped l.table m) m) (range_with_len 0 l.at)
