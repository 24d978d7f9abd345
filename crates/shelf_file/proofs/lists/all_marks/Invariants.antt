use Rattle.std.proofs.Common.{◌≡◌, ◌<◌, ◌^◌, true, ℕ}
use Rattle.dxc_model.specs.Equipment.{has_bit}
use Rattle.shelf_file.proofs.lists.all_marks.Given as goal

abbrev pub invariant-loop-module : goal.invariant-loop-module
invariant-loop-module l = record {
  below : l.bits < 2 ^ l.modules;
  all : (m : ℕ) → m < l.module → has_bit l.bits m ≡ true;
}
