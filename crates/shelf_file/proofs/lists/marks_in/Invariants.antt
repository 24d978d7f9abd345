use Rattle.std.proofs.Common.{◌≡◌, ◌<◌, ◌^◌, true, map, take}
use Rattle.toml.specs.View.{view}
use Rattle.shelf_file.specs.Keys.{are_modules, numbers_in}
use Rattle.shelf_file.specs.Contents.{Marks}
use Rattle.shelf_file.proofs.lists.marks_in.Given as goal

abbrev pub invariant-loop-value : goal.invariant-loop-value
invariant-loop-value l = record {
  modules : are_modules l.modules (map view (take l.value-index l.value-items)) ≡ true;
  below : l.bits < 2 ^ l.modules;
  marks : Marks l.modules l.bits (numbers_in (map view (take l.value-index l.value-items)));
}
