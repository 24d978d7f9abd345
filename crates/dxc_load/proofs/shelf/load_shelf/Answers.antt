use Rattle.std.proofs.Common.{◌≡◌, rules}
use Rattle.shelf_file.specs.declared.fault.ShelfFault.TheVariants.{NoMemory}
use Rattle.dxc_load.proofs.LoadShelf.{load_shelf, only_memory}
use Rattle.dxc_load.proofs.shelf.load_shelf.Goals as goal

pub returns-in-Ok : goal.returns-in-Ok
returns-in-Ok c = load_shelf c.in-Ok.shelf c.in-Ok.ensures

pub unreachable-requires : goal.unreachable-requires
unreachable-requires c = let only : c.in-Err.field-0 ≡ NoMemory = only_memory c.in-Err.field-0 c.in-Err.ensures in search (rules, only)
