use Rattle.toml.specs.View.{table_view}
use Rattle.shelf_file.specs.Checks.IsFirstFault.{too_large}
use Rattle.shelf_file.proofs.FirstFaults.{checked}
use Rattle.shelf_file.proofs.reading.shelf_of.Goals as goal

pub returns-then-bytes-gt-MOST_BYTES : goal.returns-then-bytes-gt-MOST_BYTES
returns-then-bytes-gt-MOST_BYTES c = too_large c.if-bytes-gt-MOST_BYTES.true

pub returns-in-Ok : goal.returns-in-Ok
returns-in-Ok c = checked c.args.bytes.now (table_view c.in-Ok.table) c.shelf_in.result c.if-bytes-gt-MOST_BYTES.false c.in-Ok.ensures c.shelf_in.ensures
