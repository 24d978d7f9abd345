use Rattle.toml.specs.View.{view}
use Rattle.shelf_file.proofs.Tables.{listed}
use Rattle.shelf_file.proofs.lists.list_in.Goals as goal

pub returns : goal.returns
returns c = listed c.as_array.result (view c.args.value.now) c.as_array.ensures
