use Rattle.std.proofs.Common.{rules}
use Rattle.shelf_file.proofs.Tables.{tables_of_values}
use Rattle.shelf_file.proofs.lists.are_tables.Goals as goal

pub returns-then-contains : goal.returns-then-contains
returns-then-contains c = tables_of_values c.args.list.now.items c.all_tables.result (search rules) (search rules) c.all_tables.ensures
