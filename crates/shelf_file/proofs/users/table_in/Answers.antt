use Rattle.std.proofs.Common.{◌∙◌}
use Rattle.shelf_file.proofs.Tables.{table_of_value}
use Rattle.shelf_file.proofs.users.table_in.Goals as goal

pub unreachable-requires : goal.unreachable-requires
unreachable-requires c = let e = c.in-None.ensures ∙ table_of_value c.args.list.now.items c.args.place c.index.result.now c.requires.tables c.requires.within c.index.ensures in cc

pub returns : goal.returns
returns c = let e = c.in-Some.ensures ∙ table_of_value c.args.list.now.items c.args.place c.index.result.now c.requires.tables c.requires.within c.index.ensures in cc
