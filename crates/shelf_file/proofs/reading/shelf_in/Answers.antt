use Rattle.std.proofs.Common.{rules, arith, map}
use Rattle.std.proofs.lemmas.Result.{err_from_is_err_and}
use Rattle.toml.specs.View.{view, table_view}
use Rattle.shelf_file.specs.Keys.{tables_in}
use Rattle.shelf_file.specs.Users.{entries_of}
use Rattle.shelf_file.proofs.Tables.{count_of_tables}
use Rattle.shelf_file.proofs.Growing.{users_length}
use Rattle.shelf_file.proofs.Describing.{all_described}
use Rattle.shelf_file.proofs.Shortness.{short_names}
use Rattle.shelf_file.proofs.FirstFaults.{shape_fault}
use Rattle.shelf_file.proofs.reading.shelf_in.Goals as goal

pub returns-in_err-shape : goal.returns-in_err-shape
returns-in_err-shape c = let p = err_from_is_err_and c.from_residual-in_err-shape.result c.from_residual-in_err-shape.ensures.1 in rw (p.1, p.2) (shape_fault (table_view c.args.table.now) c.in_ok-sid.sid _ c.in_ok-sid.ensures c.in_err-shape.ensures)

pub invariant_of-result : goal.invariant_of-result
invariant_of-result c = let n = count_of_tables (map view c.in_ok-list.list.now.items) c.in_ok-list.ensures.1 in let m = users_length (tables_in (map view c.in_ok-list.list.now.items)) (entries_of c.in_ok-users.users.items) c.in_ok-users.ensures.0 in record {
  equipment = search rules;
  some = omega arith;
  few = omega arith;
  short = short_names (tables_in (map view c.in_ok-list.list.now.items)) (entries_of c.in_ok-users.users.items) c.in_ok-users.ensures.0;
  described = all_described (tables_in (map view c.in_ok-list.list.now.items)) (entries_of c.in_ok-users.users.items) c.in_ok-users.ensures.0;
}
