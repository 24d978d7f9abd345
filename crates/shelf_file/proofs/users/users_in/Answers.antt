use Rattle.std.proofs.Common.{arith, map}
use Rattle.std.proofs.lemmas.Result.{err_from_is_err_and}
use Rattle.toml.specs.View.{view}
use Rattle.shelf_file.specs.Keys.{tables_in}
use Rattle.shelf_file.specs.Users.{entries_of}
use Rattle.shelf_file.proofs.Tables.{length_of_tables}
use Rattle.shelf_file.proofs.Growing.{faulted, added, read_whole}
use Rattle.shelf_file.proofs.users.users_in.Goals as goal

pub returns-in_err-add_user : goal.returns-in_err-add_user
returns-in_err-add_user c = let p = err_from_is_err_and c.from_residual.result c.from_residual.ensures.1 in rw (p.1, p.2)
    (faulted (tables_in (map view c.args.list.now.items)) (entries_of c.loop-place.users.items) c.loop-place.place _ _ (let n = length_of_tables c.args.list.now.items c.requires in omega arith) c.loop-place.invariant.users c.loop-place.invariant.faultless
    c.table_in.ensures c.in_err-add_user.ensures)

pub loop-place-preserved : goal.loop-place-preserved
loop-place-preserved c = let a = added (tables_in (map view c.args.list.now.items)) (entries_of c.loop-place.users.items) (entries_of c.add_user.new.users.items) c.loop-place.place _ (let n = length_of_tables c.args.list.now.items c.requires in omega arith) c.loop-place.invariant.users c.loop-place.invariant.faultless
    c.table_in.ensures c.in_ok-add_user.ensures in record { users = a.0; faultless = a.1 }

pub returns : goal.returns
returns c = read_whole (tables_in (map view c.args.list.now.items)) (entries_of c.loop-place.users.items) c.loop-place.place (let n = length_of_tables c.args.list.now.items c.requires in omega arith) c.loop-place.invariant.users c.loop-place.invariant.faultless
