use Rattle.std.proofs.Common.{sym, ◌∙◌}
use Rattle.std.proofs.lemmas.Result.{err_from_is_err_and}
use Rattle.toml.specs.View.{table_view}
use Rattle.shelf_file.specs.Users.{entry_of, entries_of, names_in}
use Rattle.shelf_file.proofs.Faults.{key_fault, name_fault, no_name_fault}
use Rattle.shelf_file.proofs.Kept.{name_kept, kept, entries_more}
use Rattle.shelf_file.proofs.users.add_user.Goals as goal

pub returns-in_err-user : goal.returns-in_err-user
returns-in_err-user c = let p = err_from_is_err_and c.from_residual.result c.from_residual.ensures.1 in rw (p.1, p.2) (key_fault (names_in (entries_of c.args.users.now.items)) c.args.number (table_view c.args.table.now) _ c.in_err-user.ensures)

pub returns-then-has_name : goal.returns-then-has_name
returns-then-has_name c = name_fault (names_in (entries_of c.args.users.now.items)) c.args.number (table_view c.args.table.now) (entry_of c.in_ok-user.user) c.in_ok-user.ensures
    (sym (name_kept c.in_ok-user.user.uid.items c.args.users.now.items) ∙ (sym (kept c.in_ok-user.user c.args.users.now.items _ _ c.as_slice.ensures.value c.has_name.ensures) ∙ c.if-has_name.true))

pub returns-in-Ok : goal.returns-in-Ok
returns-in-Ok c = record {
  entry = entry_of c.in_ok-user.user;
  is = c.in_ok-user.ensures;
  faultless = no_name_fault (names_in (entries_of c.args.users.now.items)) c.args.number (table_view c.args.table.now) (entry_of c.in_ok-user.user) c.in_ok-user.ensures
      (sym (name_kept c.in_ok-user.user.uid.items c.args.users.now.items) ∙ (sym (kept c.in_ok-user.user c.args.users.now.items _ _ c.as_slice.ensures.value c.has_name.ensures) ∙ c.if-has_name.false));
  whole = entries_more c.args.users.now.items _ c.in_ok-user.user c.in-Ok.ensures.items;
}
