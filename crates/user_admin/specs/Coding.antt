-- How openings, and what turns leave, are kept.
use Rattle.std.specs.Prelude.{ℕ, List, refl}
use Rattle.std.specs.Coded.{Coded, code_by, coded×, coded_ℕ, coded_list}
use Rattle.shelf_file.specs.Contents.{Contents}
use Rattle.shelf_file.specs.contracts.shelf.Shelf as shelf_row
use Rattle.user_admin.specs.declared.op.UserMark.{UserMark}
use Rattle.user_admin.specs.contracts.op.UserMark as mark_row
use Rattle.user_admin.specs.contracts.table.UserTable as table_row
use Rattle.user_admin.specs.Users.{Users}
use Rattle.user_admin.specs.Histories.{Opening}

abbrev pub opening_coded : Coded Opening
opening_coded = code_by (Contents × (List (List ℕ) × (Users × (List (List ℕ) × (ℕ × (ℕ × ℕ)))))) (coded× shelf_row.the_row.coded (coded× (coded_list (coded_list coded_ℕ)) (coded× table_row.the_row.coded (coded× (coded_list (coded_list coded_ℕ)) (coded× coded_ℕ (coded× coded_ℕ coded_ℕ)))))) (λ o. (o.shelf, (o.records, (o.users, (o.readings, (o.faults, (o.margin, o.room))))))) (λ p. record { shelf = p.0; records = p.1.0; users = p.1.1.0; readings = p.1.1.1.0; faults = p.1.1.1.1.0; margin = p.1.1.1.1.1.0; room = p.1.1.1.1.1.1 }) (λ _. refl)

abbrev pub mark_coded : Coded UserMark
mark_coded = mark_row.the_row.coded
