-- Lists of tables.
use Rattle.std.proofs.Common.{Bor, ◌≡◌, ℕ, zero, suc, ◌<◌, ◌≤◌, get_or, arith, Bool, true, ◌&&◌, List, [], ◌∷◌, ◌++◌, map, length, inl, inr, refl, sym, ap, ◌∙◌, subst}
use Rattle.std.specs.Prelude.{nat_le, is_some, option_to_list, Option, Some, None, option_map, Vec}
use Rattle.std.specs.declared.alloc.Global.{Global}
use Rattle.std.specs.List.{list_all}
use Rattle.std.proofs.lemmas.Bool.Decides.{leb_tells}
use Rattle.std.proofs.lemmas.List.{length-map, get_or-map}
use Rattle.std.proofs.lemmas.List.Folds.{list_all-map}
use Rattle.toml.specs.Data.{Data, Members, no_members, as_table, as_array}
use Rattle.toml.specs.View.{view, items_view, array_view}
use Rattle.toml.specs.declared.value.Value.{Value}
use Rattle.shelf_file.specs.Keys.{are_tables, tables_in, data_in, list_of}
use Rattle.dxc_model.proofs.Bools.{true_false, and_true}
use Rattle.shelf_file.proofs.Marking.{and_both}

within : (n : ℕ) → 1 ≤ n → n ≤ 64 → (nat_le 1 n && nat_le n 64) ≡ true
within n l m = and_both (nat_le 1 n) (nat_le n 64) (elim (leb_tells 1 n) [ inl h ↦ h.0 | inr h ↦ (let f = h.1 in absurd (omega arith)) ]) (elim (leb_tells n 64) [ inl h ↦ h.0 | inr h ↦ (let f = h.1 in absurd (omega arith)) ])

pub tables_of_values : (xs : List Value) (b : Bool) → 1 ≤ length xs → length xs ≤ 64 → b ≡ list_all (λ v. is_some (as_table (view v))) xs → b ≡ are_tables (map view xs)
tables_of_values xs b l m e = e ∙ (sym (list_all-map (λ d. is_some (as_table d)) view xs) ∙ ap (λ a. a && list_all (λ d. is_some (as_table d)) (map view xs)) (sym (subst (λ n. (nat_le 1 n && nat_le n 64) ≡ true) (sym (length-map xs view)) (within (length xs) l m))))

-- the items of a list are its data, in order
pub data_items : (xs : List Value) → data_in (items_view xs) ≡ map view xs
data_items [] = refl
data_items (x ∷ xs) = ap (λ (ds : List Data). view x ∷ ds) (data_items xs)

pub listed : (o : Option (Bor (Vec Value Global))) (d : Data) → option_map (λ v. array_view v.now) o ≡ as_array d → option_map (λ v. map view v.now.items) o ≡ list_of d
listed None d e = ap (option_map data_in) e
listed (Some v) d e = ap Some (sym (data_items v.now.items)) ∙ ap (option_map data_in) e

le_of : (a b : ℕ) → nat_le a b ≡ true → a ≤ b
le_of a b e = elim (leb_tells a b) [ inl h ↦ h.1 | inr h ↦ absurd (true_false (sym e ∙ h.0)) ]

some_of : {X : Type 0} (o : Option X) → is_some o ≡ true → (x : X) × (o ≡ Some x)
some_of None e = absurd (true_false (sym e))
some_of (Some x) e = (x, refl)

-- the table at a place is that of the value there
pub table_at : (ds : List Data) (i : ℕ) (d : Data) → list_all (λ e. is_some (as_table e)) ds ≡ true → i < length ds → as_table (get_or ds i d) ≡ Some (get_or (tables_in ds) i no_members)
table_at [] i d a l = absurd (omega arith)
table_at (e ∷ es) zero d a l = let t = some_of (as_table e) (and_true (is_some (as_table e)) (list_all (λ c. is_some (as_table c)) es) a).0 in
    t.1 ∙ ap (λ (o : Option Members). Some (get_or (option_to_list o ++ tables_in es) zero no_members)) (sym t.1)
table_at (e ∷ es) (suc i) d a l = let b = and_true (is_some (as_table e)) (list_all (λ c. is_some (as_table c)) es) a in let t = some_of (as_table e) b.0 in
    table_at es i d b.1 (omega arith) ∙ ap (λ (o : Option Members). Some (get_or (option_to_list o ++ tables_in es) (suc i) no_members)) (sym t.1)

pub tables_length : (ds : List Data) → list_all (λ e. is_some (as_table e)) ds ≡ true → length (tables_in ds) ≡ length ds
tables_length [] a = refl
tables_length (e ∷ es) a = let b = and_true (is_some (as_table e)) (list_all (λ c. is_some (as_table c)) es) a in let t = some_of (as_table e) b.0 in
    ap (λ (o : Option Members). length (option_to_list o ++ tables_in es)) t.1 ∙ ap suc (tables_length es b.1)

pub all_of_tables : (ds : List Data) → are_tables ds ≡ true → list_all (λ e. is_some (as_table e)) ds ≡ true
all_of_tables ds a = (and_true (nat_le 1 (length ds) && nat_le (length ds) 64) (list_all (λ e. is_some (as_table e)) ds) a).1

-- how many there are
pub count_of_tables : (ds : List Data) → are_tables ds ≡ true → (1 ≤ length (tables_in ds)) × (length (tables_in ds) ≤ 64)
count_of_tables ds a =
    let b = and_true (nat_le 1 (length ds)) (nat_le (length ds) 64) (and_true (nat_le 1 (length ds) && nat_le (length ds) 64) (list_all (λ e. is_some (as_table e)) ds) a).0 in
    let n = tables_length ds (all_of_tables ds a) in let l = le_of 1 (length ds) b.0 in let m = le_of (length ds) 64 b.1 in (omega arith, omega arith)

-- the table of a value at a place
pub table_of_value : (xs : List Value) (i : ℕ) (x : Value) → are_tables (map view xs) ≡ true → i < length xs → x ≡ get_or xs i x → as_table (view x) ≡ Some (get_or (tables_in (map view xs)) i no_members)
table_of_value xs i x a l e = ap (λ (y : Value). as_table (view y)) e ∙ (ap as_table (sym (get_or-map view xs i x (view x) l)) ∙ table_at (map view xs) i (view x) (all_of_tables (map view xs) a) (subst (λ n. i < n) (sym (length-map xs view)) l))

pub length_of_tables : (xs : List Value) → are_tables (map view xs) ≡ true → length (tables_in (map view xs)) ≡ length xs
length_of_tables xs a = tables_length (map view xs) (all_of_tables (map view xs) a) ∙ length-map xs view
