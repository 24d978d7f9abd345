-- Users that are kept.
use Rattle.std.proofs.Common.{◌≡◌, ℕ, Bool, ◌||◌, List, [], ◌∷◌, ◌++◌, refl, ap, ◌∙◌}
use Rattle.std.specs.List.{list_any}
use Rattle.std.specs.Str.{bytes_eq}
use Rattle.std.proofs.lemmas.List.{map-append}
use Rattle.shelf_file.specs.declared.user.User.{User}
use Rattle.shelf_file.specs.Users.{entry_of, entries_of, names_in}

-- a user of the name is kept where it is one of the names
pub name_kept : (n : List ℕ) (us : List User) → list_any (λ u. bytes_eq n u.uid.items) us ≡ list_any (bytes_eq n) (names_in (entries_of us))
name_kept n [] = refl
name_kept n (u ∷ us) = ap (λ b. bytes_eq n u.uid.items || b) (name_kept n us)

-- as a slice of the users tells it
pub kept : (u : User) (us vs : List User) (b : Bool) → vs ≡ us → b ≡ list_any (λ v. bytes_eq u.uid.items v.uid.items) vs → b ≡ list_any (λ v. bytes_eq u.uid.items v.uid.items) us
kept u us vs b same e = e ∙ ap (list_any (λ (v : User). bytes_eq u.uid.items v.uid.items)) same

pub entries_more : (us vs : List User) (u : User) → vs ≡ us ++ u ∷ [] → entries_of vs ≡ entries_of us ++ entry_of u ∷ []
entries_more us vs u e = ap entries_of e ∙ map-append entry_of us (u ∷ [])
