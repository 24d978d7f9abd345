-- The checks of a shelf file, in their order, and the first fault that they find.
use Rattle.std.specs.Prelude.{◌≡◌, ◌<◌, ◌≤◌, ℕ, ◌+◌, Bool, if◌then◌else◌, Option, Some, None, List, [], ◌∷◌, ◌++◌, length, take, flat_map, option_map, option_to_list, slice_index_or, codes, IsUtf8, Result, MatchResult}
use Rattle.std.specs.List.{list_any, range_with_len}
use Rattle.std.specs.Str.{bytes_eq}
use Rattle.toml.specs.Data.{Data, Members, no_members, get_member}
use Rattle.toml.specs.Parse.{parse_document}
use Rattle.shelf_file.specs.declared.fault.ShelfKey.{ShelfKey}
use Rattle.shelf_file.specs.declared.fault.ShelfKey.TheVariants.{Sid, Modules, Slots, Equipped, Idle, User, Uid, Class, Salt, Digest}
use Rattle.shelf_file.specs.declared.fault.ShelfFault.{ShelfFault}
use Rattle.shelf_file.specs.declared.fault.ShelfFault.TheVariants.{TooLarge, NotToml, Missing, Bad, TwoUsers, NoMemory}
use Rattle.shelf_file.specs.Keys.{sid_of, modules_of, slots_of, equipped_of, idle_of, users_of, uid_of, class_of, salt_of, digest_of, value_at}

-- what is wrong with what was found at a key: nothing was found, or it isn't as it has to be
abbrev pub fault_of : {X : Type 0} → ShelfKey → ℕ → Option (Option X) → Option ShelfFault
fault_of key user None = Some (Missing key user)
fault_of key user (Some None) = Some (Bad key user)
fault_of key user (Some (Some x)) = None

abbrev pub fault_at : {X : Type 0} → ShelfKey → ℕ → List ℕ → (Data → Option X) → Members → Option ShelfFault
fault_at key user name read t = fault_of key user (option_map read (get_member name t))

-- a key, of the user of that number where it is a user's, and its name in the file
pub record Entry : Type 0 where
  pub key : ShelfKey
  pub user : ℕ
  pub name : List ℕ

abbrev pub entry_of : ShelfKey → ℕ → List ℕ → Entry
entry_of key user name = record { key = key; user = user; name = name }

-- a reading of a key gives its value, or what is wrong with it
abbrev pub IsReading : {X : Type 0} → Entry → (Data → Option X) → Members → Result X ShelfFault → Type 0
IsReading e read t r = MatchResult r (λ x. value_at e.name read t ≡ Some x) (λ f. fault_at e.key e.user e.name read t ≡ Some f)

-- the same of a key that may be left out
abbrev pub fault_if_there : {X : Type 0} → ShelfKey → ℕ → Option (Option X) → Option ShelfFault
fault_if_there key user None = None
fault_if_there key user (Some o) = fault_of key user (Some o)

-- how many modules the file names, and 0 where it names none rightly
abbrev pub modules_or_none : Option ℕ → ℕ
modules_or_none None = 0
modules_or_none (Some n) = n

abbrev pub module_count : Members → ℕ
module_count t = modules_or_none (value_at (codes "modules") modules_of t)

-- the checks of the top keys
abbrev pub top_checks : Members → List (Option ShelfFault)
top_checks t =
    fault_at Sid 0 (codes "sid") sid_of t
    ∷ fault_at Modules 0 (codes "modules") modules_of t
    ∷ fault_at Slots 0 (codes "slots") slots_of t
    ∷ fault_if_there Equipped 0 (option_map (equipped_of (module_count t)) (get_member (codes "equipped") t))
    ∷ fault_if_there Idle 0 (option_map idle_of (get_member (codes "idle") t))
    ∷ fault_at User 0 (codes "user") users_of t
    ∷ []

-- the names of some users
abbrev pub names_of : List Members → List (List ℕ)
names_of us = flat_map (λ u. option_to_list (value_at (codes "uid") uid_of u)) us

-- the name is one of these
abbrev pub is_taken : List (List ℕ) → Option (List ℕ) → Bool
is_taken names o = list_any (λ n. list_any (bytes_eq n) names) (option_to_list o)

-- the checks of a user's keys
abbrev pub key_checks : ℕ → Members → List (Option ShelfFault)
key_checks number u =
    fault_at Uid number (codes "uid") uid_of u
    ∷ fault_at Class number (codes "class") class_of u
    ∷ fault_at Salt number (codes "salt") salt_of u
    ∷ fault_at Digest number (codes "digest") digest_of u
    ∷ []

-- no earlier user has the name
abbrev pub name_check : List (List ℕ) → ℕ → Members → Option ShelfFault
name_check earlier number u = if is_taken earlier (value_at (codes "uid") uid_of u) then Some (TwoUsers number) else None

-- the checks of a user after these names: its keys, and then its name
abbrev pub checks_of : List (List ℕ) → ℕ → Members → List (Option ShelfFault)
checks_of earlier number u = key_checks number u ++ name_check earlier number u ∷ []

-- those of the user at a place, from 0
abbrev pub user_checks : List Members → ℕ → List (Option ShelfFault)
user_checks us i = checks_of (names_of (take i us)) (i + 1) (slice_index_or us i no_members)

-- those of all users, in order
abbrev pub users_checks : List Members → List (Option ShelfFault)
users_checks us = flat_map (user_checks us) (range_with_len 0 (length us))

-- the users of the file, and none where it has no list of them
abbrev pub users_or_none : Option (List Members) → List Members
users_or_none None = []
users_or_none (Some us) = us

abbrev pub users_at : Members → List Members
users_at t = users_or_none (value_at (codes "user") users_of t)

-- all checks: those of the top keys, and then those of each user in order
abbrev pub checks : Members → List (Option ShelfFault)
checks t = top_checks t ++ users_checks (users_at t)

-- the first that is there
abbrev pub first_some : {X : Type 0} → List (Option X) → Option X
first_some [] = None
first_some (None ∷ os) = first_some os
first_some (Some x ∷ os) = Some x

-- the first fault of a document
abbrev pub first_fault : Members → Option ShelfFault
first_fault t = first_some (checks t)

-- the bytes are this TOML document
abbrev pub IsDocument : List ℕ → Members → Type 0
IsDocument bytes t = IsUtf8 bytes × (parse_document bytes ≡ Some t)

-- the most bytes of a shelf file
abbrev pub most_bytes : ℕ
most_bytes = 65536

-- the first fault of a file: it is too large, or no document, or a check finds it; want of memory may always be answered
pub data IsFirstFault (bytes : List ℕ) : ShelfFault → Type 0 where
  no_memory : IsFirstFault bytes NoMemory
  too_large : most_bytes < length bytes → IsFirstFault bytes TooLarge
  not_toml : length bytes ≤ most_bytes → ((t : Members) → ¬ IsDocument bytes t) → IsFirstFault bytes NotToml
  found : (t : Members) (f : ShelfFault) → length bytes ≤ most_bytes → IsDocument bytes t → first_fault t ≡ Some f → IsFirstFault bytes f
