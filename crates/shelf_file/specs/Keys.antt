-- What the value at each key of a shelf file has to be.
use Rattle.std.specs.Prelude.{ℕ, ℤ, pos, negsuc, Bool, true, false, not, nat_le, nat_lt, ◌&&◌, ◌==◌, if◌then◌else◌, Option, Some, None, is_some, List, [], ◌∷◌, length, map, flat_map, option_map, option_and_then, option_to_list, codes}
use Rattle.std.specs.List.{list_all, list_any}
use Rattle.std.specs.Result.{result_ok}
use Rattle.std.specs.Char.{is_ascii_alphabetic, to_ascii_uppercase}
use Rattle.std.specs.Str.{bytes_eq}
use Rattle.toml.specs.Data.{Data, Items, no_items, item, Members, get_member, as_str, as_integer, as_array, as_table}
use Rattle.hex.specs.Hex.{decode_of, decode_sized}
use Rattle.tl1_text.specs.Tags.{as_sid, is_short, is_alphanumeric}
use Rattle.dxc_model.specs.declared.user.Class.{Class}
use Rattle.dxc_model.specs.declared.user.Class.TheVariants.{R, P, S}
use Rattle.shelf_file.specs.declared.idle.IdleLimits.{IdleLimits}

-- the value, where it passes
abbrev pub checked : {X : Type 0} → (X → Bool) → X → Option X
checked p x = if p x then Some x else None

-- a whole number that isn't negative
abbrev pub natural_of : ℤ → Option ℕ
natural_of (pos n) = Some n
natural_of (negsuc n) = None

abbrev pub number_of : Data → Option ℕ
number_of d = option_and_then natural_of (as_integer d)

-- the items of a list, in order
abbrev pub data_in : Items → List Data
data_in no_items = []
data_in (item d ds) = d ∷ data_in ds

abbrev pub list_of : Data → Option (List Data)
list_of d = option_map data_in (as_array d)

-- `sid`: a source identifier
abbrev pub sid_of : Data → Option (List ℕ)
sid_of d = option_and_then as_sid (as_str d)

-- `modules`: 2 to 64
abbrev pub modules_of : Data → Option ℕ
modules_of d = option_and_then (checked (λ n. nat_le 2 n && nat_le n 64)) (number_of d)

-- `slots`: 1 to 96
abbrev pub slots_of : Data → Option ℕ
slots_of d = option_and_then (checked (λ n. nat_le 1 n && nat_le n 96)) (number_of d)

-- a module's number, from 1
abbrev pub names_module : ℕ → Data → Bool
names_module modules d = is_some (option_and_then (checked (λ n. nat_le 1 n && nat_le n modules)) (number_of d))

abbrev pub numbers_in : List Data → List ℕ
numbers_in ds = flat_map (λ d. option_to_list (number_of d)) ds

-- no number comes twice
abbrev pub are_different : List ℕ → Bool
are_different [] = true
are_different (n ∷ ns) = not (list_any (λ m. m == n) ns) && are_different ns

-- the values are different module numbers
abbrev pub are_modules : ℕ → List Data → Bool
are_modules modules ds = list_all (names_module modules) ds && are_different (numbers_in ds)

-- `equipped`: a list of different module numbers
abbrev pub equipped_of : ℕ → Data → Option (List ℕ)
equipped_of modules d = option_map numbers_in (option_and_then (checked (are_modules modules)) (list_of d))

-- minutes: 1 to 1440
abbrev pub minutes_of : Data → Option ℕ
minutes_of d = option_and_then (checked (λ n. nat_le 1 n && nat_le n 1440)) (number_of d)

-- what is named at a class of `idle`: minutes, or no limit where it isn't there
abbrev pub limit_of : Option Data → Option (Option ℕ)
limit_of None = Some None
limit_of (Some d) = option_map Some (minutes_of d)

-- no class has a limit
abbrev pub no_limits : IdleLimits
no_limits = record { r = None; p = None; s = None }

-- the limits that these are, where each is as it has to be
abbrev pub limits_of : (r p s : Option (Option ℕ)) → Option IdleLimits
limits_of None p s = None
limits_of (Some r) None s = None
limits_of (Some r) (Some p) None = None
limits_of (Some r) (Some p) (Some s) = Some (record { r = r; p = p; s = s })

abbrev pub limits_in : Members → Option IdleLimits
limits_in t = limits_of (limit_of (get_member (codes "R") t)) (limit_of (get_member (codes "P") t)) (limit_of (get_member (codes "S") t))

-- `idle`: a table with the minutes of classes
abbrev pub idle_of : Data → Option IdleLimits
idle_of d = option_and_then limits_in (as_table d)

-- the limits that are named; none where the key is left out
abbrev pub idle_named : Option Data → Option IdleLimits
idle_named None = Some no_limits
idle_named (Some d) = idle_of d

-- the tables among some values
abbrev pub tables_in : List Data → List Members
tables_in ds = flat_map (λ d. option_to_list (as_table d)) ds

-- there are 1 to 64 values, all of them tables
abbrev pub are_tables : List Data → Bool
are_tables ds = (nat_le 1 (length ds) && nat_le (length ds) 64) && list_all (λ d. is_some (as_table d)) ds

-- `user`: a list of 1 to 64 tables
abbrev pub users_of : Data → Option (List Members)
users_of d = option_map tables_in (option_and_then (checked are_tables) (list_of d))

-- 1 to 10 letters and digits, of which the first is a letter
abbrev pub is_uid : List ℕ → Bool
is_uid [] = false
is_uid (b ∷ bs) = is_short 10 (b ∷ bs) && (is_ascii_alphabetic b && is_alphanumeric (b ∷ bs))

-- a name without regard to case
abbrev pub upper : List ℕ → List ℕ
upper text = map to_ascii_uppercase text

-- `uid`: a user's name
abbrev pub uid_of : Data → Option (List ℕ)
uid_of d = option_map upper (option_and_then (checked is_uid) (as_str d))

abbrev pub class_named : List ℕ → Option Class
class_named text =
    if bytes_eq text (codes "R") then Some R
    else if bytes_eq text (codes "P") then Some P
    else if bytes_eq text (codes "S") then Some S
    else None

-- `class`: one of three letters
abbrev pub class_of : Data → Option Class
class_of d = option_and_then class_named (as_str d)

-- `salt`: 0 to 32 bytes in hexadecimal
abbrev pub salt_of : Data → Option (List ℕ)
salt_of d = option_and_then (λ text. if nat_lt 64 (length text) then None else result_ok (decode_of text)) (as_str d)

-- `digest`: 32 bytes in hexadecimal
abbrev pub digest_of : Data → Option (List ℕ)
digest_of d = option_and_then (λ text. result_ok (decode_sized text 32)) (as_str d)

-- the value at a key, where it is as it has to be
abbrev pub value_at : {X : Type 0} → List ℕ → (Data → Option X) → Members → Option X
value_at key read t = option_and_then read (get_member key t)
