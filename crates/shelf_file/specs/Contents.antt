-- What a shelf file describes.
use Rattle.std.specs.Prelude.{◌≡◌, ◌<◌, ◌≤◌, ℕ, ◌+◌, ◌==◌, Option, Some, None, List, [], ◌∷◌, length, codes}
use Rattle.std.specs.List.{list_any, range_with_len}
use Rattle.toml.specs.Data.{Data, Members, get_member}
use Rattle.dxc_num.specs.Dimensions.{Dimensions}
use Rattle.dxc_model.specs.declared.user.Class.{Class}
use Rattle.dxc_model.specs.Equipment.{has_bit, IsEquipment}
use Rattle.shelf_file.specs.Keys.{sid_of, modules_of, slots_of, equipped_of, idle_named, users_of, uid_of, class_of, salt_of, digest_of, value_at}
use Rattle.shelf_file.specs.declared.idle.IdleLimits.{IdleLimits}
use Rattle.shelf_file.specs.Checks.{IsDocument, first_fault, most_bytes}

-- a user: the name in upper case, the class, the salt and the kept digest
pub record UserEntry : Type 0 where
  pub name : List ℕ
  pub class : Class
  pub salt : List ℕ
  pub digest : List ℕ

-- a shelf: the identifier, the shape, the equipped modules as bits, how long each class may be idle, and the users in the file's order
pub record Contents : Type 0 where
  pub sid : List ℕ
  pub shape : Dimensions
  pub equipped : ℕ
  pub idle : IdleLimits
  pub users : List UserEntry

-- the table describes the user
pub record IsUser (u : Members) (e : UserEntry) : Type 0 where
  pub name : value_at (codes "uid") uid_of u ≡ Some e.name
  pub class : value_at (codes "class") class_of u ≡ Some e.class
  pub salt : value_at (codes "salt") salt_of u ≡ Some e.salt
  pub digest : value_at (codes "digest") digest_of u ≡ Some e.digest

-- each table describes the user of its place
abbrev pub AreUsers : List Members → List UserEntry → Type 0
AreUsers [] [] = Unit {0}
AreUsers [] (e ∷ es) = ⊥
AreUsers (u ∷ us) [] = ⊥
AreUsers (u ∷ us) (e ∷ es) = IsUser u e × AreUsers us es

-- the modules that are named, from 1; all where the key is left out
abbrev pub named_in : ℕ → Option Data → Option (List ℕ)
named_in modules None = Some (range_with_len 1 modules)
named_in modules (Some d) = equipped_of modules d

-- bit m is set where module m + 1 is named
abbrev pub Marks : ℕ → ℕ → List ℕ → Type 0
Marks modules bits ns = (m : ℕ) → m < modules → has_bit bits m ≡ list_any (λ n. n == m + 1) ns

-- the bits mark the modules of a list that was read rightly
abbrev pub AreMarked : ℕ → ℕ → Option (List ℕ) → Type 0
AreMarked modules bits o = (ns : List ℕ) × (o ≡ Some ns) × Marks modules bits ns

-- the document describes the shelf, and has no fault
pub record Describes (t : Members) (c : Contents) : Type 0 where
  pub sid : value_at (codes "sid") sid_of t ≡ Some c.sid
  pub modules : value_at (codes "modules") modules_of t ≡ Some c.shape.modules
  pub slots : value_at (codes "slots") slots_of t ≡ Some c.shape.slots
  pub equipment : IsEquipment c.shape c.equipped
  pub equipped : AreMarked c.shape.modules c.equipped (named_in c.shape.modules (get_member (codes "equipped") t))
  pub idle : idle_named (get_member (codes "idle") t) ≡ Some c.idle
  pub users : (us : List Members) × (value_at (codes "user") users_of t ≡ Some us) × AreUsers us c.users
  pub faultless : first_fault t ≡ None

-- the bytes of a file describe the shelf
abbrev pub IsShelf : List ℕ → Contents → Type 0
IsShelf bytes c = (length bytes ≤ most_bytes) × ((t : Members) × IsDocument bytes t × Describes t c)
