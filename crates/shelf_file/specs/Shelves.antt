-- What a shelf keeps of its users.
use Rattle.std.specs.Prelude.{◌≡◌, ℕ, ◌≤◌, true, List, length, Option}
use Rattle.std.specs.List.{AllByRecursion}
use Rattle.dxc_model.specs.Equipment.{IsEquipment}
use Rattle.dxc_model.specs.declared.user.Class.{Class}
use Rattle.dxc_model.specs.declared.user.Class.TheVariants.{R, P, S}
use Rattle.shelf_file.specs.declared.idle.IdleLimits.{IdleLimits}
use Rattle.shelf_file.specs.Keys.{is_uid, upper}
use Rattle.shelf_file.specs.Contents.{Contents, UserEntry}

-- a user as a file describes one: the name is a uid in upper case, and the digest has 32 bytes
pub record IsDescribed (e : UserEntry) : Type 0 where
  pub name : (text : List ℕ) × (is_uid text ≡ true) × (upper text ≡ e.name)
  pub digest : length e.digest ≡ 32

unfoldable pub AreDescribed : List UserEntry → Type 0
AreDescribed es = AllByRecursion IsDescribed es

-- the minutes of a class, after which a session without a byte ends
abbrev pub limit_for : IdleLimits → Class → Option ℕ
limit_for i R = i.r
limit_for i P = i.p
limit_for i S = i.s

-- equipment of the shape, 1 to 64 users, and no name of more than 10 bytes
pub record IsKept (c : Contents) : Type 0 where
  pub equipment : IsEquipment c.shape c.equipped
  pub some : 1 ≤ length c.users
  pub few : length c.users ≤ 64
  pub short : AllByRecursion (λ e. length e.name ≤ 10) c.users
  pub described : AreDescribed c.users
